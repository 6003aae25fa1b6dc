-- Values of polynomials in symbols at fractions, as maps of rings: of the coefficients, and of polynomials in Z over them.
--   value_hom c          the value of a polynomial in the symbols; value-class: it is `value`
--   value-number, value-symbol    of a constant and of a symbol
--   values c             polynomials in Z over the symbols, over fractions; values-term, values-coefficient, values-class
--   in_z-class, values-to_z    a polynomial in Z without symbols
use Rattle.std.proofs.Common.{◌≡◌, ℕ, List, [], ◌∷◌, map, get_or, sym, ◌∙◌, ap, ap₂}
use Rattle.rinv_algebra.specs.Ring.{RingOps, RingLaws, FieldLaws}
use Rattle.rinv_algebra.specs.Polynomial.{Polynomial, poly_ops, constant, variable}
use Rattle.rinv_algebra.specs.Value.{value}
use Rattle.rinv_algebra.specs.Fraction.{Fraction, fraction_ops, over_one}
use Rattle.rinv_algebra.proofs.PolynomialLaws.{poly_laws}
use Rattle.rinv_theory.proofs.CRing.{Hom, hom-zero}
use Rattle.rinv_theory.proofs.Classes.{Class, class, class_ring, class_sound, class_ind, class-zero}
use Rattle.rinv_theory.proofs.Monoid.{Monomial, monomial, monomials}
use Rattle.rinv_theory.proofs.Polynomials.{polynomials, poly_ring, term_at, coefficient_at, class-cons, class-constant}
use Rattle.rinv_theory.proofs.Universal.{agree, change, change-term, change-coefficient}
use Rattle.rinv_theory.proofs.Values.{IsMap, map_after, constant_map, class_substitution, class-value, value-constant, value-variable}
use Rattle.rinv_theory.proofs.FractionLaws.{over_one_map}
use Rattle.rinv_theory.proofs.Fields.{poly_domain, fraction_laws}
use Rattle.rinv_theory.proofs.Fractions.{polynomial_fractions-into}
use Rattle.rinv_soundness.proofs.Substituting.{var, variable-class}
use Rattle.rinv_soundness.proofs.PlaceFacts.{outer-term}
use Rattle.rinv_soundness.proofs.OverFractions.{Inner, Nested, over_ring, into, over, over-term, to_z}

module _ {E : Type 0} (o : RingOps E) (l : RingLaws o) (field : FieldLaws o) where
  -- an element of the field as a fraction
  abbrev pub number : E → Fraction E
  number k = over_one o (constant o k)

  number_map : IsMap o (fraction_ops o) number
  number_map = map_after o (poly_ops o) (fraction_ops o) (fraction_laws o l field) (constant o) (over_one o) (constant_map o l) (over_one_map (poly_ops o) (poly_laws o l) (poly_domain o l field))

  -- a polynomial in Z without symbols
  pub in_z-class : (f : Polynomial E) → class (poly_ops (poly_ops o)) (map (λ t. (t.0, constant o t.1)) f) ≡ (to_z o l field).at (class (poly_ops o) f)
  in_z-class [] = class-zero (poly_ops (poly_ops o)) (poly_laws (poly_ops o) (poly_laws o l)) ∙ sym (hom-zero (to_z o l field)) ∙ ap (to_z o l field).at (sym (class-zero (poly_ops o) (poly_laws o l)))
  in_z-class ((a, c) ∷ f) =
      class-cons (poly_ops o) (poly_laws o l) (constant o c) a _
      ∙ ap₂ (poly_ring (poly_ops o) (poly_laws o l)).add (ap (λ x. term_at (poly_ops o) (poly_laws o l) x (monomial a)) (class-constant o l c) ∙ sym (outer-term (polynomials o l) (polynomials (poly_ops o) (poly_laws o l)) (class o c) (monomial a))) (in_z-class f)
      ∙ sym ((to_z o l field).add _ _) ∙ ap (to_z o l field).at (sym (class-cons o l c a f))

  module _ (c : List (Fraction E)) where
    -- the value of a polynomial in the symbols
    pub value_hom : Hom (poly_ring o l) (class_ring (fraction_ops o) (fraction_laws o l field))
    value_hom = class_substitution o l (fraction_ops o) (fraction_laws o l field) number number_map c

    -- it is the value at the fractions
    pub value-class : (b : Polynomial E) → class (fraction_ops o) (value (fraction_ops o) number c b) ≡ value_hom.at (class (poly_ops o) b)
    unfolding value_hom
    value-class b = class-value o l (fraction_ops o) (fraction_laws o l field) number number_map c b

    -- a constant is itself
    pub value-number : (k : Class o) → value_hom.at (term_at o l k monomials.one) ≡ (into o l field).at (term_at o l k monomials.one)
    value-number = class_ind o l (λ k. value_hom.at (term_at o l k monomials.one) ≡ (into o l field).at (term_at o l k monomials.one)) (λ k. (class_ring (fraction_ops o) (fraction_laws o l field)).is_set _ _) (λ k.
        ap value_hom.at (sym (class-constant o l k)) ∙ sym (value-class (constant o k))
        ∙ class_sound (fraction_ops o) (fraction_laws o l field) _ _ (value-constant o l (fraction_ops o) (fraction_laws o l field) number number_map c k)
        ∙ sym (polynomial_fractions-into o l field (constant o k)) ∙ ap (into o l field).at (class-constant o l k))

    -- a symbol is the fraction at its place, and 1 past them
    pub value-symbol : (k : ℕ) → value_hom.at (var o l k) ≡ class (fraction_ops o) (get_or c k (fraction_ops o).one)
    value-symbol k =
        ap value_hom.at (sym (variable-class o l k)) ∙ sym (value-class (variable o k))
        ∙ class_sound (fraction_ops o) (fraction_laws o l field) _ _ (value-variable o l (fraction_ops o) (fraction_laws o l field) number number_map c k)

    -- polynomials in Z over the symbols, over fractions
    abbrev pub values : Hom (poly_ring (poly_ops o) (poly_laws o l)) (over_ring o l field)
    values = change (polynomials (poly_ops o) (poly_laws o l)) (polynomials (fraction_ops o) (fraction_laws o l field)) value_hom

    -- at a term
    pub values-term : (b : Inner o l field) (m : Monomial) → values.at (term_at (poly_ops o) (poly_laws o l) b m) ≡ term_at (fraction_ops o) (fraction_laws o l field) (value_hom.at b) m
    values-term b m = change-term (polynomials (poly_ops o) (poly_laws o l)) (polynomials (fraction_ops o) (fraction_laws o l field)) value_hom b m

    -- the coefficients of the value are the values of the coefficients
    pub values-coefficient : (f : Nested o l field) (m : Monomial) → coefficient_at (fraction_ops o) (fraction_laws o l field) (values.at f) m ≡ value_hom.at (coefficient_at (poly_ops o) (poly_laws o l) f m)
    values-coefficient f m = change-coefficient (polynomials (poly_ops o) (poly_laws o l)) (polynomials (fraction_ops o) (fraction_laws o l field)) value_hom f m

    -- the same on lists
    pub values-class : (f : Polynomial (Polynomial E)) → class (poly_ops (fraction_ops o)) (map (λ t. (t.0, value (fraction_ops o) number c t.1)) f) ≡ values.at (class (poly_ops (poly_ops o)) f)
    values-class [] = class-zero (poly_ops (fraction_ops o)) (poly_laws (fraction_ops o) (fraction_laws o l field)) ∙ sym (hom-zero values) ∙ ap values.at (sym (class-zero (poly_ops (poly_ops o)) (poly_laws (poly_ops o) (poly_laws o l))))
    values-class ((a, b) ∷ f) =
        class-cons (fraction_ops o) (fraction_laws o l field) (value (fraction_ops o) number c b) a _
        ∙ ap₂ (over_ring o l field).add (ap (λ x. term_at (fraction_ops o) (fraction_laws o l field) x (monomial a)) (value-class b) ∙ sym (values-term _ (monomial a))) (values-class f)
        ∙ sym (values.add _ _) ∙ ap values.at (sym (class-cons (poly_ops o) (poly_laws o l) b a f))

    -- without symbols the value is the polynomial itself
    pub values-to_z : (x : Inner o l field) → values.at ((to_z o l field).at x) ≡ (over o l field).at ((to_z o l field).at x)
    values-to_z = agree (polynomials o l) (over_ring o l field) (λ x. values.at ((to_z o l field).at x)) (λ x. (over o l field).at ((to_z o l field).at x))
        (λ x y. ap values.at ((to_z o l field).add x y) ∙ values.add _ _) (λ x y. ap (over o l field).at ((to_z o l field).add x y) ∙ (over o l field).add _ _)
        (λ k m.
        ap values.at (outer-term (polynomials o l) (polynomials (poly_ops o) (poly_laws o l)) k m) ∙ values-term _ m ∙ ap (λ x. term_at (fraction_ops o) (fraction_laws o l field) x m) (value-number k)
        ∙ sym (over-term o l field _ m) ∙ ap (over o l field).at (sym (outer-term (polynomials o l) (polynomials (poly_ops o) (poly_laws o l)) k m)))
