-- From polynomials in Z and the space's variables to polynomials in Z over fractions: K[Z,x] as K[x][Z], in K(x)[Z].
--   nested n             the first n variables outside, the others inside
--   over                 polynomials over polynomials, over fractions; over-coefficient, over_injective
--   constant_over d      an element d of K[x] in K(x)[Z]
--   over_fractions-class    `over_fractions` is the one after the other
--   in_z-class           a polynomial in Z with constants over one for coefficients
--   scale-class          a polynomial over fractions times an element of K[x]
use Rattle.std.proofs.Common.{◌≡◌, ℕ, List, [], ◌∷◌, ◌++◌, map, take, drop, refl, sym, ◌∙◌, ap, ap₂}
use Rattle.rinv_algebra.specs.Ring.{RingOps, RingLaws, FieldLaws}
use Rattle.rinv_algebra.specs.Polynomial.{Polynomial, poly_ops, constant, scale, product, term_product}
use Rattle.rinv_algebra.specs.Fraction.{Fraction, fraction_ops, over_one}
use Rattle.rinv_algebra.proofs.PolynomialLaws.{poly_laws}
use Rattle.rinv_theory.proofs.CRing.{CRing, Hom, hom-zero}
use Rattle.rinv_theory.proofs.Classes.{Class, class, class_ring, class-mul, class-zero}
use Rattle.rinv_theory.proofs.Monoid.{Monomial, monomial, monomials, monomial-one}
use Rattle.rinv_theory.proofs.Polynomials.{polynomials, poly_ring, term_at, coefficient_at, class-cons, class-term, class-constant}
use Rattle.rinv_theory.proofs.Universal.{change-term, change-coefficient, change_injective}
use Rattle.rinv_theory.proofs.Places.{front, front-list, back-list}
use Rattle.rinv_theory.proofs.Nested.{nest, nest-term}
use Rattle.rinv_theory.proofs.Fields.{poly_domain, fraction_laws}
use Rattle.rinv_theory.proofs.Fractions.{polynomial_fractions, polynomial_fractions-into, embedding, scalar}
use Rattle.rinv_soundness.proofs.PlaceFacts.{outer, outer-term}

-- the class of a term times a polynomial
pub term_product-class : {E : Type 0} (o : RingOps E) (l : RingLaws o) (a : List ℕ) (c : E) (f : Polynomial E) → class (poly_ops o) (term_product o (a, c) f) ≡ (poly_ring o l).mul (term_at o l (class o c) (monomial a)) (class (poly_ops o) f)
unfolding product
term_product-class o l a c f = ap (class (poly_ops o)) (sym (append_none _)) ∙ class-mul (poly_ops o) (poly_laws o l) ((a, c) ∷ []) f ∙ ap (λ x. (poly_ring o l).mul x (class (poly_ops o) f)) (class-term o l c a)
  where
    append_none : {X : Type 0} (xs : List X) → xs ++ [] ≡ xs
    append_none [] = refl
    append_none (x ∷ xs) = ap (λ ys. x ∷ ys) (append_none xs)

module _ {E : Type 0} (o : RingOps E) (l : RingLaws o) (field : FieldLaws o) where
  -- polynomials in the space's variables, in Z over these, and in Z over fractions
  abbrev pub Inner : Type 0
  Inner = Class (poly_ops o)

  abbrev pub Nested : Type 0
  Nested = Class (poly_ops (poly_ops o))

  abbrev pub Over : Type 0
  Over = Class (poly_ops (fraction_ops o))

  -- the ring of the last
  abbrev pub over_ring : CRing Over
  over_ring = poly_ring (fraction_ops o) (fraction_laws o l field)

  -- the first n variables outside
  abbrev pub nested : ℕ → Hom (poly_ring o l) (poly_ring (poly_ops o) (poly_laws o l))
  nested n = nest (polynomials o l) (polynomials o l) (polynomials (poly_ops o) (poly_laws o l)) n

  -- an element of K[x] as a fraction
  abbrev pub into : Hom (poly_ring o l) (class_ring (fraction_ops o) (fraction_laws o l field))
  into = (polynomial_fractions o l field).into

  -- coefficients as fractions
  abbrev pub over : Hom (poly_ring (poly_ops o) (poly_laws o l)) over_ring
  over = embedding (poly_domain o l field) (polynomial_fractions o l field) (polynomials (poly_ops o) (poly_laws o l)) (polynomials (fraction_ops o) (fraction_laws o l field))

  -- an element of K[x] as a constant over fractions
  abbrev pub constant_over : Inner → Over
  constant_over d = scalar (poly_domain o l field) (polynomial_fractions o l field) (polynomials (poly_ops o) (poly_laws o l)) (polynomials (fraction_ops o) (fraction_laws o l field)) d

  -- the value of `over` at a term
  pub over-term : (d : Inner) (m : Monomial) → over.at (term_at (poly_ops o) (poly_laws o l) d m) ≡ term_at (fraction_ops o) (fraction_laws o l field) (into.at d) m
  over-term d m = change-term (polynomials (poly_ops o) (poly_laws o l)) (polynomials (fraction_ops o) (fraction_laws o l field)) into d m

  -- the coefficients as fractions
  pub over-coefficient : (x : Nested) (m : Monomial) → coefficient_at (fraction_ops o) (fraction_laws o l field) (over.at x) m ≡ into.at (coefficient_at (poly_ops o) (poly_laws o l) x m)
  over-coefficient x m = change-coefficient (polynomials (poly_ops o) (poly_laws o l)) (polynomials (fraction_ops o) (fraction_laws o l field)) into x m

  -- different polynomials stay different
  pub over_injective : (x y : Nested) → over.at x ≡ over.at y → x ≡ y
  over_injective = change_injective (polynomials (poly_ops o) (poly_laws o l)) (polynomials (fraction_ops o) (fraction_laws o l field)) into (polynomial_fractions o l field).injective

  -- a polynomial over fractions times an element of K[x], by coefficients
  pub constant_over-coefficient : (d : Inner) (f : Over) (m : Monomial) → coefficient_at (fraction_ops o) (fraction_laws o l field) (over_ring.mul (constant_over d) f) m ≡ (class_ring (fraction_ops o) (fraction_laws o l field)).mul (into.at d) (coefficient_at (fraction_ops o) (fraction_laws o l field) f m)
  constant_over-coefficient d f m = ap (coefficient_at (fraction_ops o) (fraction_laws o l field) (over_ring.mul (constant_over d) f)) (sym (monomials.one_mul m)) ∙ (polynomials (fraction_ops o) (fraction_laws o l field)).coefficient_times (into.at d) monomials.one m f

  -- the same on lists
  pub scale-class : (d : Polynomial E) (f : Polynomial (Fraction E)) → class (poly_ops (fraction_ops o)) (scale (fraction_ops o) (over_one o d) f) ≡ over_ring.mul (constant_over (class (poly_ops o) d)) (class (poly_ops (fraction_ops o)) f)
  scale-class d f = term_product-class (fraction_ops o) (fraction_laws o l field) [] (over_one o d) f ∙ ap (λ x. over_ring.mul x (class (poly_ops (fraction_ops o)) f)) (ap₂ (term_at (fraction_ops o) (fraction_laws o l field)) (sym (polynomial_fractions-into o l field d)) monomial-one)

  -- a polynomial with its coefficients as constants
  abbrev pub to_z : Hom (poly_ring o l) (poly_ring (poly_ops o) (poly_laws o l))
  to_z = outer (polynomials o l) (polynomials (poly_ops o) (poly_laws o l))

  -- a polynomial with elements of the field for coefficients, over fractions
  abbrev pub with_constants : Polynomial E → Polynomial (Fraction E)
  with_constants f = map (λ t. (t.0, over_one o (constant o t.1))) f

  -- its class
  pub with_constants-class : (f : Polynomial E) → class (poly_ops (fraction_ops o)) (with_constants f) ≡ over.at (to_z.at (class (poly_ops o) f))
  with_constants-class [] =
      class-zero (poly_ops (fraction_ops o)) (poly_laws (fraction_ops o) (fraction_laws o l field)) ∙ sym (hom-zero over) ∙ ap over.at (sym (hom-zero to_z) ∙ ap to_z.at (sym (class-zero (poly_ops o) (poly_laws o l))))
  with_constants-class ((a, c) ∷ f) =
      class-cons (fraction_ops o) (fraction_laws o l field) _ a (with_constants f)
      ∙ ap₂ over_ring.add (first c a) (with_constants-class f)
      ∙ sym (over.add _ _) ∙ ap over.at (sym (to_z.add _ _) ∙ ap to_z.at (sym (class-cons o l c a f)))
    where
      first : (c : E) (a : List ℕ) → term_at (fraction_ops o) (fraction_laws o l field) (class (fraction_ops o) (over_one o (constant o c))) (monomial a) ≡ over.at (to_z.at (term_at o l (class o c) (monomial a)))
      first c a =
          ap (λ x. term_at (fraction_ops o) (fraction_laws o l field) x (monomial a)) (sym (polynomial_fractions-into o l field (constant o c)) ∙ ap into.at (class-constant o l c))
          ∙ sym (over-term _ (monomial a)) ∙ ap over.at (sym (outer-term (polynomials o l) (polynomials (poly_ops o) (poly_laws o l)) (class o c) (monomial a)))

  -- the first n variables outside, over fractions
  abbrev pub split_over : ℕ → Polynomial E → Polynomial (Fraction E)
  split_over n f = map (λ t. (take n t.0, over_one o ((drop n t.0, t.1) ∷ []))) f

  -- its class
  pub split_over-class : (n : ℕ) (f : Polynomial E) → class (poly_ops (fraction_ops o)) (split_over n f) ≡ over.at ((nested n).at (class (poly_ops o) f))
  split_over-class n [] =
      class-zero (poly_ops (fraction_ops o)) (poly_laws (fraction_ops o) (fraction_laws o l field)) ∙ sym (hom-zero over) ∙ ap over.at (sym (hom-zero (nested n)) ∙ ap (nested n).at (sym (class-zero (poly_ops o) (poly_laws o l))))
  split_over-class n ((a, c) ∷ f) =
      class-cons (fraction_ops o) (fraction_laws o l field) _ (take n a) (split_over n f)
      ∙ ap₂ over_ring.add (first c a) (split_over-class n f)
      ∙ sym (over.add _ _) ∙ ap over.at (sym ((nested n).add _ _) ∙ ap (nested n).at (sym (class-cons o l c a f)))
    where
      first : (c : E) (a : List ℕ) → term_at (fraction_ops o) (fraction_laws o l field) (class (fraction_ops o) (over_one o ((drop n a, c) ∷ []))) (monomial (take n a)) ≡ over.at ((nested n).at (term_at o l (class o c) (monomial a)))
      first c a =
          ap₂ (term_at (fraction_ops o) (fraction_laws o l field)) (sym (polynomial_fractions-into o l field ((drop n a, c) ∷ [])) ∙ ap into.at (class-term o l c (drop n a) ∙ ap (term_at o l (class o c)) (sym (back-list n a)))) (sym (front-list n a))
          ∙ sym (over-term _ (front n (monomial a))) ∙ ap over.at (sym (nest-term (polynomials o l) (polynomials o l) (polynomials (poly_ops o) (poly_laws o l)) n (class o c) (monomial a)))
