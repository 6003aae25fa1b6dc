-- Values at fractions in the space's variables have multiples without denominators.
--   InSpace f            f is a fraction in the space's variables: numerator and denominator are, and the denominator is not zero
--   fraction-multiple    as a constant it has such a multiple
--   value-multiple       so has the value of a polynomial in symbols
--   multiple-fixed       what has such a multiple stays, where the later variables are put 1
--   values-multiple      so has the value of a polynomial in Z over symbols, where the later variables are put 1
--   relations-multiple   a sum of multiples of relations has one, where the relations have
use Rattle.std.proofs.Common.{◌≡◌, ◌⊎◌, ℕ, ◌*◌, ◌<◌, ◌≤◌, List, length, get_or, false, sym, ◌∙◌, ap, subst, arith, inl, inr, true≢false}
use Rattle.std.proofs.lemmas.List.{get_or_past}
use mathlib.Core.Logic.{∥∥₁_prop, ∥∥₁_elim, ∥∥₁_map}
use Rattle.rinv_algebra.specs.Ring.{RingOps, RingLaws, FieldLaws}
use Rattle.rinv_algebra.specs.Polynomial.{poly_ops}
use Rattle.rinv_algebra.specs.Fraction.{Fraction, fraction_ops, over_one}
use Rattle.rinv_algebra.proofs.PolynomialLaws.{poly_laws}
use Rattle.rinv_theory.proofs.CRing.{CRing, Hom, hom-zero}
use Rattle.rinv_theory.proofs.Classes.{Class, class, class_ring, class_sound, class_exact, class-mul, class-zero, class-one}
use Rattle.rinv_theory.proofs.Monoid.{Monomial, monomials}
use Rattle.rinv_theory.proofs.TermRing.{terms_ind, term_zero, split_term, constant-term, monomial-term}
use Rattle.rinv_theory.proofs.Polynomials.{polynomials, poly_ring, term_at}
use Rattle.rinv_theory.proofs.Universal.{relabel-term}
use Rattle.rinv_theory.proofs.Substitution.{variable_monomial, monomial_by_variables}
use Rattle.rinv_theory.proofs.Of.{Of, of_any, of_where, of-weaken, of-term}
use Rattle.rinv_theory.proofs.Ideals.{In}
use Rattle.rinv_theory.proofs.Places.{front, front-mul}
use Rattle.rinv_theory.proofs.FractionLaws.{as_pair-fraction, pair-times_denominator}
use Rattle.rinv_theory.proofs.Fields.{poly_domain, fraction_laws}
use Rattle.rinv_theory.proofs.Fractions.{polynomial_fractions-into}
use Rattle.rinv_soundness.proofs.FirstVariables.{low_or_high, front-front, retract, retract-front, constant_front, more_variables}
use Rattle.rinv_soundness.proofs.Substituting.{var, move}
use Rattle.rinv_soundness.proofs.PlaceFacts.{nest-front, outer-term}
use Rattle.rinv_soundness.proofs.OverFractions.{Inner, Nested, Over, over_ring, nested, into, over, over-term, to_z}
use Rattle.rinv_soundness.proofs.HasMultiples.{InVariables, behind_z, HasMultiple, KeepsSums, KeepsMultiples, read-move, multiple-of, multiple-add, multiple-mul, multiple-front}
use Rattle.rinv_soundness.proofs.SymbolValues.{value_hom, value-number, value-symbol, values, values-term}

module _ {E : Type 0} (o : RingOps E) (l : RingLaws o) (field : FieldLaws o) (n : ℕ) where
  abbrev Rational : CRing (Class (fraction_ops o))
  Rational = class_ring (fraction_ops o) (fraction_laws o l field)

  -- a fraction in the space's variables
  pub record InSpace (f : Fraction E) : Type 0 where
    pub numerator : InVariables o l field n n (class (poly_ops o) f.0)
    pub denominator : InVariables o l field n n (class (poly_ops o) f.1)
    pub nonzero : (poly_ops o).same f.1 (poly_ops o).zero ≡ false

  -- a fraction as a constant
  abbrev pub as_constant : Class (fraction_ops o) → Over o l field
  as_constant x = term_at (fraction_ops o) (fraction_laws o l field) x monomials.one

  -- nothing is asked of the multiple
  abbrev pub Any : Inner o l field → Type 0
  Any h = Unit {0}

  any_sums : KeepsSums o l field n Any
  any_sums x y p q = tt

  any_multiples : KeepsMultiples o l field n Any
  any_multiples u x p = tt

  -- a fraction times its denominator is its numerator
  pub fraction-times : (f : Fraction E) → (poly_ops o).same f.1 (poly_ops o).zero ≡ false → Rational.mul ((into o l field).at (class (poly_ops o) f.1)) (class (fraction_ops o) f) ≡ (into o l field).at (class (poly_ops o) f.0)
  fraction-times f h =
      ap (λ x. Rational.mul x (class (fraction_ops o) f)) (polynomial_fractions-into o l field f.1 ∙ ap (λ g. class (fraction_ops o) (over_one o g.1)) (sym (as_pair-fraction (poly_ops o) f h)))
      ∙ sym (class-mul (fraction_ops o) (fraction_laws o l field) _ f) ∙ class_sound (fraction_ops o) (fraction_laws o l field) _ _ (pair-times_denominator (poly_ops o) (poly_laws o l) (poly_domain o l field) f)
      ∙ ap (λ g. class (fraction_ops o) (over_one o g.0)) (as_pair-fraction (poly_ops o) f h) ∙ sym (polynomial_fractions-into o l field f.0)

  -- a fraction in the space's variables has a multiple without denominators
  pub fraction-multiple : (f : Fraction E) → InSpace f → HasMultiple o l field n Any (as_constant (class (fraction_ops o) f))
  fraction-multiple f i = record {
    d = class (poly_ops o) f.1;
    h = (move o l n).at (class (poly_ops o) f.0);
    d_in_space = i.denominator;
    h_in_both = behind_z o l field n i.numerator;
    nonzero = λ e. true≢false (sym (class_exact (poly_ops o) (poly_laws o l) f.1 _ (e ∙ sym (class-zero (poly_ops o) (poly_laws o l)))) ∙ i.nonzero);
    multiple = read-move o l field n _ ∙ ap as_constant (sym (fraction-times f i.nonzero)) ∙ sym (constant-term (polynomials (fraction_ops o) (fraction_laws o l field)) _ _ monomials.one);
    property = tt;
  }

  -- a polynomial in the space's variables has one, in Z
  pub z-multiple : {x : Inner o l field} → InVariables o l field n n x → HasMultiple o l field n Any ((over o l field).at ((to_z o l field).at x))
  z-multiple {x} r = subst (HasMultiple o l field n Any) (ap (over o l field).at (nest-front (polynomials o l) (polynomials (poly_ops o) (poly_laws o l)) n r)) (multiple-of o l field n (more_variables (polynomials o l) n (2 * n) (omega arith) r) tt)

  module _ (c : List (Fraction E)) (in_space : (k : ℕ) → k < length c → InSpace (get_or c k (fraction_ops o).one)) where
    abbrev Constant : Inner o l field → Type 0
    Constant b = HasMultiple o l field n Any (as_constant ((value_hom o l field c).at b))

    constant-add : (x y : Inner o l field) → Constant x → Constant y → Constant ((poly_ring o l).add x y)
    constant-add x y a b = subst (HasMultiple o l field n Any) ((polynomials (fraction_ops o) (fraction_laws o l field)).term_add _ _ monomials.one ∙ ap as_constant (sym ((value_hom o l field c).add x y))) (multiple-add o l field n any_sums any_multiples a b)

    constant-mul : (x y : Inner o l field) → Constant x → Constant y → Constant ((poly_ring o l).mul x y)
    constant-mul x y a b = subst (HasMultiple o l field n Any) (constant-term (polynomials (fraction_ops o) (fraction_laws o l field)) _ _ monomials.one ∙ ap as_constant (sym ((value_hom o l field c).mul x y))) (multiple-mul o l field n any_multiples a b)

    constant-number : (k : Class o) → Constant (term_at o l k monomials.one)
    constant-number k = subst (HasMultiple o l field n Any) (read-move o l field n _ ∙ ap as_constant (sym (value-number o l field c k))) (multiple-of o l field n (behind_z o l field n (constant_front (polynomials o l) n k)) tt)

    constant-symbol : (k : ℕ) → Constant (var o l k)
    constant-symbol k = go (low_or_high k (length c))
      where
        go : (k < length c) ⊎ (length c ≤ k) → Constant (var o l k)
        go (inl h) = subst (λ x. HasMultiple o l field n Any (as_constant x)) (sym (value-symbol o l field c k)) (fraction-multiple _ (in_space k h))
        go (inr h) =
            let past : (value_hom o l field c).at (term_at o l (class_ring o l).one monomials.one) ≡ (value_hom o l field c).at (var o l k) =
            ap (value_hom o l field c).at (polynomials o l).term_one ∙ (value_hom o l field c).one ∙ sym (class-one (fraction_ops o) (fraction_laws o l field)) ∙ ap (class (fraction_ops o)) (sym (get_or_past c k (fraction_ops o).one h)) ∙ sym (value-symbol o l field c k) in
            subst (λ x. HasMultiple o l field n Any (as_constant x)) past (constant-number (class_ring o l).one)

    constant-monomial : (m : Monomial) → ∥ Constant (term_at o l (class_ring o l).one m) ∥₁
    constant-monomial = monomial_by_variables (λ m. ∥ Constant (term_at o l (class_ring o l).one m) ∥₁) (λ m. ∥∥₁_prop) ∣ constant-number (class_ring o l).one ∣₁
        (λ k m i. ∥∥₁_map i (λ a. subst Constant (monomial-term (polynomials o l) (variable_monomial k) m (class_ring o l).one) (constant-mul _ _ (constant-symbol k) a)))

    -- the value of a polynomial in symbols has one
    pub value-multiple : (b : Inner o l field) → ∥ Constant b ∥₁
    value-multiple = terms_ind (polynomials o l) (λ b. ∥ Constant b ∥₁) (λ b. ∥∥₁_prop) ∣ subst Constant (term_zero (polynomials o l) monomials.one) (constant-number (class_ring o l).zero) ∣₁
        (λ k m x i. ∥∥₁_elim (constant-monomial m) ∥∥₁_prop (λ a. ∥∥₁_map i (λ b. constant-add _ _ (subst Constant (sym (split_term (polynomials o l) k m)) (constant-mul _ _ (constant-number k) a)) b)))

    -- the later variables put 1
    abbrev pub spatial : Hom (over_ring o l field) (over_ring o l field)
    spatial = retract (polynomials (fraction_ops o) (fraction_laws o l field)) n

    spatial-term : (b : Inner o l field) (m : Monomial) → spatial.at ((values o l field c).at (term_at (poly_ops o) (poly_laws o l) b m)) ≡ (over_ring o l field).mul (as_constant ((value_hom o l field c).at b)) ((over o l field).at ((to_z o l field).at (term_at o l (class_ring o l).one (front n m))))
    spatial-term b m =
        ap spatial.at (values-term o l field c b m) ∙ relabel-term (polynomials (fraction_ops o) (fraction_laws o l field)) (polynomials (fraction_ops o) (fraction_laws o l field)) (front n) (front-mul n) _ m ∙ split_term (polynomials (fraction_ops o) (fraction_laws o l field)) _ (front n m)
        ∙ ap ((over_ring o l field).mul _) (sym (ap (over o l field).at (outer-term (polynomials o l) (polynomials (poly_ops o) (poly_laws o l)) _ (front n m)) ∙ over-term o l field _ (front n m) ∙ ap (λ x. term_at (fraction_ops o) (fraction_laws o l field) x (front n m)) (ap (into o l field).at (polynomials o l).term_one ∙ (into o l field).one)))

    -- zero has one, where M holds of zero
    pub nothing-multiple : {M : Inner o l field → Type 0} → M (poly_ring o l).zero → HasMultiple o l field n M (over_ring o l field).zero
    nothing-multiple {M} z = subst (HasMultiple o l field n M) (ap (over o l field).at (hom-zero (nested o l field n)) ∙ hom-zero (over o l field)) (multiple-of o l field n Of.none z)

    -- the value of a polynomial in Z over symbols has one, where the later variables are put 1
    pub values-multiple : (u : Nested o l field) → ∥ HasMultiple o l field n Any (spatial.at ((values o l field c).at u)) ∥₁
    values-multiple = terms_ind (polynomials (poly_ops o) (poly_laws o l)) (λ u. ∥ HasMultiple o l field n Any (spatial.at ((values o l field c).at u)) ∥₁) (λ u. ∥∥₁_prop)
        ∣ subst (HasMultiple o l field n Any) (sym (ap spatial.at (hom-zero (values o l field c)) ∙ hom-zero spatial)) (nothing-multiple {M = Any} tt) ∣₁
        (λ b m x i. ∥∥₁_elim (value-multiple b) ∥∥₁_prop (λ a. ∥∥₁_map i (λ j. subst (HasMultiple o l field n Any)
        (ap (λ y. (over_ring o l field).add y (spatial.at ((values o l field c).at x))) (sym (spatial-term b m)) ∙ sym (ap spatial.at ((values o l field c).add _ _) ∙ spatial.add _ _))
        (multiple-add o l field n any_sums any_multiples (multiple-mul o l field n any_multiples a (z-multiple (of-term (polynomials o l) _ (front n m) (front-front n n same m)))) j))))
      where
        same : n ≤ n
        same = omega arith

    -- what has such a multiple stays, where the later variables are put 1
    pub multiple-fixed : {M : Inner o l field → Type 0} {x : Over o l field} → HasMultiple o l field n M x → spatial.at x ≡ x
    multiple-fixed {M} {x} a = ∥∥₁_elim (of_any (polynomials (fraction_ops o) (fraction_laws o l field)) x) ((over_ring o l field).is_set _ _) (λ r.
        retract-front (polynomials (fraction_ops o) (fraction_laws o l field)) n (of-weaken (polynomials (fraction_ops o) (fraction_laws o l field)) (λ m q. monomials.same_eq (front n m) m q.1)
        (of_where (polynomials (fraction_ops o) (fraction_laws o l field)) (λ m. monomials.same (front n m) m) r (λ e off. multiple-front o l field n a e (λ q. true≢false (sym (monomials.same_refl e) ∙ ap (λ k. monomials.same k e) (sym q) ∙ off))))))

    module _ {M : Inner o l field → Type 0} (zero : M (poly_ring o l).zero) (sums : KeepsSums o l field n M) (multiples : KeepsMultiples o l field n M) {I : Type 0} (G : I → Nested o l field) (relation : (k : I) → HasMultiple o l field n M ((values o l field c).at (G k))) where
      -- a sum of multiples of relations has one, where the relations have
      pub relations-multiple : {x : Nested o l field} → In (poly_ring (poly_ops o) (poly_laws o l)) G x → ∥ HasMultiple o l field n M (spatial.at ((values o l field c).at x)) ∥₁
      relations-multiple In.none = ∣ subst (HasMultiple o l field n M) (sym (ap spatial.at (hom-zero (values o l field c)) ∙ hom-zero spatial)) (nothing-multiple zero) ∣₁
      relations-multiple (In.more {f = x} u k r) = ∥∥₁_elim (values-multiple u) ∥∥₁_prop (λ a. ∥∥₁_map (relations-multiple r) (λ b. subst (HasMultiple o l field n M)
          (ap (λ y. (over_ring o l field).add y (spatial.at ((values o l field c).at x))) (ap ((over_ring o l field).mul _) (sym (multiple-fixed (relation k))) ∙ sym (ap spatial.at ((values o l field c).mul u (G k)) ∙ spatial.mul _ _)) ∙ sym (ap spatial.at ((values o l field c).add _ _) ∙ spatial.add _ _))
          (multiple-add o l field n sums multiples (multiple-mul o l field n multiples a (relation k)) b)))
