-- Rewriting: the coefficients of the rests of P(Z) and Q(Z) by relations with symbols stand in the ratio of an invariant P/Q.
--   IsRest f r           r is a rest of f by the relations
--   ratio                at each monomial the coefficients of the two rests have values in the ratio of P and Q
--   rest-vanishes        where Q(Z) has a multiple in the ideal, the values of its rest are zero
--   vanishes-rest        and the other way round
use Rattle.std.proofs.Common.{◌≡◌, ℕ, ◌*◌, ◌<◌, List, [], ◌∷◌, length, get_or, refl, sym, ◌∙◌, ap, ap₂, subst}
use mathlib.Core.Logic.{∥∥₁_prop, ∥∥₁_elim, ∥∥₁_map}
use Rattle.rinv_algebra.specs.Ring.{RingOps, RingLaws, FieldLaws}
use Rattle.rinv_algebra.specs.Polynomial.{poly_ops}
use Rattle.rinv_algebra.specs.Fraction.{Fraction, fraction_ops}
use Rattle.rinv_algebra.proofs.PolynomialLaws.{poly_laws}
use Rattle.rinv_theory.proofs.CRing.{CRing, Hom, hom-zero, hom-neg, add_neg, add_cancel}
use Rattle.rinv_theory.proofs.Solver.{ring, reading}
use Rattle.rinv_theory.proofs.Classes.{Class, class_ring}
use Rattle.rinv_theory.proofs.Monoid.{Monomial, Monoid, monomials}
use Rattle.rinv_theory.proofs.TermRing.{TermRing, constants, coefficient-zero, coefficient-neg, term-neg}
use Rattle.rinv_theory.proofs.Polynomials.{polynomials, poly_ring, term_at, coefficient_at}
use Rattle.rinv_theory.proofs.Universal.{change, change-term}
use Rattle.rinv_theory.proofs.Of.{Of}
use Rattle.rinv_theory.proofs.Ideals.{In}
use Rattle.rinv_theory.proofs.Variables.{IsFront}
use Rattle.rinv_theory.proofs.Fields.{fraction_laws}
use Rattle.rinv_soundness.proofs.FirstVariables.{constant_front, retract-front}
use Rattle.rinv_soundness.proofs.PlaceFacts.{nest-front}
use Rattle.rinv_soundness.proofs.OverFractions.{Inner, Nested, Over, over_ring, nested, into, over, constant_over, constant_over-coefficient, to_z}
use Rattle.rinv_soundness.proofs.HasMultiples.{InVariables, crossed, crossed_in, behind_z, HasMultiple, KeepsSums, KeepsMultiples, read, read-add, read-mul, read-move, multiple-of, multiple-add, multiple-mul}
use Rattle.rinv_soundness.proofs.SymbolValues.{value_hom, values, values-coefficient, values-to_z}
use Rattle.rinv_soundness.proofs.SpatialValues.{InSpace, Any, spatial, relations-multiple}

-- a change of the coefficients keeps the monomials
pub change-of : {K L M P R : Type 0} {𝓚 : CRing K} {𝓛 : CRing L} {𝓜 : Monoid M} (𝓣 : TermRing 𝓚 𝓜 P) (𝓡 : TermRing 𝓛 𝓜 R) (φ : Hom 𝓚 𝓛) {Q : M → Type 0} {f : P} → Of 𝓣 Q f → Of 𝓡 Q ((change 𝓣 𝓡 φ).at f)
change-of 𝓣 𝓡 φ {Q} Of.none = subst (Of 𝓡 Q) (sym (hom-zero (change 𝓣 𝓡 φ))) Of.none
change-of 𝓣 𝓡 φ {Q} (Of.more {f = f} c n q r) = subst (Of 𝓡 Q) (ap (λ x. 𝓡.ring.add x ((change 𝓣 𝓡 φ).at f)) (sym (change-term 𝓣 𝓡 φ c n)) ∙ sym ((change 𝓣 𝓡 φ).add _ _)) (Of.more (φ.at c) n q (change-of 𝓣 𝓡 φ r))

module _ {E : Type 0} (o : RingOps E) (l : RingLaws o) (field : FieldLaws o) (n : ℕ) {M : Inner o l field → Type 0} (zero : M (poly_ring o l).zero) (sums : KeepsSums o l field n M) (multiples : KeepsMultiples o l field n M) where
  open (over_ring o l field) use {add as ◌⊕◌, mul as ◌⊗◌, neg as ⊖◌}

  infixl 60 ◌⊕◌
  infixl 70 ◌⊗◌
  infix 80 ⊖◌
  abbrev Rational : CRing (Class (fraction_ops o))
  Rational = class_ring (fraction_ops o) (fraction_laws o l field)

  abbrev Has : Over o l field → Type 0
  Has x = HasMultiple o l field n M x

  -- the opposite
  pub multiple-neg : {f : Over o l field} → Has f → Has (⊖ f)
  multiple-neg {f} a = subst Has (minus_one f) (multiple-mul o l field n {N = Any o l field n} multiples (multiple-of o l field n minus tt) a)
    where
      minus : InVariables o l field n (2 * n) (term_at o l ((class_ring o l).neg (class_ring o l).one) monomials.one)
      minus = constant_front (polynomials o l) (2 * n) _

      minus_one : (f : Over o l field) → read o l field n (term_at o l ((class_ring o l).neg (class_ring o l).one) monomials.one) ⊗ f ≡ ⊖ f
      minus_one f =
          ap (λ x. read o l field n x ⊗ f) (term-neg (polynomials o l) (class_ring o l).one monomials.one ∙ ap (poly_ring o l).neg (polynomials o l).term_one)
          ∙ ap (λ x. x ⊗ f) (ap (over o l field).at (hom-neg (nested o l field n) _) ∙ hom-neg (over o l field) _ ∙ ap ⊖◌ (ap (over o l field).at (nested o l field n).one ∙ (over o l field).one)) ∙ ring (over_ring o l field) (f ∷ []) (search reading depth 30) refl

  constant-any : {d : Inner o l field} → InVariables o l field n n d → HasMultiple o l field n (Any o l field n) (constant_over o l field d)
  constant-any {d} r = subst (HasMultiple o l field n (Any o l field n)) (read-move o l field n d) (multiple-of o l field n (behind_z o l field n r) tt)

  module _ (c : List (Fraction E)) (in_space : (k : ℕ) → k < length c → InSpace o l field n (get_or c k (fraction_ops o).one))
      {I : Type 0} (G : I → Nested o l field) (relation : (k : I) → HasMultiple o l field n M ((values o l field c).at (G k)))
      (Reducible : Monomial → Type 0)
      (lowest : (x : Over o l field) → HasMultiple o l field n M x → ((m : Monomial) → Reducible m → coefficient_at (fraction_ops o) (fraction_laws o l field) x m ≡ (class_ring (fraction_ops o) (fraction_laws o l field)).zero) → x ≡ (over_ring o l field).zero) where
    -- r is a rest of f by the relations
    pub record IsRest (f r : Nested o l field) : Type 0 where
      pub congruent : In (poly_ring (poly_ops o) (poly_laws o l)) G ((poly_ring (poly_ops o) (poly_laws o l)).add f ((poly_ring (poly_ops o) (poly_laws o l)).neg r))
      pub in_variables : Of (polynomials (poly_ops o) (poly_laws o l)) (IsFront n) r
      pub reduced : (m : Monomial) → Reducible m → coefficient_at (poly_ops o) (poly_laws o l) r m ≡ (poly_ring o l).zero

    abbrev val : Nested o l field → Over o l field
    val f = (values o l field c).at f

    abbrev spat : Hom (over_ring o l field) (over_ring o l field)
    spat = spatial o l field n c in_space

    fixed : {f : Nested o l field} → Of (polynomials (poly_ops o) (poly_laws o l)) (IsFront n) f → spat.at (val f) ≡ val f
    fixed r = retract-front (polynomials (fraction_ops o) (fraction_laws o l field)) n (change-of (polynomials (poly_ops o) (poly_laws o l)) (polynomials (fraction_ops o) (fraction_laws o l field)) (value_hom o l field c) r)

    -- the difference of a polynomial and its rest has a multiple in the ideal, in value
    rest-multiple : {f r : Nested o l field} → Of (polynomials (poly_ops o) (poly_laws o l)) (IsFront n) f → IsRest f r → ∥ Has (val f ⊕ ⊖ val r) ∥₁
    rest-multiple {f} {r} q d = ∥∥₁_map (relations-multiple o l field n c in_space zero sums multiples G relation d.congruent) (subst Has (
        ap spat.at ((values o l field c).add _ _ ∙ ap (◌⊕◌ (val f)) (hom-neg (values o l field c) r)) ∙ spat.add _ _ ∙ ap₂ ◌⊕◌ (fixed q) (hom-neg spat _ ∙ ap ⊖◌ (fixed d.in_variables))))

    in_z_front : {x : Inner o l field} → InVariables o l field n n x → Of (polynomials (poly_ops o) (poly_laws o l)) (IsFront n) ((to_z o l field).at x)
    in_z_front r = change-of (polynomials o l) (polynomials (poly_ops o) (poly_laws o l)) (constants (polynomials o l)) r

    read_z : {x : Inner o l field} → InVariables o l field n n x → read o l field n x ≡ val ((to_z o l field).at x)
    read_z {x} r = ap (over o l field).at (nest-front (polynomials o l) (polynomials (poly_ops o) (poly_laws o l)) n r) ∙ sym (values-to_z o l field c x)

    reduced-value : {f r : Nested o l field} → IsRest f r → (m : Monomial) → Reducible m → coefficient_at (fraction_ops o) (fraction_laws o l field) (val r) m ≡ Rational.zero
    reduced-value d m q = values-coefficient o l field c _ m ∙ ap (value_hom o l field c).at (d.reduced m q) ∙ hom-zero (value_hom o l field c)

    module _ {P Q : Inner o l field} (P_in : InVariables o l field n n P) (Q_in : InVariables o l field n n Q) {a b : Nested o l field} (rest_P : IsRest ((to_z o l field).at P) a) (rest_Q : IsRest ((to_z o l field).at Q) b) where
      abbrev difference : Over o l field
      difference = constant_over o l field Q ⊗ val a ⊕ ⊖ (constant_over o l field P ⊗ val b)

      regroup : (p q f g a b : Over o l field) → f ⊗ q ⊕ ⊖ (p ⊗ g) ⊕ (⊖ (q ⊗ (f ⊕ ⊖ a)) ⊕ p ⊗ (g ⊕ ⊖ b)) ≡ q ⊗ a ⊕ ⊖ (p ⊗ b)
      regroup p q f g a b = ring (over_ring o l field) (p ∷ q ∷ f ∷ g ∷ a ∷ b ∷ []) (search reading depth 30) refl

      read-crossed : read o l field n (crossed o l field n P Q) ≡ val ((to_z o l field).at P) ⊗ constant_over o l field Q ⊕ ⊖ (constant_over o l field P ⊗ val ((to_z o l field).at Q))
      read-crossed =
          read-add o l field n _ _
          ∙ ap₂ ◌⊕◌ (read-mul o l field n _ _ ∙ ap₂ ◌⊗◌ (read_z P_in) (read-move o l field n Q)) (ap (over o l field).at (hom-neg (nested o l field n) _) ∙ hom-neg (over o l field) _ ∙ ap ⊖◌ (read-mul o l field n _ _ ∙ ap₂ ◌⊗◌ (read-move o l field n P) (read_z Q_in)))

      difference-multiple : M (crossed o l field n P Q) → ∥ Has difference ∥₁
      difference-multiple inv = ∥∥₁_elim (rest-multiple (in_z_front P_in) rest_P) ∥∥₁_prop (λ x. ∥∥₁_map (rest-multiple (in_z_front Q_in) rest_Q) (λ y. subst Has (regroup _ _ _ _ _ _)
          (multiple-add o l field n sums multiples (subst Has read-crossed (multiple-of o l field n (crossed_in o l field n P_in Q_in) inv))
          (multiple-add o l field n sums multiples (multiple-neg (multiple-mul o l field n multiples (constant-any Q_in) x)) (multiple-mul o l field n multiples (constant-any P_in) y)))))

      difference-coefficient : (m : Monomial) → coefficient_at (fraction_ops o) (fraction_laws o l field) difference m ≡ Rational.add (Rational.mul ((into o l field).at Q) (coefficient_at (fraction_ops o) (fraction_laws o l field) (val a) m)) (Rational.neg (Rational.mul ((into o l field).at P) (coefficient_at (fraction_ops o) (fraction_laws o l field) (val b) m)))
      difference-coefficient m =
          (polynomials (fraction_ops o) (fraction_laws o l field)).coefficient_add _ _ m
          ∙ ap₂ Rational.add (constant_over-coefficient o l field Q _ m) (coefficient-neg (polynomials (fraction_ops o) (fraction_laws o l field)) _ m ∙ ap Rational.neg (constant_over-coefficient o l field P _ m))

      difference-zero : M (crossed o l field n P Q) → difference ≡ (over_ring o l field).zero
      difference-zero inv = ∥∥₁_elim (difference-multiple inv) ((over_ring o l field).is_set _ _) (λ d. lowest difference d (λ m q.
          difference-coefficient m ∙ ap₂ (λ x y. Rational.add (Rational.mul ((into o l field).at Q) x) (Rational.neg (Rational.mul ((into o l field).at P) y))) (reduced-value rest_P m q) (reduced-value rest_Q m q) ∙ nothing _ _))
        where
          nothing : (x y : Class (fraction_ops o)) → Rational.add (Rational.mul x Rational.zero) (Rational.neg (Rational.mul y Rational.zero)) ≡ Rational.zero
          nothing x y = ring Rational (x ∷ y ∷ []) (search reading depth 30) refl

      -- the coefficients of the rests have values in the ratio of P and Q
      pub ratio : M (crossed o l field n P Q) → (m : Monomial) → Rational.mul ((value_hom o l field c).at (coefficient_at (poly_ops o) (poly_laws o l) a m)) ((into o l field).at Q) ≡ Rational.mul ((into o l field).at P) ((value_hom o l field c).at (coefficient_at (poly_ops o) (poly_laws o l) b m))
      ratio inv m =
          Rational.mul_comm _ _ ∙ ap (Rational.mul ((into o l field).at Q)) (sym (values-coefficient o l field c a m))
          ∙ add_cancel Rational _ _ _ (sym (difference-coefficient m) ∙ ap (λ x. coefficient_at (fraction_ops o) (fraction_laws o l field) x m) (difference-zero inv) ∙ coefficient-zero (polynomials (fraction_ops o) (fraction_laws o l field)) m ∙ sym (add_neg Rational _))
          ∙ ap (Rational.mul ((into o l field).at P)) (values-coefficient o l field c b m)

    module _ {Q : Inner o l field} (Q_in : InVariables o l field n n Q) {b : Nested o l field} (rest_Q : IsRest ((to_z o l field).at Q) b) where
      -- where Q(Z) has a multiple in the ideal, the values of its rest are zero
      pub rest-vanishes : HasMultiple o l field n M (val ((to_z o l field).at Q)) → val b ≡ (over_ring o l field).zero
      rest-vanishes v = ∥∥₁_elim (rest-multiple (in_z_front Q_in) rest_Q) ((over_ring o l field).is_set _ _) (λ x. lowest (val b) (subst Has (left _ _) (multiple-add o l field n sums multiples v (multiple-neg x))) (reduced-value rest_Q))
        where
          left : (f b : Over o l field) → f ⊕ ⊖ (f ⊕ ⊖ b) ≡ b
          left f b = ring (over_ring o l field) (f ∷ b ∷ []) (search reading depth 30) refl

      -- and the other way round
      pub vanishes-rest : val b ≡ (over_ring o l field).zero → ∥ HasMultiple o l field n M (val ((to_z o l field).at Q)) ∥₁
      vanishes-rest e = ∥∥₁_map (rest-multiple (in_z_front Q_in) rest_Q) (subst Has (ap (λ x. val ((to_z o l field).at Q) ⊕ ⊖ x) e ∙ whole _))
        where
          whole : (f : Over o l field) → f ⊕ ⊖ (over_ring o l field).zero ≡ f
          whole f = ring (over_ring o l field) (f ∷ []) (search reading depth 30) refl
