-- Normal forms of polynomials by those of monomials, in all extensions at once.
--   normal e nf          the map, linear over the algebra, that takes each monomial m to nf m: normal-add, normal-term, normal-zero
--   each-normal          linear maps of algebras keep it; normal-into is that of numbers
--   normal-scale         constants are left in front
--   normal-near          where each monomial is congruent to its normal form modulo γ, so is each polynomial
--   normal_zero_member   so a polynomial whose normal form is zero lies in the ideal of γ
use Rattle.std.proofs.Common.{◌≡◌, [], ◌∷◌, refl, sym, ◌∙◌, ap, ap₂, subst}
use mathlib.Core.Logic.{∥∥₁_map, ∥∥₁_prop}
use Rattle.rinv_theory.proofs.CRing.{CRing, hom-neg, add_neg, add_mul, mul_one}
use Rattle.rinv_theory.proofs.Solver.{ring, reading}
use Rattle.rinv_theory.proofs.Monoid.{Monoid}
use Rattle.rinv_theory.proofs.TermSums.{IsAdditive}
use Rattle.rinv_theory.proofs.TermRing.{TermRing, constant-term, terms_ind}
use Rattle.rinv_theory.proofs.Universal.{extend, extend-term, extend-add, adds-zero, agree}
use Rattle.rinv_theory.proofs.Ideals.{In, in-add, in-mul, in-hom}
use Rattle.rinv_soundness.proofs.Substituting.{identity}
use Rattle.rinv_invariance.proofs.Extensions.{Extension, itself, Linear, each, each-add, each-term, each-into, each-unique}

module _ {K A M P U : Type 0} {𝓚 : CRing K} {𝓐 : CRing A} {𝓜 : Monoid M} {𝓣 : TermRing 𝓚 𝓜 P} {𝓤 : TermRing 𝓐 𝓜 U} (e : Extension 𝓣 𝓤) where
  -- a constant times a polynomial, by its coefficients
  pub constant-coefficient : (d : A) (x : U) (n : M) → 𝓤.coefficient (𝓤.ring.mul (𝓤.term d 𝓜.one) x) n ≡ 𝓐.mul d (𝓤.coefficient x n)
  constant-coefficient d x n = ap (𝓤.coefficient _) (sym (𝓜.one_mul n)) ∙ 𝓤.coefficient_times d 𝓜.one n x

  -- a factor from the algebra is a linear map
  abbrev pub times : A → Linear e e
  times d = record { at = 𝓐.mul d; add = λ x y. 𝓐.mul_add d x y; scale = λ x c. sym (𝓐.mul_assoc _ _ _) }

  -- at each coefficient it is a constant factor
  pub each-times : (d : A) (x : U) → each (times d) x ≡ 𝓤.ring.mul (𝓤.term d 𝓜.one) x
  each-times d x = sym (each-unique (times d) (λ x. 𝓤.ring.mul (𝓤.term d 𝓜.one) x) (λ x y. 𝓤.ring.mul_add _ x y) (λ a m. constant-term 𝓤 d a m) x)

  module _ (nf : M → P) where
    normal_term : A → M → U
    normal_term a m = 𝓤.ring.mul (𝓤.term a 𝓜.one) (e.into.at (nf m))

    normal_term-additive : IsAdditive 𝓐 𝓤.ring normal_term
    unfolding normal_term
    normal_term-additive a b m = ap (λ x. 𝓤.ring.mul x (e.into.at (nf m))) (sym (𝓤.term_add a b 𝓜.one)) ∙ add_mul 𝓤.ring _ _ _

    -- the normal form
    pub normal : U → U
    normal x = extend 𝓤 𝓤.ring normal_term normal_term-additive x

    -- of a sum
    pub normal-add : (x y : U) → normal (𝓤.ring.add x y) ≡ 𝓤.ring.add (normal x) (normal y)
    unfolding normal
    normal-add x y = extend-add 𝓤 𝓤.ring normal_term normal_term-additive x y

    -- of a term
    pub normal-term : (a : A) (m : M) → normal (𝓤.term a m) ≡ 𝓤.ring.mul (𝓤.term a 𝓜.one) (e.into.at (nf m))
    unfolding normal normal_term
    normal-term a m = extend-term 𝓤 𝓤.ring normal_term normal_term-additive a m

    -- of zero
    pub normal-zero : normal 𝓤.ring.zero ≡ 𝓤.ring.zero
    normal-zero = adds-zero 𝓤 𝓤.ring normal normal-add

-- linear maps of algebras keep normal forms
pub each-normal : {K A B M P U V : Type 0} {𝓚 : CRing K} {𝓐 : CRing A} {𝓑 : CRing B} {𝓜 : Monoid M} {𝓣 : TermRing 𝓚 𝓜 P} {𝓤 : TermRing 𝓐 𝓜 U} {𝓥 : TermRing 𝓑 𝓜 V} {e : Extension 𝓣 𝓤} {h : Extension 𝓣 𝓥} (φ : Linear e h) (nf : M → P) (x : U)
    → each φ (normal e nf x) ≡ normal h nf (each φ x)
each-normal {𝓜 = 𝓜} {𝓤 = 𝓤} {𝓥 = 𝓥} {e = e} {h = h} φ nf =
    agree 𝓤 𝓥.ring (λ x. each φ (normal e nf x)) (λ x. normal h nf (each φ x)) (λ x y. ap (each φ) (normal-add e nf x y) ∙ each-add φ _ _) (λ x y. ap (normal h nf) (each-add φ x y) ∙ normal-add h nf _ _)
    (λ a m. ap (each φ) (normal-term e nf a m) ∙ each-into φ (𝓤.term a 𝓜.one) (nf m) ∙ ap (λ y. 𝓥.ring.mul y (h.into.at (nf m))) (each-term φ a 𝓜.one) ∙ sym (normal-term h nf _ m) ∙ ap (normal h nf) (sym (each-term φ a m)))

module _ {K A M P U : Type 0} {𝓚 : CRing K} {𝓐 : CRing A} {𝓜 : Monoid M} {𝓣 : TermRing 𝓚 𝓜 P} {𝓤 : TermRing 𝓐 𝓜 U} (e : Extension 𝓣 𝓤) (nf : M → P) where
  open 𝓤.ring use {add as ◌+◌, mul as ◌*◌, neg as -◌, zero as 𝟘}

  infixl 60 ◌+◌
  infixl 70 ◌*◌
  infix 80 -◌
  -- numbers are a linear map
  numbers : Linear (itself 𝓣) e
  unfolding itself identity
  numbers = record { at = e.number.at; add = e.number.add; scale = λ x c. e.number.mul x c }

  into-each : (p : P) → e.into.at p ≡ each numbers p
  unfolding numbers
  into-each = each-unique numbers e.into.at e.into.add e.into_term

  -- the normal form of a polynomial of 𝓣
  pub normal-into : (p : P) → normal e nf (e.into.at p) ≡ e.into.at (normal (itself 𝓣) nf p)
  normal-into p = ap (normal e nf) (into-each p) ∙ sym (each-normal numbers nf p) ∙ sym (into-each (normal (itself 𝓣) nf p))

  -- constants are left in front
  pub normal-scale : (d : A) (x : U) → normal e nf (𝓤.term d 𝓜.one * x) ≡ 𝓤.term d 𝓜.one * normal e nf x
  normal-scale d x = ap (normal e nf) (sym (each-times e d x)) ∙ sym (each-normal (times e d) nf x) ∙ each-times e d (normal e nf x)

  -- a term is a constant times a monomial of 𝓣
  pub split_into : (a : A) (m : M) → 𝓤.term a m ≡ 𝓤.term a 𝓜.one * e.into.at (𝓣.term 𝓚.one m)
  split_into a m = sym (ap (λ y. 𝓤.term a 𝓜.one * y) (e.into_term 𝓚.one m) ∙ constant-term 𝓤 a (e.number.at 𝓚.one) m ∙ ap (λ x. 𝓤.term x m) (ap (𝓐.mul a) e.number.one ∙ mul_one 𝓐 a))

  module _ {J : Type 0} (γ : J → P) (near : (m : M) → In 𝓣.ring γ (𝓣.ring.add (𝓣.term 𝓚.one m) (𝓣.ring.neg (nf m)))) where
    abbrev Γ : J → U
    Γ j = e.into.at (γ j)

    -- a polynomial is congruent to its normal form
    pub normal-near : (u : U) → ∥ In 𝓤.ring Γ (u + - normal e nf u) ∥₁
    normal-near = terms_ind 𝓤 (λ u. ∥ In 𝓤.ring Γ (u + - normal e nf u) ∥₁) (λ u. ∥∥₁_prop) ∣ subst (In 𝓤.ring Γ) (sym (ap (λ x. 𝟘 + - x) (normal-zero e nf) ∙ add_neg 𝓤.ring 𝟘)) In.none ∣₁
        (λ a m x i. ∥∥₁_map i (λ r. subst (In 𝓤.ring Γ) (step a m x) (in-add 𝓤.ring Γ (in-mul 𝓤.ring Γ (𝓤.term a 𝓜.one) (in-hom e.into γ (near m))) r)))
      where
        regroup : (a t n x y : U) → a * (t + - n) + (x + - y) ≡ a * t + x + - (a * n + y)
        regroup a t n x y = ring 𝓤.ring (a ∷ t ∷ n ∷ x ∷ y ∷ []) (search reading depth 30) refl

        step : (a : A) (m : M) (x : U) → 𝓤.term a 𝓜.one * e.into.at (𝓣.ring.add (𝓣.term 𝓚.one m) (𝓣.ring.neg (nf m))) + (x + - normal e nf x) ≡ 𝓤.term a m + x + - normal e nf (𝓤.term a m + x)
        step a m x =
            ap (λ y. 𝓤.term a 𝓜.one * y + (x + - normal e nf x)) (e.into.add _ _ ∙ ap (λ y. e.into.at (𝓣.term 𝓚.one m) + y) (hom-neg e.into (nf m))) ∙ regroup _ _ _ _ _
            ∙ ap₂ (λ y z. y + x + - z) (sym (split_into a m)) (sym (normal-add e nf _ _ ∙ ap (λ y. y + normal e nf x) (normal-term e nf a m)))

    -- a polynomial whose normal form is zero is a member
    pub normal_zero_member : (u : U) → normal e nf u ≡ 𝟘 → ∥ In 𝓤.ring Γ u ∥₁
    normal_zero_member u z = subst (λ x. ∥ In 𝓤.ring Γ x ∥₁) (ap (λ x. u + - x) z ∙ minus_zero u) (normal-near u)
      where
        minus_zero : (x : U) → x + - 𝟘 ≡ x
        minus_zero x = ring 𝓤.ring (x ∷ []) (search reading depth 30) refl
