-- Rings without zero divisors; polynomials over such a ring have none.
--   IsDomain 𝓓           one is not zero, and a product is zero only where a factor is
--   top-coefficient      the coefficient of a product at the product of the greatest monomials
--   polynomial_domain    polynomials over a domain are one
use Rattle.std.proofs.Common.{◌≡◌, ◌⊎◌, Bool, true, false, cond, refl, sym, ◌∙◌, ap, ap₂, subst₂, inl, inr, true≢false}
use mathlib.Core.Logic.{∥∥₁_elim}
use Rattle.rinv_theory.proofs.CRing.{CRing, zero_mul, add_mul}
use Rattle.rinv_theory.proofs.Monoid.{Monoid}
use Rattle.rinv_theory.proofs.TermRing.{TermRing, coefficient-zero}
use Rattle.rinv_theory.proofs.Of.{Of, of_any, of-times, of-weaken, of-coefficient}
use Rattle.rinv_theory.proofs.Leads.{MonomialOrder, IsUpTo, below-ne, upto-below, mul-upto, upto-from, Leads, lead-of, zero_or_lead}

-- a ring without zero divisors
pub record IsDomain {D : Type 0} (𝓓 : CRing D) : Type 0 where
  pub one_zero : 𝓓.one ≡ 𝓓.zero → ⊥
  pub no_divisors : (a b : D) → 𝓓.mul a b ≡ 𝓓.zero → (b ≡ 𝓓.zero → ⊥) → a ≡ 𝓓.zero

module _ {K M P : Type 0} {𝓚 : CRing K} {𝓜 : Monoid M} (𝓣 : TermRing 𝓚 𝓜 P) (𝓞 : MonomialOrder 𝓜) where
  open 𝓣.ring use {mul as ◌*◌}

  infixl 70 ◌*◌
  -- at the product of the greatest monomials a product has the product of the coefficients
  pub top-coefficient : (m n : M) {f g : P} → Of 𝓣 (λ k. IsUpTo 𝓞 k m) f → Of 𝓣 (λ k. IsUpTo 𝓞 k n) g → 𝓣.coefficient (f * g) (𝓜.mul m n) ≡ 𝓚.mul (𝓣.coefficient f m) (𝓣.coefficient g n)
  top-coefficient m n {g = g} Of.none s = ap (λ x. 𝓣.coefficient x (𝓜.mul m n)) (zero_mul 𝓣.ring g) ∙ coefficient-zero 𝓣 _ ∙ sym (zero_mul 𝓚 _) ∙ ap (λ x. 𝓚.mul x (𝓣.coefficient g n)) (sym (coefficient-zero 𝓣 m))
  top-coefficient m n {g = g} (Of.more {f = f} c k q r) s =
      ap (λ x. 𝓣.coefficient x (𝓜.mul m n)) (add_mul 𝓣.ring _ _ _) ∙ 𝓣.coefficient_add _ _ _ ∙ ap₂ 𝓚.add (first q) (top-coefficient m n r s)
      ∙ sym (add_mul 𝓚 _ _ _) ∙ ap (λ x. 𝓚.mul x (𝓣.coefficient g n)) (sym (𝓣.coefficient_add _ _ _))
    where
      low : 𝓞.below k m → (b : Bool) → 𝓜.same k m ≡ b → 𝓚.zero ≡ cond b c 𝓚.zero
      low h true e = absurd (below-ne 𝓞 k m h (𝓜.same_eq k m e))
      low h false e = refl

      high : k ≡ m → (b : Bool) → 𝓜.same k m ≡ b → c ≡ cond b c 𝓚.zero
      high i true e = refl
      high i false e = absurd (true≢false (sym (𝓜.same_refl m) ∙ ap (λ x. 𝓜.same x m) (sym i) ∙ e))

      first : IsUpTo 𝓞 k m → 𝓣.coefficient (𝓣.term c k * g) (𝓜.mul m n) ≡ 𝓚.mul (𝓣.coefficient (𝓣.term c k) m) (𝓣.coefficient g n)
      first (inl h) =
          of-coefficient 𝓣 {Q = λ x. 𝓞.below x (𝓜.mul m n)} _ (λ x b. below-ne 𝓞 x _ b)
          (of-times 𝓣 c k (λ x u. upto-below 𝓞 (𝓜.mul k x) (𝓜.mul k n) (𝓜.mul m n) (mul-upto 𝓞 k x n u) (subst₂ 𝓞.below (𝓜.mul_comm n k) (𝓜.mul_comm n m) (𝓞.mul_below n k m h))) s)
          ∙ sym (zero_mul 𝓚 _) ∙ ap (λ x. 𝓚.mul x (𝓣.coefficient g n)) (low h _ refl ∙ sym (𝓣.coefficient_term c k m))
      first (inr e) = ap (λ x. 𝓣.coefficient (𝓣.term c k * g) (𝓜.mul x n)) (sym e) ∙ 𝓣.coefficient_times c k n g ∙ ap (λ x. 𝓚.mul x (𝓣.coefficient g n)) (high e _ refl ∙ sym (𝓣.coefficient_term c k m))

  module _ (zero_dec : (c : K) → Dec (c ≡ 𝓚.zero)) (domain : IsDomain 𝓚) where
    -- polynomials over a domain are a domain
    pub polynomial_domain : IsDomain 𝓣.ring
    polynomial_domain = record {
      one_zero = λ e. domain.one_zero (sym (at_one (𝓜.same 𝓜.one 𝓜.one) (𝓜.same_refl 𝓜.one)) ∙ sym (𝓣.coefficient_term 𝓚.one 𝓜.one 𝓜.one) ∙ ap (λ x. 𝓣.coefficient x 𝓜.one) (𝓣.term_one ∙ e) ∙ coefficient-zero 𝓣 𝓜.one);
      no_divisors = λ a b e n. ∥∥₁_elim (zero_or_lead 𝓣 𝓞 zero_dec a) (𝓣.ring.is_set _ _) (λ s. ∥∥₁_elim (zero_or_lead 𝓣 𝓞 zero_dec b) (𝓣.ring.is_set _ _) (λ t.
          ∥∥₁_elim (of_any 𝓣 a) (𝓣.ring.is_set _ _) (λ o. ∥∥₁_elim (of_any 𝓣 b) (𝓣.ring.is_set _ _) (λ p. go a b e n o p s t))));
    }
      where
        at_one : (b : Bool) → b ≡ true → cond b 𝓚.one 𝓚.zero ≡ 𝓚.one
        at_one true e = refl
        at_one false e = absurd (true≢false (sym e))

        upto : (f : P) (m : M) → Leads 𝓣 𝓞 f m → Of 𝓣 (λ n. Unit {0}) f → Of 𝓣 (λ k. IsUpTo 𝓞 k m) f
        upto f m l o = of-weaken 𝓣 (λ n h. upto-from 𝓞 n m h.1) (lead-of 𝓣 𝓞 l o)

        go : (a b : P) → a * b ≡ 𝓣.ring.zero → (b ≡ 𝓣.ring.zero → ⊥) → Of 𝓣 (λ n. Unit {0}) a → Of 𝓣 (λ n. Unit {0}) b → (a ≡ 𝓣.ring.zero) ⊎ ((m : M) × Leads 𝓣 𝓞 a m) → (b ≡ 𝓣.ring.zero) ⊎ ((m : M) × Leads 𝓣 𝓞 b m) → a ≡ 𝓣.ring.zero
        go a b e n o p (inl z) t = z
        go a b e n o p (inr s) (inl z) = absurd (n z)
        go a b e n o p (inr (m, l)) (inr (k, j)) = absurd (l.nonzero (domain.no_divisors _ _ (sym (top-coefficient m k (upto a m l o) (upto b k j p)) ∙ ap (λ x. 𝓣.coefficient x (𝓜.mul m k)) e ∙ coefficient-zero 𝓣 _) j.nonzero))
