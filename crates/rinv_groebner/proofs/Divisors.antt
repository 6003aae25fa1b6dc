-- Divisors of monomials, in an order in which nothing is below 1.
--   divisor-upto         a divisor is up to its multiple
--   divisors-equal       monomials that divide each other are equal
use Rattle.std.proofs.Common.{◌≡◌, ◌⊎◌, sym, ◌∙◌, ap, subst₂, inl, inr}
use Rattle.rinv_theory.proofs.Monoid.{Monoid}
use Rattle.rinv_theory.proofs.Leads.{MonomialOrder, IsUpTo, below-asym}

module _ {M : Type 0} {𝓜 : Monoid M} (𝓞 : MonomialOrder 𝓜) (least : (m : M) → 𝓞.below m 𝓜.one → ⊥) where
  -- a divisor is up to its multiple
  pub divisor-upto : (s m n : M) → 𝓜.mul s m ≡ n → IsUpTo 𝓞 m n
  divisor-upto s m n e = go (𝓞.total s 𝓜.one)
    where
      times_one : 𝓜.mul m 𝓜.one ≡ m
      times_one = 𝓜.mul_comm m 𝓜.one ∙ 𝓜.one_mul m

      go : 𝓞.below s 𝓜.one ⊎ (s ≡ 𝓜.one) ⊎ 𝓞.below 𝓜.one s → IsUpTo 𝓞 m n
      go (inl h) = absurd (least s h)
      go (inr (inl h)) = inr (sym (𝓜.one_mul m) ∙ ap (λ x. 𝓜.mul x m) (sym h) ∙ e)
      go (inr (inr h)) = inl (subst₂ 𝓞.below times_one (𝓜.mul_comm m s ∙ e) (𝓞.mul_below m 𝓜.one s h))

  -- monomials that divide each other are equal
  pub divisors-equal : (s t m n : M) → 𝓜.mul s m ≡ n → 𝓜.mul t n ≡ m → m ≡ n
  divisors-equal s t m n e e' = go (divisor-upto s m n e) (divisor-upto t n m e')
    where
      go : IsUpTo 𝓞 m n → IsUpTo 𝓞 n m → m ≡ n
      go (inr i) h = i
      go (inl h) (inr i) = sym i
      go (inl h) (inl k) = absurd (below-asym 𝓞 m n h k)
