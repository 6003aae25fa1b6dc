-- The elements of a Gröbner basis that are kept: no other greatest monomial properly divides theirs, and no earlier one is equal.
--   kept_divisor         the greatest monomial of each element is a multiple of that of a kept one
use Rattle.std.proofs.Common.{◌≡◌, ◌⊎◌, ℕ, zero, suc, ◌<◌, refl, ◌∙◌, ap, subst, inl, inr, arith}
use mathlib.Core.WellFounded.{Acc}
use Rattle.rinv_theory.proofs.Monoid.{Monoid}
use Rattle.rinv_theory.proofs.Leads.{MonomialOrder, IsUpTo}
use Rattle.rinv_theory.proofs.WellOrders.{IsWellOrder}
use Rattle.rinv_groebner.proofs.Divisors.{divisor-upto}

-- any order of the monomials with no endless descent serves
module _ {M I : Type 0} {𝓜 : Monoid M} (𝓦 : MonomialOrder 𝓜) (well : IsWellOrder 𝓦) (lm : I → M) (place : I → ℕ) (Kept : I → Type 0)
    (chosen : (i : I) → Kept i ⊎ ((j : I) × (s : M) × (𝓜.mul s (lm j) ≡ lm i) × ((lm j ≡ lm i → ⊥) ⊎ (place j < place i)))) where
  abbrev pub Found : I → Type 0
  Found i = (k : I) × Kept k × (s : M) × (𝓜.mul s (lm k) ≡ lm i)

  further : (i j : I) (s : M) → 𝓜.mul s (lm j) ≡ lm i → Found j → Found i
  further i j s e (k, q, t, e') = (k, q, 𝓜.mul s t, 𝓜.mul_assoc s t (lm k) ∙ ap (𝓜.mul s) e' ∙ e)

  at_lead : (b : M) → ((j : I) → 𝓦.below (lm j) b → Found j) → (p : ℕ) (i : I) → lm i ≡ b → place i < p → Found i
  at_lead b again zero i e h = absurd (omega arith)
  at_lead b again (suc p) i e h = go (chosen i) (λ j e' h'. at_lead b again p j e' h')
    where
      go : Kept i ⊎ ((j : I) × (s : M) × (𝓜.mul s (lm j) ≡ lm i) × ((lm j ≡ lm i → ⊥) ⊎ (place j < place i))) → ((j : I) → lm j ≡ b → place j < p → Found j) → Found i
      go (inl q) same = (i, q, 𝓜.one, 𝓜.one_mul (lm i))
      go (inr (j, s, f, w)) same = further i j s f (cases (divisor-upto 𝓦 well.least s (lm j) (lm i) f) w)
        where
          cases : IsUpTo 𝓦 (lm j) (lm i) → (lm j ≡ lm i → ⊥) ⊎ (place j < place i) → Found j
          cases (inl below) w = again j (subst (𝓦.below (lm j)) e below)
          cases (inr eq) (inl ne) = absurd (ne eq)
          cases (inr eq) (inr earlier) = same j (eq ∙ e) (omega arith)

  below_lead : (b : M) → Acc 𝓦.below b → (i : I) → lm i ≡ b → Found i
  below_lead b (Acc.intro x h) i e = at_lead x (λ j p. below_lead (lm j) (h (lm j) p) j refl) (suc (place i)) i e (omega arith)

  -- the greatest monomial of each element is a multiple of that of a kept one
  pub kept_divisor : (i : I) → Found i
  kept_divisor i = below_lead (lm i) (well.well_founded.apply (lm i)) i refl
