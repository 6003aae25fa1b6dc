-- What is spent adds up: entries, one after another, and the steps of a division that stopped.
use Rattle.std.proofs.Common.{◌≡◌, ℕ, ◌+◌, ◌-◌, ◌^◌, ◌<◌, min, List, [], ◌∷◌, ◌++◌, map, sum, length, length-append, refl, sym, ◌∙◌, ap, arith}
use Rattle.std.proofs.lemmas.List.{map-append}
use Rattle.std.proofs.lemmas.List.Sums.{sum_by-append}
use Rattle.rinv_groebner.specs.Journal.{Entry}
use Rattle.rinv_div.specs.declared.budget.Budget.{Budget}
use Rattle.rinv_div.specs.Budgets.{Spends}
use Rattle.rinv_buch.specs.Causes.{HasPairLeft}
use Rattle.rinv_buch.specs.Spent.{KeepsLimits, SpendsBoth, steps_of, SpendsOn}

pub limits-refl : (b : Budget) → KeepsLimits b b
limits-refl b = record { pairs = refl; steps = refl; endless = refl }

pub limits-trans : {a b c : Budget} → KeepsLimits a b → KeepsLimits b c → KeepsLimits a c
limits-trans h k = record { pairs = k.pairs ∙ h.pairs; steps = k.steps ∙ h.steps; endless = k.endless ∙ h.endless }

-- up to the greatest number m
sum-twice : (m b c start k n : ℕ) → b ≡ min (start + k) m → c ≡ min (b + n) m → c ≡ min (start + (k + n)) m
sum-twice m b c start k n h g = omega (arith, h, g)

pub spends-nothing : (b : Budget) → b.pairs_spent < 2 ^ 32 → b.steps_spent < 2 ^ 64 → SpendsOn [] 0 b b
spends-nothing b p s = record { pairs_spent = omega (arith, p); steps_spent = omega (arith, s); limits = limits-refl b }

-- the steps of a division, then its pair
pub spends-pair : {a b c : Budget} (count : ℕ) → Spends count a b → SpendsBoth 1 0 b c → SpendsBoth 1 count a c
spends-pair {a} {b} {c} count h k = record {
  pairs_spent = k.pairs_spent ∙ ap (λ (n : ℕ). min (n + 1) (2 ^ 32 - 1)) h.others.pairs_spent;
  steps_spent = sum-twice (2 ^ 64 - 1) b.steps_spent c.steps_spent a.steps_spent count 0 h.steps_spent k.steps_spent ∙ ap (λ (n : ℕ). min (a.steps_spent + n) (2 ^ 64 - 1)) (omega arith);
  limits = record { pairs = k.limits.pairs ∙ h.others.pairs; steps = k.limits.steps ∙ h.others.steps; endless = k.limits.endless ∙ h.others.endless };
}

-- an entry more
pub spends-entry : {start a b : Budget} (journal : List Entry) (e : Entry) (count : ℕ) → SpendsOn journal 0 start a → e.steps ≡ count → SpendsBoth 1 count a b → SpendsOn (journal ++ e ∷ []) 0 start b
spends-entry {start} {a} {b} journal e count h of_it k = record {
  pairs_spent = sum-twice (2 ^ 32 - 1) a.pairs_spent b.pairs_spent start.pairs_spent (length journal) 1 h.pairs_spent k.pairs_spent ∙ ap (λ (n : ℕ). min (start.pairs_spent + n) (2 ^ 32 - 1)) (sym (length-append journal (e ∷ [])));
  steps_spent = sum-twice (2 ^ 64 - 1) a.steps_spent b.steps_spent start.steps_spent (steps_of journal + 0) count h.steps_spent k.steps_spent ∙ ap (λ (n : ℕ). min (start.steps_spent + n) (2 ^ 64 - 1)) more;
  limits = limits-trans h.limits k.limits;
}
  where
    more : steps_of journal + 0 + count ≡ steps_of (journal ++ e ∷ []) + 0
    more =
        let added : steps_of (journal ++ e ∷ []) ≡ steps_of journal + e.steps = ap sum (map-append (λ (e : Entry). e.steps) journal (e ∷ [])) ∙ sum_by-append (λ (n : ℕ). n) (map (λ (e : Entry). e.steps) journal) (e.steps ∷ []) ∙ (let z : 0 + e.steps ≡ e.steps = omega arith in ap (λ (n : ℕ). steps_of journal + n) z) in
        omega (arith, added, of_it)

-- steps of a division that stopped
pub spends-steps : {start a b : Budget} (journal : List Entry) (count : ℕ) → SpendsOn journal 0 start a → Spends count a b → SpendsOn journal count start b
spends-steps {start} {a} {b} journal count h k = record {
  pairs_spent = k.others.pairs_spent ∙ h.pairs_spent;
  steps_spent = sum-twice (2 ^ 64 - 1) a.steps_spent b.steps_spent start.steps_spent (steps_of journal + 0) count h.steps_spent k.steps_spent ∙ ap (λ (n : ℕ). min (start.steps_spent + n) (2 ^ 64 - 1)) (omega arith);
  limits = limits-trans h.limits (record { pairs = k.others.pairs; steps = k.others.steps; endless = k.others.endless });
}

-- a division takes no pair
pub pair-left : {a b : Budget} {count : ℕ} → Spends count a b → HasPairLeft a → HasPairLeft b
pair-left h some e =
    let left = some (sym h.others.endless ∙ e) in
    omega (arith, left, h.others.pairs_spent, h.others.pairs)
