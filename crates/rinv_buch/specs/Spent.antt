-- What a run of Buchberger's algorithm spends of a budget.
use Rattle.std.specs.Prelude.{◌≡◌, ℕ, ◌+◌, ◌-◌, ◌^◌, ◌≤◌, min, false, List, map, sum, length}
use Rattle.rinv_groebner.specs.Journal.{Entry}
use Rattle.rinv_div.specs.declared.budget.Budget.{Budget}

-- a budget with an end is not overspent
pub record IsKept (b : Budget) : Type 0 where
  pub pairs : b.endless ≡ false → b.pairs_spent ≤ b.pairs
  pub steps : b.endless ≡ false → b.steps_spent ≤ b.steps

-- the same budget, but for what is spent
pub record KeepsLimits (before after : Budget) : Type 0 where
  pub pairs : after.pairs ≡ before.pairs
  pub steps : after.steps ≡ before.steps
  pub endless : after.endless ≡ before.endless

-- so many pairs and steps more are spent, each up to the greatest number of its type, and nothing else
pub record SpendsBoth (pairs steps : ℕ) (before after : Budget) : Type 0 where
  pub pairs_spent : after.pairs_spent ≡ min (before.pairs_spent + pairs) (2 ^ 32 - 1)
  pub steps_spent : after.steps_spent ≡ min (before.steps_spent + steps) (2 ^ 64 - 1)
  pub limits : KeepsLimits before after

-- the steps of all entries
abbrev pub steps_of : List Entry → ℕ
steps_of journal = sum (map (λ e. e.steps) journal)

-- the entries of the journal are spent, and so many steps more
abbrev pub SpendsOn : List Entry → ℕ → Budget → Budget → Type 0
SpendsOn journal more before after = SpendsBoth (length journal) (steps_of journal + more) before after
