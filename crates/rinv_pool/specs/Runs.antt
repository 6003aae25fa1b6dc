-- The list of runs by their numbers.
use Rattle.std.specs.Prelude.{ℕ, zero, suc, List, [], ◌∷◌}
use Rattle.rinv_pool.specs.declared.slots.Chain.{Chain}

-- the chain of a run with no terms
abbrev pub empty_chain : Chain
empty_chain = record { first = 0; last = 0; count = 0 }

-- the list with this at a place, which is in the list or next
abbrev pub with_item : {A : Type 0} → List A → ℕ → A → List A
with_item [] place x = x ∷ []
with_item (y ∷ ys) zero x = x ∷ ys
with_item (y ∷ ys) (suc place) x = y ∷ with_item ys place x
