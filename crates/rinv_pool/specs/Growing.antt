-- Slots that are added to a pool.
use Rattle.std.specs.Prelude.{◌≡◌, ℕ, ◌+◌, List, length, Option}
use Rattle.rinv_pool.specs.declared.slots.Slot.{Slot}
use Rattle.rinv_pool.specs.declared.slots.Chain.{Chain}
use Rattle.rinv_pool.specs.Slots.{next_at, term_at}
use Rattle.rinv_pool.specs.Chains.{Holds}

-- what the slots held, they hold with so many more free ones
abbrev pub IsGrown : {T : Type 0} → List (Slot T) → ℕ → List (Slot T) → ℕ → ℕ → Type 0
IsGrown {T} before old_free after new_free more =
    (spare live : ℕ) (runs : List (Option Chain)) (rows : List (Option (List T)))
    → Holds (next_at before) (term_at before) (length before) old_free spare live runs rows
    → Holds (next_at after) (term_at after) (length after) new_free (spare + more) live runs rows
