-- Slots in a list, each with room for a term and the place of the slot behind it.
use Rattle.std.specs.Prelude.{◌≡◌, ℕ, zero, suc, ◌==◌, if◌then◌else◌, List, [], ◌∷◌, Option, None}
use Rattle.rinv_pool.specs.declared.slots.Slot.{Slot}

-- the term at a place
abbrev pub term_at : {T : Type 0} → List (Slot T) → ℕ → Option T
term_at [] place = None
term_at (slot ∷ slots) zero = slot.term
term_at (slot ∷ slots) (suc place) = term_at slots place

-- the place behind a place
abbrev pub next_at : {T : Type 0} → List (Slot T) → ℕ → ℕ
next_at [] place = 0
next_at (slot ∷ slots) zero = slot.next
next_at (slot ∷ slots) (suc place) = next_at slots place
