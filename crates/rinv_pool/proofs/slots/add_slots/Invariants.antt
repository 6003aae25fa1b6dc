use Rattle.std.proofs.Common.{◌≡◌, ◌≤◌, ◌+◌, ◌-◌, length}
use Rattle.std.specs.Vec.{vec_capacity, vec_len}
use Rattle.rinv_pool.specs.Growing.{IsGrown}
use Rattle.rinv_pool.proofs.slots.add_slots.Given as goal

-- so many slots were added, and there is room for the others
abbrev pub invariant-slots : goal.invariant-slots
invariant-slots g l =
    (l.added ≤ l.more)
    × (length l.slots.items ≡ length l.initial.slots.items + l.added)
    × (vec_len l.slots + l.more ≤ vec_capacity l.slots + l.added)
    × IsGrown l.initial.slots.items l.initial.free l.slots.items l.free l.added

abbrev pub decreases-slots : goal.decreases-slots
decreases-slots g l = l.more - l.added
