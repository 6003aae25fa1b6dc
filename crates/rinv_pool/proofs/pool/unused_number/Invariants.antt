use Rattle.std.proofs.Common.{◌≡◌, ◌≤◌, ◌+◌, ◌-◌, drop, length}
use Rattle.rinv_pool.specs.Pools.{used}
use Rattle.rinv_pool.proofs.pool.unused_number.Given as goal

-- each number before is in use
abbrev pub invariant-numbers : goal.invariant-numbers
invariant-numbers l = (l.number ≤ length l.runs) × (l.number + used (drop l.number l.runs) ≡ used l.runs)

abbrev pub decreases-numbers : goal.decreases-numbers
decreases-numbers l = length l.runs - l.number
