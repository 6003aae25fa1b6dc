use Rattle.std.proofs.Common.{◌≡◌, ◌≤◌, ◌-◌, ◌++◌, take, drop}
use Rattle.rinv_algebra.specs.BlockEnds.{sizes_from}
use Rattle.rinv_algebra.specs.Ranks.{turned}
use Rattle.rinv_mono.proofs.ranks.push_turned.Given as goal

-- the places from this one on were written
abbrev pub invariant-places : goal.invariant-places
invariant-places l = (l.start ≤ l.k) × (l.k ≤ l.end) × (l.out.items ≡ l.initial.out.items ++ turned (drop (l.k - l.start) (take (l.end - l.start) (drop l.start (sizes_from 0 l.sums)))))

abbrev pub decreases-places : goal.decreases-places
decreases-places l = l.k
