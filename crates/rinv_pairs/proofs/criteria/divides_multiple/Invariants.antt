use Rattle.std.proofs.Common.{◌≡◌, drop}
use Rattle.rinv_algebra.specs.Monomial.{divides, lcm}
use Rattle.rinv_pairs.proofs.criteria.divides_multiple.Given as goal

abbrev pub invariant-loop-k : goal.invariant-loop-k
invariant-loop-k l = divides (drop l.k l.by) (lcm (drop l.k l.left) (drop l.k l.right)) ≡ divides l.by (lcm l.left l.right)
