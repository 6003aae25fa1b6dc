use Rattle.std.proofs.Common.{◌≡◌, ◌+◌, drop, sum}
use Rattle.rinv_algebra.specs.Monomial.{lcm}
use Rattle.rinv_pairs.proofs.multiples.sum_of_greater.Given as goal

abbrev pub invariant-loop-k : goal.invariant-loop-k
invariant-loop-k l = l.degree + sum (lcm (drop l.k l.left) (drop l.k l.right)) ≡ sum (lcm l.left l.right)
