use Rattle.std.proofs.Common.{◌≡◌, drop}
use Rattle.rinv_algebra.specs.Monomial.{coprime}
use Rattle.rinv_pairs.proofs.criteria.share_no_variable.Given as goal

abbrev pub invariant-loop-k : goal.invariant-loop-k
invariant-loop-k l = coprime (drop l.k l.left) (drop l.k l.right) ≡ coprime l.left l.right
