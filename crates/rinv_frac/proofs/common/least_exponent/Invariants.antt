use Rattle.rinv_frac.proofs.LeastExponents.{IsLeastSoFar}
use Rattle.rinv_frac.proofs.common.least_exponent.Given as goal

abbrev pub invariant-loop-mono : goal.invariant-loop-mono
invariant-loop-mono l = IsLeastSoFar l.start l.terms l.k l.mono-index l.least
