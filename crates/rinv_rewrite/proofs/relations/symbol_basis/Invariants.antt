use Rattle.std.proofs.Common.{take}
use Rattle.rinv_rewrite.proofs.BasesInSteps.{IsSoFar}
use Rattle.rinv_rewrite.proofs.relations.symbol_basis.Given as goal

abbrev pub invariant-relations : goal.invariant-relations
invariant-relations l = IsSoFar l.ring.coeffs.coeffs l.ring.coeffs.vars l.ring.vars (take l.k l.relations) l.polys.items l.divisors.list.items
