use Rattle.std.proofs.Common.{length}
use Rattle.rinv_tails.proofs.ReducedLists.{AreReducing}
use Rattle.rinv_tails.proofs.reducing.reduced_tails.Given as goal

abbrev pub invariant-relations : goal.invariant-relations
invariant-relations l = AreReducing l.field.base.coeffs l.field.base.vars l.fn.relations (length l.yielded) l.reduced.items
