use Rattle.rinv_algebra.specs.Order.{grevlex}
use Rattle.rinv_groebner.specs.Count.{count, reaches}
use Rattle.rinv_tails.proofs.Steps.{IsReducing}
use Rattle.rinv_tails.proofs.reducing.reduced_tail.Given as goal

abbrev pub invariant-terms : goal.invariant-terms
invariant-terms l = IsReducing l.field.base.coeffs l.field.base.vars l.by l.fn.tail.items l.done.items l.left.items

abbrev pub decreases-terms : goal.decreases-terms
decreases-terms l = count l.field.base.vars 10000 (reaches grevlex l.left.items)
