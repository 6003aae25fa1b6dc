use Rattle.std.proofs.Common.{reverse}
use Rattle.rinv_groebner.specs.Count.{count, reaches}
use Rattle.rinv_div.proofs.Rounds.{IsReducing}
use Rattle.rinv_div.proofs.remainder.remainder_by.Given as goal

abbrev pub invariant-terms : goal.invariant-terms
invariant-terms g l =
    IsReducing (g.R.Ring.ops l.ring.coeffs) (g.R.Ring.is_element l.ring.coeffs) l.ring.vars (g.O.MonoOrder.cmp l.order) l.basis l.f l.initial.steps l.steps l.round.rest.items (reverse l.round.left.items)

abbrev pub decreases-terms : goal.decreases-terms
decreases-terms g l = count l.ring.vars 10000 (reaches (g.O.MonoOrder.cmp l.order) (reverse l.round.left.items))
