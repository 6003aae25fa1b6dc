use Rattle.rinv_poly.proofs.Cancelling.{unscaled}
use Rattle.rinv_gens.proofs.constants.quotient.Goals as goal

pub returns-clause-value : goal.returns-clause-value
returns-clause-value g c =
    let value = rw c.in-Some.is at c.in_ok-inverse.ensures.value in
    unscaled (g.F.Ring.ops c.args.field.now) (g.F.Ring.laws c.args.field.now) c.args.n.now c.args.d.now c.in-Some.inverse c.in_ok-quotient.quotient value c.in_ok-quotient.ensures.value
