use Rattle.rinv_parts.proofs.Values.{difference-stored}
use Rattle.rinv_parts.proofs.taken.difference.Goals as goal

pub returns : goal.returns
returns c f g h k = difference-stored c.args.ring.now.coeffs c.args.ring.now.vars f g c.args.a.now c.args.b.now h k c.in-Ok.difference c.in-Ok.ensures.element c.in-Ok.ensures.value
