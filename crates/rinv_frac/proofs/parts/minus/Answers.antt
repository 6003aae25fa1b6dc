use Rattle.rinv_frac.proofs.Heights.{degree-difference}
use Rattle.rinv_frac.proofs.parts.minus.Goals as goal

pub returns-in-Ok-clause-low : goal.returns-in-Ok-clause-low
returns-in-Ok-clause-low c = degree-difference c.args.ring.now.coeffs c.args.ring.now.vars c.args.a.now c.args.b.now c.in-Ok.difference c.requires.left c.requires.right c.in-Ok.ensures.value
