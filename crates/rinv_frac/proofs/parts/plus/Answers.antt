use Rattle.rinv_frac.proofs.Heights.{degree-sum}
use Rattle.rinv_frac.proofs.parts.plus.Goals as goal

pub returns-in-Ok-clause-low : goal.returns-in-Ok-clause-low
returns-in-Ok-clause-low c = degree-sum c.args.ring.now.coeffs c.args.ring.now.vars c.args.a.now c.args.b.now c.in-Ok.sum c.requires.left c.requires.right c.in-Ok.ensures.value
