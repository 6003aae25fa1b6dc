use Rattle.rinv_frac.proofs.Heights.{degree-product}
use Rattle.rinv_frac.proofs.parts.times.Goals as goal

pub returns-clause-low : goal.returns-clause-low
returns-clause-low c = degree-product c.args.ring.now.coeffs c.args.ring.now.vars c.args.a.now c.args.b.now c.in_ok-product.product c.requires.left c.requires.right c.in_ok-product.ensures.value
