use Rattle.rinv_change.proofs.MadeChanges.{product-answer}
use Rattle.rinv_change.proofs.changing.product.Goals as goal

pub returns : goal.returns
returns c s f g ring h k =
    product-answer s c.args.ring.now.coeffs c.args.ring.now.vars ring f g c.args.a.now c.args.b.now h k c.mul.result c.mul.ensures.element c.mul.ensures.value c.mul.ensures.degree
