use Rattle.rinv_change.proofs.MadeChanges.{difference-answer}
use Rattle.rinv_change.proofs.changing.difference.Goals as goal

pub returns : goal.returns
returns c s f g ring h k =
    difference-answer s c.args.ring.now.coeffs c.args.ring.now.vars ring f g c.args.a.now c.args.b.now h k c.in-Ok.difference c.in-Ok.ensures.element c.in-Ok.ensures.value
