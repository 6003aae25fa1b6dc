use Rattle.std.proofs.Common.{refl}
use Rattle.rinv_generators.proofs.proving.halted.Goals as goal

pub returns-in-Ok : goal.returns-in-Ok
returns-in-Ok c = (refl, c.in-Ok.ensures, c.args.left, c.args.right, refl, (refl, refl))
