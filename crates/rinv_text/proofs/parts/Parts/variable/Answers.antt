use Rattle.std.proofs.Common.{refl}
use Rattle.rinv_text.proofs.Crossings.{over-one}
use Rattle.rinv_text.proofs.parts.Parts.variable.Goals as goal

pub returns : goal.returns
returns c = record { num = c.in_ok-num.ensures; den = over-one c.args.ring.now.coeffs c.args.ring.now.vars; by_zero = refl }
