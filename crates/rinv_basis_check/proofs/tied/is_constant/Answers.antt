use Rattle.std.proofs.Common.{◌∙◌}
use Rattle.rinv_basis_check.proofs.TiedCoefficients.{constant-tied}
use Rattle.rinv_basis_check.proofs.tied.is_constant.Goals as goal

pub returns : goal.returns
returns c = λ cert e. c.in_ok-same.ensures ∙ constant-tied cert c.args.ring.now.coeffs c.args.ring.now.vars e c.args.d.now c.args.u.now c.in-Ok.multiple c.args.v c.requires.denominator c.in-Ok.ensures.value
