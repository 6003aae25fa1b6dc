use Rattle.std.proofs.Common.{◌∙◌, sym}
use Rattle.rinv_check.proofs.Changes.{shown-unfit, shown-same}
use Rattle.rinv_check.proofs.invariance.is_shown.Goals as goal

pub returns-in-Err-Degree : goal.returns-in-Err-Degree
returns-in-Err-Degree c =
    sym (shown-unfit c.args.rings.now.whole.coeffs c.args.rings.now.group c.args.action.now c.args.ideal.now c.args.fraction.now.0 c.args.fraction.now.1 c.args.cofactors.now
    (rw c.in-Err-Degree.field-0-is at c.in-Err-Degree.ensures.degree))

pub returns : goal.returns
returns c =
    c.in_ok-shown.ensures
    ∙ shown-same c.args.rings.now.whole.coeffs c.args.rings.now.group c.args.action.now c.args.ideal.now c.args.fraction.now.0 c.args.fraction.now.1 c.args.cofactors.now
    c.in-Ok.change c.in-Ok.ensures.fits c.in-Ok.ensures.value
