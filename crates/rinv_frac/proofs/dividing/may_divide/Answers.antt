use Rattle.std.proofs.Common.{◌∙◌, sym}
use Rattle.rinv_frac.proofs.DividedParts.{no-quotient-at}
use Rattle.rinv_frac.proofs.dividing.may_divide.Goals as goal

pub returns-in-Some-Some : goal.returns-in-Some-Some
returns-in-Some-Some c =
    let a = c.in-Some-Some.ensures in
    let b = c.in-Some-Some.ensures' in
    no-quotient-at c.args.ring.now.coeffs c.args.ring.now.vars c.in-Some-Some.field-0-0-1.now c.in-Some-Some.field-0-0-0.now c.in-Some-Some.field-0-1-1.now c.in-Some-Some.field-0-1-0.now
    (sym c.terms-2.ensures.value ∙ b.cases.0) (sym c.terms.ensures.value ∙ a.cases.0) c.requires.dividend c.requires.divisor c.divides.result c.divides.ensures
