use Rattle.std.proofs.Common.{◌∙◌}
use Rattle.rinv_basis_check.proofs.TiedCoefficients.{first-misfits, second-misfits, fraction-tied}
use Rattle.rinv_basis_check.proofs.tied.is_fraction.Goals as goal

pub returns-in_default : goal.returns-in_default
returns-in_default c = λ cert k e is. first-misfits cert c.args.ring.now.coeffs e c.args.d.now c.args.u.now c.args.fraction.now k is (rw c.in_default.is at c.in_ok-left.ensures.fits)

pub returns-in_default-2 : goal.returns-in_default-2
returns-in_default-2 c = λ cert k e is. second-misfits cert c.args.ring.now.coeffs e c.args.d.now c.args.u.now c.args.fraction.now k is (rw c.in-Some.is at c.in_ok-left.ensures.fits) (rw c.in_default-2.is at c.in_ok-right.ensures.fits)

pub returns : goal.returns
returns c = λ cert k e is.
    c.in_ok-same.ensures
    ∙ fraction-tied cert c.args.ring.now.coeffs e c.args.d.now c.args.u.now c.args.fraction.now k is c.in-Some.left c.in-Some-2.right (rw c.in-Some.is at c.in_ok-left.ensures.fits) (rw c.in-Some-2.is at c.in_ok-right.ensures.fits) (rw c.in-Some.is at c.in_ok-left.ensures.value)
    (rw c.in-Some-2.is at c.in_ok-right.ensures.value)
