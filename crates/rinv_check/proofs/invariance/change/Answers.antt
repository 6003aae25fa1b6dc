use Rattle.std.proofs.Common.{◌++◌}
use Rattle.std.proofs.lemmas.Result.{err_from_is_err_and}
use Rattle.rinv_algebra.specs.Residue.{residue_ops}
use Rattle.rinv_algebra.specs.Polynomial.{opposite}
use Rattle.rinv_algebra.specs.Value.{substitute}
use Rattle.rinv_algebra.proofs.ResidueLaws.{residue_laws}
use Rattle.rinv_algebra.proofs.PolynomialLaws.{poly_laws}
use Rattle.rinv_sub.proofs.Sums.{IfOk-same, OnOk-always}
use Rattle.rinv_check.proofs.Changes.{change-same, fits-all, fits-left, fits-right, meets-so, meets-numerator, meets-denominator}
use Rattle.rinv_check.proofs.invariance.change.Goals as goal

pub returns-in_err-moved_numerator-clause-degree : goal.returns-in_err-moved_numerator-clause-degree
returns-in_err-moved_numerator-clause-degree c =
    let r = c.args.rings.now in
    let q = err_from_is_err_and c.from_residual.result c.from_residual.ensures.1 in
    rw (q.1, q.2)
    (meets-numerator r.whole.coeffs r.whole.vars r.group c.args.action.now c.args.numerator.now c.args.denominator.now r.space.vars c.requires.numerator c.in_err-moved_numerator.field-0.0 c.in_err-moved_numerator.ensures.degree)

pub returns-in_err-moved_denominator-clause-degree : goal.returns-in_err-moved_denominator-clause-degree
returns-in_err-moved_denominator-clause-degree c =
    let r = c.args.rings.now in
    let q = err_from_is_err_and c.from_residual-in_err-moved_denominator.result c.from_residual-in_err-moved_denominator.ensures.1 in
    rw (q.1, q.2)
    (meets-denominator r.whole.coeffs r.whole.vars r.group c.args.action.now c.args.numerator.now c.args.denominator.now r.space.vars c.requires.denominator c.in_err-moved_denominator.field-0.0 c.in_err-moved_denominator.ensures.degree)

pub returns-in_err-left-clause-degree : goal.returns-in_err-left-clause-degree
returns-in_err-left-clause-degree c =
    let p = c.args.rings.now.whole.coeffs in
    let laws = poly_laws (residue_ops p) (residue_laws p) in
    let kept = rw c.in_ok-kept_denominator.ensures.value at c.in_err-left.ensures.degree in
    let q = err_from_is_err_and c.from_residual-in_err-left.result c.from_residual-in_err-left.ensures.1 in
    rw (q.1, q.2)
    (meets-so (fits-left p c.args.rings.now.group c.args.action.now c.args.numerator.now c.args.denominator.now c.in_ok-moved_numerator.moved_numerator (substitute (residue_ops p) c.args.action.now c.args.denominator.now)
    c.in_ok-moved_numerator.ensures.value (laws.same_refl (substitute (residue_ops p) c.args.action.now c.args.denominator.now))) c.in_err-left.field-0.0 kept)

pub returns-in_err-right-clause-degree : goal.returns-in_err-right-clause-degree
returns-in_err-right-clause-degree c =
    let p = c.args.rings.now.whole.coeffs in
    let kept = rw c.in_ok-kept_numerator.ensures.value at c.in_err-right.ensures.degree in
    let q = err_from_is_err_and c.from_residual-in_err-right.result c.from_residual-in_err-right.ensures.1 in
    rw (q.1, q.2)
    (meets-so (fits-right p c.args.rings.now.group c.args.action.now c.args.numerator.now c.args.denominator.now c.in_ok-moved_numerator.moved_numerator c.in_ok-moved_denominator.moved_denominator
    c.in_ok-moved_numerator.ensures.value c.in_ok-moved_denominator.ensures.value) c.in_err-right.field-0.0 kept)

pub returns-clause-value : goal.returns-clause-value
returns-clause-value c =
    let p = c.args.rings.now.whole.coeffs in
    let o = residue_ops p in
    let laws = poly_laws o (residue_laws p) in
    let left = c.in_ok-left.left in
    let right = c.in_ok-right.right in
    IfOk-same o (residue_laws p) c.sub.result _ _ c.sub.ensures.value
    (change-same p c.args.rings.now.group c.args.action.now c.args.numerator.now c.args.denominator.now c.in_ok-moved_numerator.moved_numerator c.in_ok-moved_denominator.moved_denominator
    c.in_ok-moved_numerator.ensures.value c.in_ok-moved_denominator.ensures.value left right (left ++ opposite o right)
    (rw c.in_ok-kept_denominator.ensures.value at c.in_ok-left.ensures.value) (rw c.in_ok-kept_numerator.ensures.value at c.in_ok-right.ensures.value) (laws.same_refl (left ++ opposite o right)))

pub returns-clause-fits : goal.returns-clause-fits
returns-clause-fits c =
    let p = c.args.rings.now.whole.coeffs in
    OnOk-always c.sub.result
    (fits-all p c.args.rings.now.group c.args.action.now c.args.numerator.now c.args.denominator.now c.in_ok-moved_numerator.moved_numerator c.in_ok-moved_denominator.moved_denominator
    c.in_ok-moved_numerator.ensures.value c.in_ok-moved_denominator.ensures.value
    c.in_ok-moved_numerator.ensures.fits (rw c.in_ok-kept_denominator.ensures.value at c.in_ok-left.ensures.fits)
    c.in_ok-moved_denominator.ensures.fits (rw c.in_ok-kept_numerator.ensures.value at c.in_ok-right.ensures.fits))
