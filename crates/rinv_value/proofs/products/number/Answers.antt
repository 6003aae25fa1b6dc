use Rattle.rinv_algebra.specs.Ring.{IsSame}
use Rattle.rinv_algebra.specs.Residue.{residue_ops}
use Rattle.rinv_algebra.specs.Polynomial.{poly_ops, constant}
use Rattle.rinv_algebra.proofs.ResidueField.{residue_field_laws}
use Rattle.rinv_algebra.proofs.ResidueLaws.{residue_laws}
use Rattle.rinv_frac.proofs.ScaledParts.{over_one-pair}
use Rattle.rinv_value.proofs.products.number.Goals as goal

pub returns-clause-value : goal.returns-clause-value
returns-clause-value c =
    let o = residue_ops c.args.field.now.base.coeffs in
    let l = residue_laws c.args.field.now.base.coeffs in
    let F = residue_field_laws c.args.field.now.base.coeffs in
    let value : IsSame (poly_ops o) c.in_ok-constant.constant (constant o c.args.c) = rw c.base.ensures at c.in_ok-constant.ensures.value in
    over_one-pair o l F c.in_ok-number.number c.in_ok-constant.constant (constant o c.args.c) value c.in_ok-number.ensures.value
