use Rattle.std.proofs.Common.{arith}
use Rattle.std.proofs.lemmas.Result.{err_from_is_err_and}
use Rattle.rinv_algebra.specs.Residue.{residue_ops}
use Rattle.rinv_algebra.proofs.ResidueLaws.{residue_laws}
use Rattle.rinv_value.proofs.Multiplying.{multiplied-none, multiplied-more, products-next}
use Rattle.rinv_value.proofs.products.times_power.Goals as goal

pub powers-init : goal.powers-init
powers-init c = record { stored = c.requires.left; made = multiplied-none (residue_ops c.args.field.now.base.coeffs) (residue_laws c.args.field.now.base.coeffs) c.args.f }

pub returns-in_err-product-clause-degree : goal.returns-in_err-product-clause-degree
returns-in_err-product-clause-degree c =
    let p = err_from_is_err_and c.from_residual.result c.from_residual.ensures.1 in
    rw (p.1, p.2)
    (products-next (residue_ops c.args.field.now.base.coeffs) (residue_laws c.args.field.now.base.coeffs) c.args.f c.powers.product c.args.factor.now c.powers.k c.args.exponent (omega (arith, c.powers-test.true)) c.powers.invariant.made c.in_err-product.field-0.0 c.in_err-product.ensures.degree)

pub powers-preserved : goal.powers-preserved
powers-preserved c = record {
  stored = c.in_ok-product.ensures.element;
  made = multiplied-more (residue_ops c.args.field.now.base.coeffs) (residue_laws c.args.field.now.base.coeffs) c.args.f c.powers.product c.args.factor.now c.in_ok-product.product c.powers.k c.powers.invariant.made c.in_ok-product.ensures.made;
}
