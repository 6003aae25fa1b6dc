use Rattle.rinv_algebra.specs.Residue.{residue_ops}
use Rattle.rinv_algebra.specs.Fraction.{fraction_product}
use Rattle.rinv_algebra.proofs.ResidueField.{residue_field_laws}
use Rattle.rinv_algebra.proofs.ResidueLaws.{residue_laws}
use Rattle.rinv_frac.proofs.Stored.{stored}
use Rattle.rinv_frac.proofs.Sums.{value-of, made-of, product-nonzero, product-value}
use Rattle.rinv_frac.proofs.fraction_ring.FracRingRing.mul.Goals as goal

pub returns-clause-value : goal.returns-clause-value
returns-clause-value c =
    let p = c.args.self.now.base.coeffs in
    let v = c.args.self.now.base.vars in
    let o = residue_ops p in
    let l = residue_laws p in
    let F = residue_field_laws p in
    let a = c.args.a.now in
    let b = c.args.b.now in
    let na = (stored p v a c.requires.left).nonzero in
    let nb = (stored p v b c.requires.right).nonzero in
    value-of p v a b (fraction_product o a b) c.in_ok-product.product c.in_ok-product-2.product _ (product-nonzero o l F a.1 b.1 na nb) c.in_ok-product.ensures.product c.in_ok-product-2.ensures.value (product-value o l F a b na nb)

pub returns-clause-made : goal.returns-clause-made
returns-clause-made c =
    let p = c.args.self.now.base.coeffs in
    let a = c.args.a.now in
    let b = c.args.b.now in
    made-of p c.args.self.now.base.vars a b (fraction_product (residue_ops p) a b) c.in_ok-product.product c.in_ok-product-2.product c.in_ok-product.ensures.product c.in_ok-product-2.ensures.cancelled
