use Rattle.std.proofs.Common.{◌<◌, length, arith, refl}
use Rattle.rinv_algebra.specs.Residue.{residue_ops}
use Rattle.rinv_algebra.proofs.PolynomialLaws.{poly_laws}
use Rattle.rinv_algebra.proofs.ResidueLaws.{residue_laws}
use Rattle.rinv_modulo.proofs.Powers.{times-known, times-next, times-none}
use Rattle.rinv_modulo.proofs.values.times_power.Goals as goal

pub returns-then-exponent-eq0 : goal.returns-then-exponent-eq0
returns-then-exponent-eq0 c =
    let p = c.args.ring.now.coeffs in
    times-none p c.args.ring.now.vars c.args.basis.now c.args.f c.args.factor.now c.args.f c.args.exponent c.if-exponent-eq0.true c.requires.left ((poly_laws (residue_ops p) (residue_laws p)).same_refl c.args.f)

pub returns-then-exponent-powers : goal.returns-then-exponent-powers
returns-then-exponent-powers c =
    let a = c.index-powers-exponent.result in
    let below : c.args.exponent < length c.args.powers.now = omega (arith, c.if-exponent-powers.true) in
    let known = c.requires.powers c.args.exponent a below in
    times-known c.args.ring.now.coeffs c.args.ring.now.vars c.args.basis.now c.args.f c.args.factor.now a c.in_ok-product.product c.args.exponent (rw (← c.index-powers-exponent.is) at known) c.in_ok-product.ensures

pub powers-init : goal.powers-init
powers-init c =
    let p = c.args.ring.now.coeffs in
    times-none p c.args.ring.now.vars c.args.basis.now c.args.f c.args.factor.now c.args.f 0 refl c.requires.left ((poly_laws (residue_ops p) (residue_laws p)).same_refl c.args.f)

pub powers-preserved : goal.powers-preserved
powers-preserved c = times-next c.args.ring.now.coeffs c.args.ring.now.vars c.args.basis.now c.args.f c.args.factor.now c.powers.product c.in_ok-product-2.product c.powers.k c.powers.invariant c.in_ok-product-2.ensures
