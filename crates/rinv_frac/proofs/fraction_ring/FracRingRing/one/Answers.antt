use Rattle.rinv_algebra.specs.Residue.{residue_ops}
use Rattle.rinv_algebra.specs.Polynomial.{constant}
use Rattle.rinv_algebra.proofs.ResidueField.{residue_field_laws}
use Rattle.rinv_algebra.proofs.ResidueLaws.{residue_laws}
use Rattle.rinv_frac.proofs.Stored.{stored}
use Rattle.rinv_frac.proofs.CancelledValues.{over_one-value}
use Rattle.rinv_frac.proofs.ScaledParts.{over_one-pair}
use Rattle.rinv_frac.proofs.fraction_ring.FracRingRing.one.Goals as goal

pub returns-clause-value : goal.returns-clause-value
returns-clause-value c =
    let p = c.args.self.now.base.coeffs in
    let o = residue_ops p in
    over_one-value o (residue_laws p) (residue_field_laws p) c.in_ok-one.one c.in_ok-num.num (constant o o.one) (stored p c.args.self.now.base.vars c.in_ok-one.one c.in_ok-one.ensures.element).nonzero c.in_ok-num.ensures.value c.in_ok-one.ensures.value

pub returns-clause-made : goal.returns-clause-made
returns-clause-made c =
    let p = c.args.self.now.base.coeffs in
    let o = residue_ops p in
    over_one-pair o (residue_laws p) (residue_field_laws p) c.in_ok-one.one c.in_ok-num.num (constant o o.one) c.in_ok-num.ensures.value c.in_ok-one.ensures.value
