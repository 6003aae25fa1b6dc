use Rattle.std.proofs.Common.{[]}
use Rattle.rinv_algebra.specs.Residue.{residue_ops}
use Rattle.rinv_algebra.proofs.ResidueField.{residue_field_laws}
use Rattle.rinv_algebra.proofs.ResidueLaws.{residue_laws}
use Rattle.rinv_frac.proofs.Stored.{stored}
use Rattle.rinv_frac.proofs.CancelledValues.{over_one-value}
use Rattle.rinv_frac.proofs.ScaledParts.{over_one-pair}
use Rattle.rinv_frac.proofs.fraction_ring.FracRingRing.zero.Goals as goal

pub returns-clause-value : goal.returns-clause-value
returns-clause-value c =
    let p = c.args.self.now.base.coeffs in
    over_one-value (residue_ops p) (residue_laws p) (residue_field_laws p) c.in_ok-zero.zero c.in_ok-num.num [] (stored p c.args.self.now.base.vars c.in_ok-zero.zero c.in_ok-zero.ensures.element).nonzero c.in_ok-num.ensures.value c.in_ok-zero.ensures.value

pub returns-clause-made : goal.returns-clause-made
returns-clause-made c =
    let p = c.args.self.now.base.coeffs in
    let o = residue_ops p in
    over_one-pair o (residue_laws p) (residue_field_laws p) c.in_ok-zero.zero c.in_ok-num.num [] c.in_ok-num.ensures.value c.in_ok-zero.ensures.value
