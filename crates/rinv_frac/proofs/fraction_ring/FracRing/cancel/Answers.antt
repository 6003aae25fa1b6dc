use Rattle.rinv_algebra.specs.Residue.{residue_ops}
use Rattle.rinv_algebra.proofs.ResidueField.{residue_field_laws}
use Rattle.rinv_algebra.proofs.ResidueLaws.{residue_laws}
use Rattle.rinv_frac.specs.Cancelling.{IsCancelled}
use Rattle.rinv_frac.proofs.CancelledDegrees.{cancelled-low}
use Rattle.rinv_frac.proofs.CancelledValues.{cancelled-value}
use Rattle.rinv_frac.proofs.Stored.{stored}
use Rattle.rinv_frac.proofs.fraction_ring.FracRing.cancel.Goals as goal

pub returns-clause-value : goal.returns-clause-value
returns-clause-value c =
    let p = c.args.self.now.base.coeffs in
    let n = (stored p c.args.self.now.base.vars c.args.f c.requires).nonzero in
    let made : IsCancelled (residue_ops p) c.args.f c.in_ok-cancelled.cancelled = rw c.base.ensures at c.in_ok-cancelled.ensures.cancelled in
    (cancelled-value (residue_ops p) (residue_laws p) (residue_field_laws p) c.args.f c.in_ok-cancelled.cancelled n made).value

pub returns-clause-numerator : goal.returns-clause-numerator
returns-clause-numerator c =
    let p = c.args.self.now.base.coeffs in
    let n = (stored p c.args.self.now.base.vars c.args.f c.requires).nonzero in
    let made : IsCancelled (residue_ops p) c.args.f c.in_ok-cancelled.cancelled = rw c.base.ensures at c.in_ok-cancelled.ensures.cancelled in
    (cancelled-low (residue_ops p) (residue_laws p) (residue_field_laws p) c.args.f c.in_ok-cancelled.cancelled n made).numerator

pub returns-clause-denominator : goal.returns-clause-denominator
returns-clause-denominator c =
    let p = c.args.self.now.base.coeffs in
    let n = (stored p c.args.self.now.base.vars c.args.f c.requires).nonzero in
    let made : IsCancelled (residue_ops p) c.args.f c.in_ok-cancelled.cancelled = rw c.base.ensures at c.in_ok-cancelled.ensures.cancelled in
    (cancelled-low (residue_ops p) (residue_laws p) (residue_field_laws p) c.args.f c.in_ok-cancelled.cancelled n made).denominator
