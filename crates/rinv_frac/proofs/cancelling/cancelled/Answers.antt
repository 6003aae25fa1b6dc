use Rattle.std.proofs.Common.{◌≡◌, ◌∙◌, true, false, sym, ap}
use Rattle.rinv_algebra.specs.Residue.{residue_ops}
use Rattle.rinv_algebra.specs.Polynomial.{is_zero}
use Rattle.rinv_algebra.specs.Fraction.{Fraction}
use Rattle.rinv_algebra.proofs.ResidueField.{residue_field_laws}
use Rattle.rinv_algebra.proofs.ResidueLaws.{residue_laws}
use Rattle.rinv_frac.proofs.CancelledDegrees.{stripped-nonzero}
use Rattle.rinv_frac.proofs.ScaledParts.{from-zero, from-steps}
use Rattle.rinv_frac.proofs.cancelling.cancelled.Goals as goal

pub returns-then-is_zero-clause-cancelled : goal.returns-then-is_zero-clause-cancelled
returns-then-is_zero-clause-cancelled c =
    let p = c.args.ring.now.coeffs in
    let z : is_zero (residue_ops p) c.args.f.0 ≡ true = ap (λ (x : Fraction _). is_zero (residue_ops p) x.0) (sym c.f.view_is) ∙ sym c.is_zero.ensures ∙ c.if-is_zero.true in
    from-zero (residue_ops p) (residue_laws p) (residue_field_laws p) c.args.f c.in_ok-zero.zero c.in_ok-num.num z c.in_ok-num.ensures.value c.in_ok-zero.ensures.value

pub divided-requires-clause-nonzero : goal.divided-requires-clause-nonzero
divided-requires-clause-nonzero c =
    let p = c.args.ring.now.coeffs in
    let n : is_zero (residue_ops p) c.args.f.0 ≡ false = ap (λ (x : Fraction _). is_zero (residue_ops p) x.0) (sym c.f.view_is) ∙ sym c.is_zero.ensures ∙ c.if-is_zero.false in
    stripped-nonzero (residue_ops p) (residue_laws p) (residue_field_laws p) c.args.f c.in_ok-stripped.stripped n c.in_ok-stripped.ensures.stripped

pub returns-clause-cancelled : goal.returns-clause-cancelled
returns-clause-cancelled c =
    let p = c.args.ring.now.coeffs in
    let n : is_zero (residue_ops p) c.args.f.0 ≡ false = ap (λ (x : Fraction _). is_zero (residue_ops p) x.0) (sym c.f.view_is) ∙ sym c.is_zero.ensures ∙ c.if-is_zero.false in
    from-steps (residue_ops p) (residue_laws p) (residue_field_laws p) c.args.f c.in_ok-stripped.stripped c.in_ok-divided.divided c.in_ok-scaled.scaled n c.in_ok-stripped.ensures.stripped c.in_ok-divided.ensures.divided c.in_ok-scaled.ensures.scaled
