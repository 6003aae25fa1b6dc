use Rattle.std.proofs.Common.{◌≡◌, ◌∙◌, false, sym}
use Rattle.rinv_algebra.specs.Residue.{residue_ops}
use Rattle.rinv_algebra.specs.Polynomial.{is_zero}
use Rattle.rinv_algebra.proofs.ResidueField.{residue_field_laws}
use Rattle.rinv_algebra.proofs.ResidueLaws.{residue_laws}
use Rattle.rinv_frac.proofs.Inverses.{inverse-value}
use Rattle.rinv_frac.proofs.Stored.{stored}
use Rattle.rinv_frac.proofs.Values.{zero-value}
use Rattle.rinv_frac.proofs.fraction_ring.FracRingField.inverse.Goals as goal

pub turned_over-requires-clause-nonzero : goal.turned_over-requires-clause-nonzero
turned_over-requires-clause-nonzero c =
    let p = c.args.self.now.base.coeffs in
    let below = (stored p c.args.self.now.base.vars c.args.a.now c.requires).nonzero in
    sym (zero-value (residue_ops p) (residue_laws p) c.args.a.now below) ∙ sym c.is_zero.ensures ∙ c.if-is_zero.false

pub returns-clause-value : goal.returns-clause-value
returns-clause-value c =
    let p = c.args.self.now.base.coeffs in
    let o = residue_ops p in
    let l = residue_laws p in
    let a = c.args.a.now in
    let below = (stored p c.args.self.now.base.vars a c.requires).nonzero in
    let above : is_zero o a.0 ≡ false = sym (zero-value o l a below) ∙ sym c.is_zero.ensures ∙ c.if-is_zero.false in
    inverse-value o l (residue_field_laws p) a c.in_ok-inverse.inverse above below (rw c.in_ok-turned.ensures.parts at c.in_ok-inverse.ensures.value)
