use Rattle.std.proofs.Common.{◌∙◌}
use Rattle.rinv_algebra.specs.Residue.{residue_ops}
use Rattle.rinv_algebra.proofs.Degrees.{is_zero-same}
use Rattle.rinv_algebra.proofs.PolynomialLaws.{poly_laws}
use Rattle.rinv_algebra.proofs.ResidueField.{residue_field_laws}
use Rattle.rinv_algebra.proofs.ResidueLaws.{residue_laws}
use Rattle.rinv_frac.proofs.CancelledValues.{one_nonzero}
use Rattle.rinv_frac.proofs.Stored.{stored-from}
use Rattle.rinv_frac.proofs.parts.over_one.Goals as goal

pub returns-clause-element : goal.returns-clause-element
returns-clause-element c =
    let p = c.args.ring.now.coeffs in
    let o = residue_ops p in
    stored-from p c.args.ring.now.vars (c.args.num, c.in_ok-den.den) c.requires c.in_ok-den.ensures.element (is_zero-same o (residue_laws p) c.in_ok-den.den _ c.in_ok-den.ensures.value ∙ one_nonzero o (residue_laws p) (residue_field_laws p))

pub returns-clause-value : goal.returns-clause-value
returns-clause-value c =
    let p = c.args.ring.now.coeffs in
    record { numerator = (poly_laws (residue_ops p) (residue_laws p)).same_refl c.args.num; denominator = c.in_ok-den.ensures.value }
