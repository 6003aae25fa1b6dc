use Rattle.std.proofs.Common.{◌≡◌}
use Rattle.rinv_algebra.specs.Residue.{residue_ops}
use Rattle.rinv_algebra.specs.Polynomial.{poly_ops}
use Rattle.rinv_algebra.proofs.PolynomialLaws.{poly_laws}
use Rattle.rinv_algebra.proofs.ResidueLaws.{residue_laws}
use Rattle.rinv_soundness.specs.Rewriting.{in_z}
use Rattle.rinv_rewrite.specs.Symbols.{is_symbolic}
use Rattle.rinv_rewrite.proofs.WorkedTerms.{worked-same, worked-terms, long-in_z}
use Rattle.rinv_rewrite.proofs.dividing.in_z.Goals as goal

pub total-requires : goal.total-requires
total-requires c =
    let p = c.args.ring.now.coeffs.coeffs in
    worked-terms (poly_ops (residue_ops p)) (poly_laws (residue_ops p) (residue_laws p)) (is_symbolic p c.args.ring.now.coeffs.vars) c.args.ring.now.vars (in_z p c.args.f.now) c.in_ok-terms.terms.items (long-in_z p c.args.ring.now.vars c.args.f.now c.requires) c.in_ok-terms.ensures

pub returns-clause-value : goal.returns-clause-value
returns-clause-value c =
    let p = c.args.ring.now.coeffs.coeffs in
    let laws = poly_laws (poly_ops (residue_ops p)) (poly_laws (residue_ops p) (residue_laws p)) in
    laws.same_trans c.in_ok-poly.poly c.in_ok-terms.terms.items (in_z p c.args.f.now) c.in_ok-poly.ensures.value
    (worked-same (poly_ops (residue_ops p)) (poly_laws (residue_ops p) (residue_laws p)) (is_symbolic p c.args.ring.now.coeffs.vars) (in_z p c.args.f.now) c.in_ok-terms.terms.items c.in_ok-terms.ensures)
