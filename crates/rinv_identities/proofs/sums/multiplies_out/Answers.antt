use Rattle.std.proofs.Common.{sym, ◌∙◌}
use Rattle.rinv_algebra.specs.Residue.{residue_ops}
use Rattle.rinv_algebra.specs.Polynomial.{poly_ops}
use Rattle.rinv_algebra.proofs.PolynomialLaws.{poly_laws}
use Rattle.rinv_algebra.proofs.ResidueLaws.{residue_laws}
use Rattle.rinv_algebra.proofs.RingFacts as facts
use Rattle.rinv_identities.proofs.SumsOfProducts.{not-fitting, sums-same}
use Rattle.rinv_identities.proofs.sums.multiplies_out.Goals as goal

pub returns-in_default : goal.returns-in_default
returns-in_default c = not-fitting c.args.ring.now.coeffs c.args.f.now c.args.cofactors.now c.args.generators.now (rw c.in_default.is at c.in_ok-products.ensures.fits)

pub returns-in-Ok-same : goal.returns-in-Ok-same
returns-in-Ok-same c =
    let p = c.args.ring.now.coeffs in
    let laws = poly_laws (residue_ops p) (residue_laws p) in
    c.in-Ok-same.ensures.value
    ∙ sums-same p c.args.f.now _ c.args.cofactors.now c.args.generators.now (sym (rw c.in-Some.is at c.in_ok-products.ensures.fits))
    (facts.then (poly_ops (residue_ops p)) laws c.in-Ok.ensures.value (rw c.in-Some.is at c.in_ok-products.ensures.sum))
