use Rattle.std.proofs.Common.{◌∙◌, ap}
use Rattle.rinv_algebra.specs.Residue.{residue_ops}
use Rattle.rinv_algebra.specs.Polynomial.{coefficient, poly_ops}
use Rattle.rinv_rewrite.proofs.CoefficientValues.{value-nonzero}
use Rattle.rinv_rewrite.proofs.choosing.chosen.Goals as goal

pub cancelled-requires-clause-nonzero : goal.cancelled-requires-clause-nonzero
cancelled-requires-clause-nonzero c =
    let p = c.args.ring.now.coeffs.coeffs in
    let greatest = rw c.in-Some.is at c.in_ok-greatest.ensures.exact in
    rw (ap (λ r. r.coeffs) c.new-symbols.ensures ∙ c.new.ensures.ring ∙ c.coeffs.ensures ∙ ap (λ r. r.coeffs) c.coeffs-coeffs.ensures)
    (value-nonzero p c.args.fractions.now c.in_ok-den-in-Some.den (coefficient (poly_ops (residue_ops p)) c.args.den.now c.in-Some.mono) c.in_ok-den-in-Some.ensures.value greatest.has)
