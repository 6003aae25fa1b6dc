use Rattle.std.proofs.Common.{ℕ, [], nat_lt}
use Rattle.rinv_algebra.specs.Residue.{residue_ops}
use Rattle.rinv_algebra.specs.Polynomial.{Term}
use Rattle.rinv_poly.proofs.Forms.{ordered-from_normal}
use Rattle.rinv_basis_check.proofs.LeadingTerms.{lead-monomial}
use Rattle.rinv_basis_check.proofs.elements.lead_of.Goals as goal

pub returns-clause-lead : goal.returns-clause-lead
returns-clause-lead c =
    let d : Term ℕ = ([], 0) in
    rw (c.mono.ensures d)
    (lead-monomial c.args.ring.now.coeffs c.args.ring.now.vars c.args.order.now c.args.f.now c.requires.polynomial c.requires.nonzero c.requires.suits c.in-Some.place d c.in-Some.ensures.place (c.in-Some.ensures.greatest d))

pub returns-clause-vars : goal.returns-clause-vars
returns-clause-vars c =
    let n = ordered-from_normal (residue_ops c.args.ring.now.coeffs) (λ x. nat_lt x c.args.ring.now.coeffs) c.args.ring.now.vars c.args.f.now c.requires.polynomial in
    let d : Term ℕ = ([], 0) in
    rw (c.mono.ensures d) (n.terms c.in-Some.place d c.in-Some.ensures.place).vars
