use Rattle.std.proofs.Common.{◌≡◌, ℕ, ◌+◌, ◌<◌, [], length, get_or, sym, ap, ◌∙◌, subst, false}
use Rattle.std.proofs.lemmas.Cmp.{is_lt_index}
use Rattle.rinv_algebra.specs.Monomial.{total_degree, max_degree}
use Rattle.rinv_algebra.specs.Residue.{residue_ops}
use Rattle.rinv_algebra.specs.Polynomial.{is_zero}
use Rattle.rinv_mono.specs.Fault.{DegreesAre}
use Rattle.rinv_basis_check.proofs.LeadingTerms as terms
use Rattle.rinv_basis_check.proofs.StoredElements.{leads-many, lead-length, lead-listed, lead-of}
use Rattle.rinv_basis_check.proofs.MultiplierTerms.{own, fits-low, below-is}
use Rattle.rinv_basis_check.proofs.quotients.stays_below.Goals as goal

pub product-requires : goal.product-requires
product-requires c =
    let b = c.args.basis.now in
    let few : c.args.place < length b.leads.items = subst (λ (n : ℕ). c.args.place < n) (sym (leads-many b)) c.requires.inside in
    c.lead_of-lead.ensures.vars ∙ sym (ap length (own b.leads.items c.args.place c.index.result.now [] few c.index.ensures) ∙ lead-length b c.args.place c.requires.inside)

pub unreachable-requires : goal.unreachable-requires
unreachable-requires c =
    let b = c.args.basis.now in
    let p = b.ring.coeffs in
    let few : c.args.place < length b.leads.items = subst (λ (n : ℕ). c.args.place < n) (sym (leads-many b)) c.requires.inside in
    let nonzero : is_zero (residue_ops p) c.args.quotient.now ≡ false = sym c.is_zero.ensures ∙ c.if-is_zero.false in
    let here = own b.leads.items c.args.place c.index.result.now [] few c.index.ensures ∙ lead-of b c.args.place c.requires.inside in
    let faults : DegreesAre (total_degree c.lead_of-lead.result.now) (total_degree c.index.result.now) c.in-Err-Degree.field-0 = c.in-Err-Degree.ensures.degree in
    let over : max_degree < total_degree c.lead_of-lead.result.now + total_degree c.index.result.now = (subst (DegreesAre (total_degree c.lead_of-lead.result.now) (total_degree c.index.result.now)) c.in-Err-Degree.field-0-is faults).2 in
    fits-low p c.args.quotient.now (get_or b.elements.items c.args.place []) c.lead_of-lead.result.now c.index.result.now
    (rw c.lead_of-lead.ensures.lead (terms.lead-has p b.ring.vars b.order c.args.quotient.now c.requires.quotient nonzero)) (rw here (lead-listed b c.args.place c.requires.inside)) c.requires.fits over

pub returns-in-Ok : goal.returns-in-Ok
returns-in-Ok c = λ cert is.
    let b = c.args.basis.now in
    let nonzero : is_zero (residue_ops b.ring.coeffs) c.args.quotient.now ≡ false = sym c.is_zero.ensures ∙ c.if-is_zero.false in
    sym (is_lt_index c.compare.result ∙ sym c.eq.ensures)
    ∙ below-is cert b is c.args.common.now c.args.quotient.now c.args.place c.requires.inside nonzero c.lead_of-lead.result.now c.index.result.now c.in-Ok.product c.lead_of-lead.ensures.lead c.index.ensures c.in-Ok.ensures.value c.compare.result c.compare.ensures
