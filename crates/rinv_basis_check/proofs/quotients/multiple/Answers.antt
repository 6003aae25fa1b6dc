use Rattle.std.proofs.Common.{◌≡◌, ℕ, ◌<◌, List, [], length, sym, ap, ◌∙◌, subst, subst₂, IsTrue, false}
use Rattle.rinv_algebra.specs.Monomial.{divides}
use Rattle.rinv_algebra.specs.Residue.{residue_ops}
use Rattle.rinv_algebra.specs.Fits.{product_fits}
use Rattle.rinv_groebner.proofs.MonomialLists.{lcm_left}
use Rattle.rinv_ring.specs.Fault.{DegreesMeet}
use Rattle.rinv_basis_check.proofs.PairMultiples.{one-distinct}
use Rattle.rinv_basis_check.proofs.StoredElements.{leads-many, lead-length, lcm-length}
use Rattle.rinv_basis_check.proofs.MultiplierTerms.{own, one-term, coefficient-element, coefficient-nonzero, coefficient-is, made-fits, made-value}
use Rattle.rinv_basis_check.proofs.quotients.multiple.Goals as goal

pub quotient-requires-clause-vars : goal.quotient-requires-clause-vars
quotient-requires-clause-vars c =
    let b = c.args.basis.now in
    let few : c.args.f < length b.leads.items = subst (λ (n : ℕ). c.args.f < n) (sym (leads-many b)) c.requires.first in
    ap length c.requires.common ∙ lcm-length _ _ (lead-length b c.args.f c.requires.first ∙ sym (lead-length b c.args.g c.requires.second)) ∙ sym (ap length (own b.leads.items c.args.f c.index.result.now [] few c.index.ensures))

pub quotient-requires-clause-divides : goal.quotient-requires-clause-divides
quotient-requires-clause-divides c =
    let b = c.args.basis.now in
    let few : c.args.f < length b.leads.items = subst (λ (n : ℕ). c.args.f < n) (sym (leads-many b)) c.requires.first in
    subst₂ (λ (x y : List ℕ). IsTrue (divides x y)) (sym (own b.leads.items c.args.f c.index.result.now [] few c.index.ensures)) (sym c.requires.common) (lcm_left _ _)

pub from_distinct-requires-clause-terms : goal.from_distinct-requires-clause-terms
from_distinct-requires-clause-terms c =
    let b = c.args.basis.now in
    let few : c.args.f < length b.leads.items = subst (λ (n : ℕ). c.args.f < n) (sym (leads-many b)) c.requires.first in
    let vars : length c.in_ok-mono.mono ≡ b.ring.vars =
    c.in_ok-mono.ensures.vars ∙ ap length c.requires.common ∙ lcm-length _ _ (lead-length b c.args.f c.requires.first ∙ sym (lead-length b c.args.g c.requires.second)) ∙ lead-length b c.args.f c.requires.first in
    one-term b.ring.coeffs b.ring.vars c.in_ok-mono.mono c.coeff-c.result.now c.in_ok-terms.terms.items c.in_ok-terms.ensures.items
    (coefficient-element b c.args.g c.requires.second c.index-2.result.now c.index-3.result.now c.index-2.ensures c.index-3.ensures c.in-Some.place c.in-Some.ensures.place c.in-Some.ensures.greatest c.coeff-c.result.now c.coeff-c.ensures)
    (coefficient-nonzero b c.args.g c.requires.second c.index-2.result.now c.index-3.result.now c.index-2.ensures c.index-3.ensures c.in-Some.place c.in-Some.ensures.place c.in-Some.ensures.greatest c.coeff-c.result.now c.coeff-c.ensures) vars c.degree-degree.ensures.limit

pub from_distinct-requires-clause-distinct : goal.from_distinct-requires-clause-distinct
from_distinct-requires-clause-distinct c = rw c.in_ok-terms.ensures.items (one-distinct c.in_ok-mono.mono)

pub returns-in-Ok-clause-fits : goal.returns-in-Ok-clause-fits
returns-in-Ok-clause-fits c = λ cert is.
    let b = c.args.basis.now in
    sym c.in-Ok.ensures.fits
    ∙ made-fits cert b is c.args.f c.args.g c.requires.first c.requires.second c.args.common.now c.requires.common c.index.result.now c.index.ensures c.in_ok-mono.mono c.in_ok-mono.ensures.value c.coeff-c.result.now
    (coefficient-is b c.args.g c.requires.second c.index-2.result.now c.index-3.result.now c.index-2.ensures c.index-3.ensures c.in-Some.place c.in-Some.ensures.place c.in-Some.ensures.greatest c.coeff-c.result.now c.coeff-c.ensures)
    c.in_ok-term.term c.in_ok-terms.terms.items c.in_ok-terms.ensures.items c.in_ok-term.ensures.value c.index-4.result.now c.index-4.ensures

pub returns-in-Ok-clause-value : goal.returns-in-Ok-clause-value
returns-in-Ok-clause-value c = λ cert is.
    let b = c.args.basis.now in
    made-value cert b is c.args.f c.args.g c.requires.first c.requires.second c.args.common.now c.requires.common c.index.result.now c.index.ensures c.in_ok-mono.mono c.in_ok-mono.ensures.value c.coeff-c.result.now
    (coefficient-is b c.args.g c.requires.second c.index-2.result.now c.index-3.result.now c.index-2.ensures c.index-3.ensures c.in-Some.place c.in-Some.ensures.place c.in-Some.ensures.greatest c.coeff-c.result.now c.coeff-c.ensures)
    c.in_ok-term.term c.in_ok-terms.terms.items c.in_ok-terms.ensures.items c.in_ok-term.ensures.value c.index-4.result.now c.index-4.ensures c.in-Ok.product c.in-Ok.ensures.value

pub returns-in-Err-Degree-clause-fits : goal.returns-in-Err-Degree-clause-fits
returns-in-Err-Degree-clause-fits c = λ cert is.
    let b = c.args.basis.now in
    let off : product_fits (residue_ops b.ring.coeffs) c.in_ok-term.term c.index-4.result.now ≡ false =
    subst (DegreesMeet (λ _ _. product_fits (residue_ops b.ring.coeffs) c.in_ok-term.term c.index-4.result.now ≡ false)) c.in-Err-Degree.field-0-is c.in-Err-Degree.ensures.degree in
    sym off
    ∙ made-fits cert b is c.args.f c.args.g c.requires.first c.requires.second c.args.common.now c.requires.common c.index.result.now c.index.ensures c.in_ok-mono.mono c.in_ok-mono.ensures.value c.coeff-c.result.now
    (coefficient-is b c.args.g c.requires.second c.index-2.result.now c.index-3.result.now c.index-2.ensures c.index-3.ensures c.in-Some.place c.in-Some.ensures.place c.in-Some.ensures.greatest c.coeff-c.result.now c.coeff-c.ensures)
    c.in_ok-term.term c.in_ok-terms.terms.items c.in_ok-terms.ensures.items c.in_ok-term.ensures.value c.index-4.result.now c.index-4.ensures
