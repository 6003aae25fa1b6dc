use Rattle.std.proofs.Common.{◌≡◌, ◌∙◌, ◌<◌, ◌≤◌, ◌∷◌, ◌++◌, [], false, ℕ, List, All, length, map, take, take_all, get_or, nat_lt, sym, ap, subst, true≢false}
use Rattle.std.proofs.lemmas.List.{length-map, map-append}
use Rattle.std.proofs.lemmas.List.Elements.{All-nil, All-more}
use Rattle.rinv_algebra.specs.Residue.{residue_ops}
use Rattle.rinv_algebra.specs.Monomial.{total_degree, max_degree}
use Rattle.rinv_algebra.specs.Order.{grevlex}
use Rattle.rinv_algebra.specs.Leading.{leading_monomial}
use Rattle.rinv_algebra.specs.Normal.{IsNormal}
use Rattle.rinv_algebra.specs.Polynomial.{is_zero}
use Rattle.rinv_defs.specs.System.{Poly}
use Rattle.rinv_buch.specs.Reducing.{kept_places}
use Rattle.rinv_tails.proofs.Tails.{take-at}
use Rattle.rinv_elim.proofs.SingleTerms.{single-normal, singles-normal, singles-nonzero, singles-leads}
use Rattle.rinv_elim.proofs.localising.kept_in_z.Goals as goal

pub each-init : goal.each-init
each-init c = record { made = c.in_ok-monomials.ensures.items; low = All-nil (λ m. total_degree m ≤ max_degree) }

pub unreachable-requires : goal.unreachable-requires
unreachable-requires c =
    let p = c.args.space_ring.now.coeffs in
    let v = c.args.space_ring.now.vars in
    let k = c.each.lead-index in
    let m = c.lead-item.result in
    let inside : k < length c.args.leads.now = c.each-test.true in
    let here : m ≡ get_or c.args.leads.now k m = c.lead-item.is in
    let many : length m ≡ v = subst (λ (x : List ℕ). length x ≡ v) (sym here) (c.requires.vars k m inside) in
    let normal = rw c.in_default.is at c.in_ok-made.ensures.normal in
    let items : c.in_ok-terms.terms.items ≡ (m, 1) ∷ [] = c.in_ok-terms.ensures.items ∙ ap (λ (x : List ℕ). (x, 1) ∷ []) c.in_ok-copy.ensures in
    absurd (true≢false (sym (normal.1 (subst (IsNormal (residue_ops p) (λ x. nat_lt x p) v) (sym items) (single-normal p v c.requires.field m many c.degree-low.ensures.limit)))))

pub each-preserved : goal.each-preserved
each-preserved c =
    let p = c.args.space_ring.now.coeffs in
    let v = c.args.space_ring.now.vars in
    let k = c.each.lead-index in
    let m = c.lead-item.result in
    let inside : k < length c.args.leads.now = c.each-test.true in
    let here : m ≡ get_or c.args.leads.now k m = c.lead-item.is in
    let many : length m ≡ v = subst (λ (x : List ℕ). length x ≡ v) (sym here) (c.requires.vars k m inside) in
    let items : c.in_ok-terms.terms.items ≡ (m, 1) ∷ [] = c.in_ok-terms.ensures.items ∙ ap (λ (x : List ℕ). (x, 1) ∷ []) c.in_ok-copy.ensures in
    let is : c.in-Some.monomial ≡ (m, 1) ∷ [] = (rw c.in-Some.is at c.in_ok-made.ensures.value) ∙ items in
    record {
      made =
          c.in_ok-push.ensures.items ∙ ap (λ (fs : List Poly). fs ++ c.in-Some.monomial ∷ []) c.each.invariant.made ∙ ap (λ (f : Poly). map (λ m. (m, 1) ∷ []) (take k c.args.leads.now) ++ f ∷ []) is
          ∙ sym (ap (map (λ m. (m, 1) ∷ [])) (take-at c.args.leads.now k m inside here) ∙ map-append (λ m. (m, 1) ∷ []) (take k c.args.leads.now) (m ∷ []));
      low = All-more (λ m. total_degree m ≤ max_degree) c.args.leads.now k m inside c.each.invariant.low (subst (λ (x : List ℕ). total_degree x ≤ max_degree) here c.degree-low.ensures.limit);
    }

pub kept_places-requires-clause-polys : goal.kept_places-requires-clause-polys
kept_places-requires-clause-polys c =
    let p = c.args.space_ring.now.coeffs in
    let v = c.args.space_ring.now.vars in
    let leads = c.args.leads.now in
    let whole : take c.each.lead-index leads ≡ leads = take_all c.each.lead-index leads c.each-test.false in
    let low = subst (λ (ms : List (List ℕ)). All (λ m. total_degree m ≤ max_degree) ms) whole c.each.invariant.low in
    let singles : c.each.monomials.items ≡ map (λ m. (m, 1) ∷ []) leads = c.each.invariant.made ∙ ap (map (λ m. (m, 1) ∷ [])) whole in
    subst (λ (fs : List Poly). All (IsNormal (residue_ops p) (λ x. nat_lt x p) v) fs) (sym (c.deref.ensures.value ∙ singles)) (singles-normal p v c.requires.field leads c.requires.vars low)

pub kept_places-requires-clause-nonzero : goal.kept_places-requires-clause-nonzero
kept_places-requires-clause-nonzero c =
    let p = c.args.space_ring.now.coeffs in
    let v = c.args.space_ring.now.vars in
    let leads = c.args.leads.now in
    let whole : take c.each.lead-index leads ≡ leads = take_all c.each.lead-index leads c.each-test.false in
    let low = subst (λ (ms : List (List ℕ)). All (λ m. total_degree m ≤ max_degree) ms) whole c.each.invariant.low in
    let singles : c.each.monomials.items ≡ map (λ m. (m, 1) ∷ []) leads = c.each.invariant.made ∙ ap (map (λ m. (m, 1) ∷ [])) whole in
    subst (λ (fs : List Poly). All (λ h. is_zero (residue_ops p) h ≡ false) fs) (sym (c.deref.ensures.value ∙ singles)) (singles-nonzero p v c.requires.field leads c.requires.vars low)

pub returns-clause-places : goal.returns-clause-places
returns-clause-places c =
    let p = c.args.space_ring.now.coeffs in
    let v = c.args.space_ring.now.vars in
    let leads = c.args.leads.now in
    let whole : take c.each.lead-index leads ≡ leads = take_all c.each.lead-index leads c.each-test.false in
    let low = subst (λ (ms : List (List ℕ)). All (λ m. total_degree m ≤ max_degree) ms) whole c.each.invariant.low in
    let singles : c.each.monomials.items ≡ map (λ m. (m, 1) ∷ []) leads = c.each.invariant.made ∙ ap (map (λ m. (m, 1) ∷ [])) whole in
    c.in_ok-places.ensures.places ∙ ap (λ (fs : List Poly). kept_places (map (leading_monomial (residue_ops p) grevlex) fs)) (c.deref.ensures.value ∙ singles) ∙ ap kept_places (singles-leads p v c.requires.field leads c.requires.vars low)

pub returns-clause-inside : goal.returns-clause-inside
returns-clause-inside c =
    let p = c.args.space_ring.now.coeffs in
    let v = c.args.space_ring.now.vars in
    let leads = c.args.leads.now in
    let whole : take c.each.lead-index leads ≡ leads = take_all c.each.lead-index leads c.each-test.false in
    let low = subst (λ (ms : List (List ℕ)). All (λ m. total_degree m ≤ max_degree) ms) whole c.each.invariant.low in
    let singles : c.each.monomials.items ≡ map (λ m. (m, 1) ∷ []) leads = c.each.invariant.made ∙ ap (map (λ m. (m, 1) ∷ [])) whole in
    subst (λ (n : ℕ). All (λ k. k < n) c.in_ok-places.places.items) (ap (λ (fs : List Poly). length fs) (c.deref.ensures.value ∙ singles) ∙ length-map leads (λ m. (m, 1) ∷ [])) c.in_ok-places.ensures.inside
