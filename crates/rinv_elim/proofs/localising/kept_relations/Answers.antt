use Rattle.std.proofs.Common.{◌≡◌, ◌∙◌, ◌<◌, ◌≤◌, [], false, ℕ, List, All, IsTrue, length, get_or, nat_lt, sym, ap, subst, arith}
use Rattle.std.proofs.lemmas.List.{length-map, get_or_default}
use Rattle.rinv_algebra.specs.Residue.{residue_ops, is_listed}
use Rattle.rinv_algebra.specs.Normal.{IsNormal}
use Rattle.rinv_algebra.specs.Polynomial.{is_zero}
use Rattle.rinv_groebner.specs.Elimination.{is_free}
use Rattle.rinv_defs.specs.System.{Poly, group_count, space_count}
use Rattle.rinv_defs.specs.PairConditions.{leading}
use Rattle.rinv_text.specs.Told.{Told}
use Rattle.rinv_text.proofs.SystemParts.{parts-of}
use Rattle.rinv_reduction.specs.Localised.{all_count, lead_in_z}
use Rattle.rinv_elim.specs.Localising.{IsSolved}
use Rattle.rinv_elim.proofs.CutElements.{element-at}
use Rattle.rinv_elim.proofs.LocalisedSoFar.{localising-start, localising-more, localising-end}
use Rattle.rinv_elim.proofs.RelationFacts.{leads-many}
use Rattle.rinv_elim.proofs.SpaceElements.{lead-at}
use Rattle.rinv_elim.proofs.localising.kept_relations.Goals as goal

pub kept_in_z-requires-clause-field : goal.kept_in_z-requires-clause-field
kept_in_z-requires-clause-field c =
    let s = c.args.system.now.system in
    subst (λ (p : ℕ). IsTrue (is_listed p)) (sym (c.new-space_ring.ensures.ring ∙ ap (λ (t : Told). t.system.p) c.system.view_is)) (parts-of s c.requires.system).listed

pub kept_in_z-requires-clause-vars : goal.kept_in_z-requires-clause-vars
kept_in_z-requires-clause-vars c =
    let s = c.args.system.now.system in
    let v : c.new-space_ring.result.vars ≡ space_count s = c.new-space_ring.ensures.count ∙ c.len.ensures.len ∙ ap (λ (t : Told). length t.system.space) c.system.view_is in
    subst (λ (n : ℕ). All (λ m. length m ≡ n) c.args.leads.now) (sym v) (leads-many s c.args.cut.now c.requires.cut c.requires.normal c.args.leads.now c.requires.leads)

pub places-init : goal.places-init
places-init c = localising-start c.args.system.now.system c.args.cut.now c.in_ok-places.places.items c.new-relations.result.items c.new-relations.ensures.items

pub relation_of-requires-clause-field : goal.relation_of-requires-clause-field
relation_of-requires-clause-field c = ap (λ r. r.coeffs) c.new-field.ensures ∙ c.new-space_ring.ensures.ring ∙ ap (λ (t : Told). t.system.p) c.system.view_is

pub relation_of-requires-clause-vars : goal.relation_of-requires-clause-vars
relation_of-requires-clause-vars c = ap (λ r. r.vars) c.new-field.ensures ∙ c.new-space_ring.ensures.count ∙ c.len.ensures.len ∙ ap (λ (t : Told). length t.system.space) c.system.view_is

pub relation_of-requires-clause-normal : goal.relation_of-requires-clause-normal
relation_of-requires-clause-normal c =
    let s = c.args.system.now.system in
    let cut = c.args.cut.now in
    let leads = c.args.leads.now in
    let k = c.places.k in
    let place = c.index-place.result.now in
    let inside : k < length c.in_ok-places.places.items = omega (arith, c.places-test.true, c.len-k-end.ensures, c.in_ok-places.places.ok.0) in
    let there : place < length leads = subst (λ (j : ℕ). j < length leads) (sym c.index-place.ensures) (c.in_ok-places.ensures.inside k place inside) in
    let count = ap (λ (ms : List (List ℕ)). length ms) c.requires.leads ∙ length-map cut (lead_in_z s) in
    let low : place < length cut = omega (arith, there, count) in
    let e = element-at s cut c.requires.cut place low in
    let h = get_or cut place [] in
    let h_is : c.index-cut-place.result ≡ h = c.index-cut-place.is ∙ get_or_default cut place c.index-cut-place.result [] low in
    subst (IsNormal (residue_ops s.p) (λ x. nat_lt x s.p) (all_count s)) (sym h_is) (c.requires.normal place [] low)

pub relation_of-requires-clause-nonzero : goal.relation_of-requires-clause-nonzero
relation_of-requires-clause-nonzero c =
    let s = c.args.system.now.system in
    let cut = c.args.cut.now in
    let leads = c.args.leads.now in
    let k = c.places.k in
    let place = c.index-place.result.now in
    let inside : k < length c.in_ok-places.places.items = omega (arith, c.places-test.true, c.len-k-end.ensures, c.in_ok-places.places.ok.0) in
    let there : place < length leads = subst (λ (j : ℕ). j < length leads) (sym c.index-place.ensures) (c.in_ok-places.ensures.inside k place inside) in
    let count = ap (λ (ms : List (List ℕ)). length ms) c.requires.leads ∙ length-map cut (lead_in_z s) in
    let low : place < length cut = omega (arith, there, count) in
    let e = element-at s cut c.requires.cut place low in
    let h = get_or cut place [] in
    let h_is : c.index-cut-place.result ≡ h = c.index-cut-place.is ∙ get_or_default cut place c.index-cut-place.result [] low in
    subst (λ (g : Poly). is_zero (residue_ops s.p) g ≡ false) (sym h_is) e.nonzero

pub relation_of-requires-clause-free : goal.relation_of-requires-clause-free
relation_of-requires-clause-free c =
    let s = c.args.system.now.system in
    let cut = c.args.cut.now in
    let leads = c.args.leads.now in
    let k = c.places.k in
    let place = c.index-place.result.now in
    let inside : k < length c.in_ok-places.places.items = omega (arith, c.places-test.true, c.len-k-end.ensures, c.in_ok-places.places.ok.0) in
    let there : place < length leads = subst (λ (j : ℕ). j < length leads) (sym c.index-place.ensures) (c.in_ok-places.ensures.inside k place inside) in
    let count = ap (λ (ms : List (List ℕ)). length ms) c.requires.leads ∙ length-map cut (lead_in_z s) in
    let low : place < length cut = omega (arith, there, count) in
    let e = element-at s cut c.requires.cut place low in
    let h = get_or cut place [] in
    let h_is : c.index-cut-place.result ≡ h = c.index-cut-place.is ∙ get_or_default cut place c.index-cut-place.result [] low in
    subst (λ (g : Poly). IsTrue (is_free (group_count s) (leading s g))) (sym h_is) e.free

pub relation_of-requires-clause-lead : goal.relation_of-requires-clause-lead
relation_of-requires-clause-lead c =
    let s = c.args.system.now.system in
    let cut = c.args.cut.now in
    let leads = c.args.leads.now in
    let k = c.places.k in
    let place = c.index-place.result.now in
    let inside : k < length c.in_ok-places.places.items = omega (arith, c.places-test.true, c.len-k-end.ensures, c.in_ok-places.places.ok.0) in
    let there : place < length leads = subst (λ (j : ℕ). j < length leads) (sym c.index-place.ensures) (c.in_ok-places.ensures.inside k place inside) in
    let count = ap (λ (ms : List (List ℕ)). length ms) c.requires.leads ∙ length-map cut (lead_in_z s) in
    let low : place < length cut = omega (arith, there, count) in
    let e = element-at s cut c.requires.cut place low in
    let h = get_or cut place [] in
    let h_is : c.index-cut-place.result ≡ h = c.index-cut-place.is ∙ get_or_default cut place c.index-cut-place.result [] low in
    let z = c.index-leads-place.result in
    c.index-leads-place.is ∙ get_or_default leads place z [] there ∙ lead-at s cut c.requires.cut leads c.requires.leads place low ∙ ap (lead_in_z s) (sym h_is)

pub places-preserved : goal.places-preserved
places-preserved c =
    let s = c.args.system.now.system in
    let cut = c.args.cut.now in
    let leads = c.args.leads.now in
    let k = c.places.k in
    let place = c.index-place.result.now in
    let inside : k < length c.in_ok-places.places.items = omega (arith, c.places-test.true, c.len-k-end.ensures, c.in_ok-places.places.ok.0) in
    let there : place < length leads = subst (λ (j : ℕ). j < length leads) (sym c.index-place.ensures) (c.in_ok-places.ensures.inside k place inside) in
    let count = ap (λ (ms : List (List ℕ)). length ms) c.requires.leads ∙ length-map cut (lead_in_z s) in
    let low : place < length cut = omega (arith, there, count) in
    let e = element-at s cut c.requires.cut place low in
    let h = get_or cut place [] in
    let h_is : c.index-cut-place.result ≡ h = c.index-cut-place.is ∙ get_or_default cut place c.index-cut-place.result [] low in
    let r = c.in_ok-relation.relation in
    localising-more s cut c.in_ok-places.places.items k c.places.relations.items c.push.new.self.items place r c.places.invariant inside c.index-place.ensures c.in_ok-push.ensures.items
    (subst (λ (g : Poly). IsSolved s g r) h_is c.in_ok-relation.ensures.solved) c.in_ok-relation.ensures.stored

pub returns : goal.returns
returns c =
    let all : length c.in_ok-places.places.items ≤ c.places.k = omega (arith, c.places-test.false, c.len-k-end.ensures, c.in_ok-places.places.ok.0) in
    localising-end c.args.system.now.system c.args.cut.now c.requires.cut c.args.leads.now c.requires.leads c.in_ok-places.places.items c.in_ok-places.ensures.places c.places.k c.places.relations.items all c.places.invariant
