use Rattle.std.proofs.Common.{◌≡◌, ◌∙◌, ◌<◌, [], ℕ, List, All, IsTrue, length, get_or, nat_lt, sym, ap, ap₂, subst, arith}
use Rattle.std.proofs.lemmas.List.{length-map, get_or_default}
use Rattle.rinv_algebra.specs.Residue.{residue_ops}
use Rattle.rinv_algebra.specs.Normal.{IsNormal}
use Rattle.rinv_groebner.specs.Elimination.{is_free}
use Rattle.rinv_defs.specs.System.{Poly, group_count}
use Rattle.rinv_text.specs.Told.{Told}
use Rattle.rinv_reduction.specs.Localised.{all_count, lead_in_z, z_coefficient}
use Rattle.rinv_elim.proofs.CutElements.{element-at}
use Rattle.rinv_elim.proofs.RelationFacts.{frees, lead-many}
use Rattle.rinv_elim.proofs.SpaceElements.{hits, misses, missed-element, lead-at}
use Rattle.rinv_elim.proofs.localising.missed.Goals as goal

pub z_coefficient-requires-clause-field : goal.z_coefficient-requires-clause-field
z_coefficient-requires-clause-field c = c.new-space_ring.ensures.ring ∙ ap (λ (t : Told). t.system.p) c.system.view_is

pub z_coefficient-requires-clause-vars : goal.z_coefficient-requires-clause-vars
z_coefficient-requires-clause-vars c = c.new-space_ring.ensures.count ∙ c.len.ensures.len ∙ ap (λ (t : Told). length t.system.space) c.system.view_is

pub z_coefficient-requires-clause-polynomial : goal.z_coefficient-requires-clause-polynomial
z_coefficient-requires-clause-polynomial c =
    let s = c.args.system.now.system in
    let cut = c.args.cut.now in
    let leads = c.args.leads.now in
    let place = c.in-Some.place in
    let some = c.in-Some.ensures.some in
    let count = ap (λ (ms : List (List ℕ)). length ms) c.requires.leads ∙ length-map cut (lead_in_z s) in
    let low : place < length cut = omega (arith, some.0, count) in
    let e = element-at s cut c.requires.cut place low in
    let normal = c.requires.normal place [] low in
    let h = get_or cut place [] in
    let h_is : c.index-cut-place.result ≡ h = c.index-cut-place.is ∙ get_or_default cut place c.index-cut-place.result [] low in
    subst (IsNormal (residue_ops s.p) (λ x. nat_lt x s.p) (all_count s)) (sym h_is) normal

pub z_coefficient-requires-clause-free : goal.z_coefficient-requires-clause-free
z_coefficient-requires-clause-free c =
    let s = c.args.system.now.system in
    let cut = c.args.cut.now in
    let leads = c.args.leads.now in
    let place = c.in-Some.place in
    let some = c.in-Some.ensures.some in
    let count = ap (λ (ms : List (List ℕ)). length ms) c.requires.leads ∙ length-map cut (lead_in_z s) in
    let low : place < length cut = omega (arith, some.0, count) in
    let e = element-at s cut c.requires.cut place low in
    let normal = c.requires.normal place [] low in
    let h = get_or cut place [] in
    let h_is : c.index-cut-place.result ≡ h = c.index-cut-place.is ∙ get_or_default cut place c.index-cut-place.result [] low in
    subst (λ (g : Poly). All (λ t. IsTrue (is_free (group_count s) t.0)) g) (sym h_is) (frees s h normal e.nonzero e.free)

pub z_coefficient-requires-clause-z : goal.z_coefficient-requires-clause-z
z_coefficient-requires-clause-z c =
    let s = c.args.system.now.system in
    let cut = c.args.cut.now in
    let leads = c.args.leads.now in
    let place = c.in-Some.place in
    let some = c.in-Some.ensures.some in
    let count = ap (λ (ms : List (List ℕ)). length ms) c.requires.leads ∙ length-map cut (lead_in_z s) in
    let low : place < length cut = omega (arith, some.0, count) in
    let e = element-at s cut c.requires.cut place low in
    let normal = c.requires.normal place [] low in
    let h = get_or cut place [] in
    let h_is : c.index-cut-place.result ≡ h = c.index-cut-place.is ∙ get_or_default cut place c.index-cut-place.result [] low in
    let z = c.index-leads-place.result in
    ap (λ (m : List ℕ). length m) (c.index-leads-place.is ∙ get_or_default leads place z [] some.0 ∙ lead-at s cut c.requires.cut leads c.requires.leads place low) ∙ lead-many s h normal e.nonzero e.free

pub returns-in_ok-element-in-Some-clause-some : goal.returns-in_ok-element-in-Some-clause-some
returns-in_ok-element-in-Some-clause-some c =
    let s = c.args.system.now.system in
    let cut = c.args.cut.now in
    let leads = c.args.leads.now in
    let place = c.in-Some.place in
    let some = c.in-Some.ensures.some in
    let count = ap (λ (ms : List (List ℕ)). length ms) c.requires.leads ∙ length-map cut (lead_in_z s) in
    let low : place < length cut = omega (arith, some.0, count) in
    let e = element-at s cut c.requires.cut place low in
    let normal = c.requires.normal place [] low in
    let h = get_or cut place [] in
    let h_is : c.index-cut-place.result ≡ h = c.index-cut-place.is ∙ get_or_default cut place c.index-cut-place.result [] low in
    let z = c.index-leads-place.result in
    let z_is : z ≡ get_or leads place [] = c.index-leads-place.is ∙ get_or_default leads place z [] some.0 in
    let value = c.in_ok-element-in-Some.ensures.value ∙ ap₂ (z_coefficient s) h_is z_is in
    (misses s cut c.requires.cut leads c.requires.leads place some.0 some.1, missed-element s cut c.requires.cut c.requires.normal leads c.requires.leads place some.0 some.1 c.in-Some.ensures.first c.in_ok-element-in-Some.element value)

pub returns-in-None-clause-none : goal.returns-in-None-clause-none
returns-in-None-clause-none c = hits c.args.system.now.system c.args.cut.now c.requires.cut c.args.leads.now c.requires.leads c.in-None.ensures.none
