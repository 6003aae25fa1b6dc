use Rattle.std.proofs.Common.{◌≡◌, ◌∙◌, length, refl, sym, ap, subst}
use Rattle.rinv_text.specs.Told.{Told}
use Rattle.rinv_text.proofs.SystemParts.{parts-of}
use Rattle.rinv_form.proofs.FormParts.{form-system}
use Rattle.rinv_cert.specs.Seen.{plain}
use Rattle.rinv_defs.specs.System.{System, group_count}
use Rattle.rinv_defs.specs.SystemForm.{IsSystem}
use Rattle.rinv_parts.specs.LawNames.{law_of}
use Rattle.rinv_parts.specs.Parts.{IsLawRing}
use Rattle.rinv_parts.specs.Points.{ArePolynomials}
use Rattle.rinv_parts.proofs.Stored.{normal-over, stored-normal}
use Rattle.rinv_check.specs.LawLists.{AreListsOf, parts_shown}
use Rattle.rinv_check.proofs.LawCofactors.{other-kind}
use Rattle.rinv_check.proofs.ShownLaws.{lists-given, shown-by_parts}
use Rattle.rinv_check.proofs.laws.law_is_shown.Goals as goal

pub parts_of-requires : goal.parts_of-requires
parts_of-requires c = subst IsSystem (sym c.requires.system) (form-system (plain c.args.stored.now) c.requires.form refl)

pub copied_ideal-requires-clause-polynomials : goal.copied_ideal-requires-clause-polynomials
copied_ideal-requires-clause-polynomials c =
    let s = c.args.system.now.system in
    let system : IsSystem s = subst IsSystem (sym c.requires.system) (form-system (plain c.args.stored.now) c.requires.form refl) in
    let ring = c.in_ok-parts.ensures.parts.ring in
    normal-over c.in_ok-parts.parts.ring.coeffs s.p c.new-group.result.vars (group_count s) c.deref.result.now s.ideal ring.field (c.new-group.ensures.count ∙ c.len.ensures.len ∙ ap (λ (t : Told). group_count t.system) c.system.view_is)
    (c.deref.ensures.value ∙ ap (λ (t : Told). t.system.ideal) c.system.view_is) (parts-of s system).ideal

pub parts_are_shown-requires-clause-generators : goal.parts_are_shown-requires-clause-generators
parts_are_shown-requires-clause-generators c =
    let r = c.in_ok-parts.parts.ring in
    subst (ArePolynomials r.coeffs r.vars) (sym c.deref-2.ensures.value) (stored-normal r.coeffs r.vars _ c.in_ok-generators.generators.items c.in_ok-generators.ensures)

pub parts_are_shown-requires-clause-lists : goal.parts_are_shown-requires-clause-lists
parts_are_shown-requires-clause-lists c =
    let d = plain c.args.stored.now in
    let law = law_of c.args.law in
    let l = c.in_ok-parts.parts in
    let ring : IsLawRing d.system (law_of l.law) l.ring.coeffs l.ring.vars = subst (λ (s : System). IsLawRing s (law_of l.law) l.ring.coeffs l.ring.vars) c.requires.system c.in_ok-parts.ensures.parts.ring in
    let group : c.new-group.result.vars ≡ group_count d.system = c.new-group.ensures.count ∙ c.len.ensures.len ∙ ap (λ (t : Told). group_count t.system) c.system.view_is ∙ ap (λ (s : System). group_count s) c.requires.system in
    let ideal : c.deref.result.now ≡ d.system.ideal = c.deref.ensures.value ∙ ap (λ (t : Told). t.system.ideal) c.system.view_is ∙ ap (λ (s : System). s.ideal) c.requires.system in
    subst (λ (s : System). AreListsOf s l c.lists_of-lists.result.now (length c.deref-2.result.now)) (sym c.requires.system)
    (lists-given d (other-kind c.args.stored.now.kind c.requires.kind) c.requires.form (form-system d c.requires.form refl) l law (ap law_of c.in_ok-parts.ensures.law) ring c.new-group.result.vars c.copies.result c.deref.result.now c.in_ok-generators.generators.items c.deref-2.result.now
    group c.copies.ensures ideal c.deref-2.ensures.value c.in_ok-generators.ensures c.lists_of-lists.result.now c.lists_of-lists.ensures)

pub returns : goal.returns
returns c =
    let d = plain c.args.stored.now in
    let law = law_of c.args.law in
    let l = c.in_ok-parts.parts in
    let ring : IsLawRing d.system (law_of l.law) l.ring.coeffs l.ring.vars = subst (λ (s : System). IsLawRing s (law_of l.law) l.ring.coeffs l.ring.vars) c.requires.system c.in_ok-parts.ensures.parts.ring in
    let group : c.new-group.result.vars ≡ group_count d.system = c.new-group.ensures.count ∙ c.len.ensures.len ∙ ap (λ (t : Told). group_count t.system) c.system.view_is ∙ ap (λ (s : System). group_count s) c.requires.system in
    let ideal : c.deref.result.now ≡ d.system.ideal = c.deref.ensures.value ∙ ap (λ (t : Told). t.system.ideal) c.system.view_is ∙ ap (λ (s : System). s.ideal) c.requires.system in
    c.in_ok-shown.ensures ∙ ap (λ (s : System). parts_shown s (law_of l.law) c.lists_of-lists.result.now c.deref-2.result.now) c.requires.system
    ∙ shown-by_parts d (other-kind c.args.stored.now.kind c.requires.kind) c.requires.form (form-system d c.requires.form refl) l law (ap law_of c.in_ok-parts.ensures.law) ring c.new-group.result.vars c.copies.result c.deref.result.now c.in_ok-generators.generators.items c.deref-2.result.now
    group c.copies.ensures ideal c.deref-2.ensures.value c.in_ok-generators.ensures c.lists_of-lists.result.now c.lists_of-lists.ensures
