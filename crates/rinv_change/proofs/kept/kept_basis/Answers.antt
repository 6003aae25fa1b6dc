use Rattle.std.proofs.Common.{◌≡◌, ◌<◌, ◌∙◌, ℕ, List, length, All, sym, ap, subst₂, arith}
use Rattle.rinv_text.specs.Told.{Told}
use Rattle.rinv_defs.specs.System.{Poly, group_count}
use Rattle.rinv_parts.proofs.Stored.{normal-over as all-over}
use Rattle.rinv_laws.specs.declared.group.GroupBasis.{GroupBasis}
use Rattle.rinv_laws.proofs.GroupCopies.{polys-nonzero, nonzero-over}
use Rattle.rinv_change.proofs.WideLists.{basis-is}
use Rattle.rinv_change.proofs.kept.kept_basis.Goals as goal

pub kept_places-requires-clause-polys : goal.kept_places-requires-clause-polys
kept_places-requires-clause-polys c =
    let s = c.args.system.now.system in
    all-over c.new-from.result.coeffs s.p c.new-from.result.vars (group_count s) c.deref.result.now c.args.group.now.basis.polys
    (c.new-from.ensures.ring ∙ ap (λ (t : Told). t.system.p) c.system.view_is)
    (c.new-from.ensures.count ∙ c.len.ensures.len ∙ ap (λ (t : Told). length t.system.group) c.system.view_is)
    (c.deref.ensures.value ∙ ap (λ (g : GroupBasis). g.basis.polys) c.group.view_is) c.requires.group.normal

pub kept_places-requires-clause-nonzero : goal.kept_places-requires-clause-nonzero
kept_places-requires-clause-nonzero c =
    let s = c.args.system.now.system in
    nonzero-over c.new-from.result.coeffs s.p c.deref.result.now c.args.group.now.basis.polys
    (c.new-from.ensures.ring ∙ ap (λ (t : Told). t.system.p) c.system.view_is)
    (c.deref.ensures.value ∙ ap (λ (g : GroupBasis). g.basis.polys) c.group.view_is)
    (polys-nonzero s c.args.group.now.basis c.args.group.now.reduced.items c.requires.ring.system c.requires.group)

pub chosen_basis-requires-clause-field : goal.chosen_basis-requires-clause-field
chosen_basis-requires-clause-field c = c.new-from.ensures.ring ∙ ap (λ (t : Told). t.system.p) c.system.view_is ∙ sym c.requires.ring.field

pub chosen_basis-requires-clause-more : goal.chosen_basis-requires-clause-more
chosen_basis-requires-clause-more c =
    let l : c.new-from.result.vars ≡ group_count c.args.system.now.system = c.new-from.ensures.count ∙ c.len.ensures.len ∙ ap (λ (t : Told). length t.system.group) c.system.view_is in
    rw (l, c.requires.ring.vars) (omega arith)

pub chosen_basis-requires-clause-polynomials : goal.chosen_basis-requires-clause-polynomials
chosen_basis-requires-clause-polynomials c =
    let s = c.args.system.now.system in
    all-over c.new-from.result.coeffs s.p c.new-from.result.vars (group_count s) c.deref-2.result.now c.args.group.now.basis.polys
    (c.new-from.ensures.ring ∙ ap (λ (t : Told). t.system.p) c.system.view_is)
    (c.new-from.ensures.count ∙ c.len.ensures.len ∙ ap (λ (t : Told). length t.system.group) c.system.view_is)
    (c.deref-2.ensures.value ∙ ap (λ (g : GroupBasis). g.basis.polys) c.group.view_is) c.requires.group.normal

pub chosen_basis-requires-clause-nonzero : goal.chosen_basis-requires-clause-nonzero
chosen_basis-requires-clause-nonzero c =
    let s = c.args.system.now.system in
    nonzero-over c.new-from.result.coeffs s.p c.deref-2.result.now c.args.group.now.basis.polys
    (c.new-from.ensures.ring ∙ ap (λ (t : Told). t.system.p) c.system.view_is)
    (c.deref-2.ensures.value ∙ ap (λ (g : GroupBasis). g.basis.polys) c.group.view_is)
    (polys-nonzero s c.args.group.now.basis c.args.group.now.reduced.items c.requires.ring.system c.requires.group)

pub chosen_basis-requires-clause-places : goal.chosen_basis-requires-clause-places
chosen_basis-requires-clause-places c =
    let first : c.deref.result.now ≡ c.args.group.now.basis.polys = c.deref.ensures.value ∙ ap (λ (g : GroupBasis). g.basis.polys) c.group.view_is in
    let second : c.deref-2.result.now ≡ c.args.group.now.basis.polys = c.deref-2.ensures.value ∙ ap (λ (g : GroupBasis). g.basis.polys) c.group.view_is in
    subst₂ (λ (ks : List ℕ) (fs : List Poly). All (λ k. k < length fs) ks) (sym c.deref-3.ensures.value) (first ∙ sym second) c.in_ok-places.ensures.inside

pub returns : goal.returns
returns c =
    let s = c.args.system.now.system in
    let first : c.deref.result.now ≡ c.args.group.now.basis.polys = c.deref.ensures.value ∙ ap (λ (g : GroupBasis). g.basis.polys) c.group.view_is in
    let second : c.deref-2.result.now ≡ c.args.group.now.basis.polys = c.deref-2.ensures.value ∙ ap (λ (g : GroupBasis). g.basis.polys) c.group.view_is in
    let b = c.in_ok-basis.ensures in
    basis-is s c.args.group.now.basis c.in_ok-basis.basis c.args.ring.now.coeffs c.args.ring.now.vars c.new-from.result.coeffs c.deref.result.now c.deref-2.result.now c.in_ok-places.places.items c.deref-3.result.now c.requires.ring
    (c.new-from.ensures.ring ∙ ap (λ (t : Told). t.system.p) c.system.view_is) first second c.deref-3.ensures.value c.in_ok-places.ensures.kept b.value b.normal b.divisors
