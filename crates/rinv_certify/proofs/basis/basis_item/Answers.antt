use Rattle.std.proofs.Common.{◌≡◌, ◌∙◌, ℕ, [], get_or, ap, subst, nat_lt}
use Rattle.std.proofs.lemmas.List.{get_or_default}
use Rattle.std.proofs.lemmas.Result.{err_from_is_err_and}
use Rattle.rinv_algebra.specs.Residue.{residue_ops}
use Rattle.rinv_algebra.specs.Normal.{IsNormal}
use Rattle.rinv_reduction.specs.Localised.{all_count}
use Rattle.rinv_ring.specs.Fault.{DegreesMeet}
use Rattle.rinv_buch.specs.Kinds.{Found}
use Rattle.rinv_defs.specs.System.{Poly}
use Rattle.rinv_cert.specs.Seen.{basis_item_by}
use Rattle.rinv_change.proofs.MadeChanges.{normal-over}
use Rattle.rinv_at_graph.specs.AtGraph.{AtGraphMeets}
use Rattle.rinv_generators.specs.Generated.{Generated, IsGenerators}
use Rattle.rinv_certification.specs.Made.{IsBasisItemOf}
use Rattle.rinv_certify.proofs.BasisItems.{item-fits, item-proved}
use Rattle.rinv_certify.proofs.Taken.{holds-at}
use Rattle.rinv_certify.proofs.Vanishing.{element-vanishes}
use Rattle.rinv_certify.proofs.basis.basis_item.Goals as goal

pub proof_at_graph-requires-clause-ground : goal.proof_at_graph-requires-clause-ground
proof_at_graph-requires-clause-ground c = let g = c.args.gens.now in record { s = g.told.system; found = g.group; is = c.requires.ground }

pub proof_at_graph-requires-clause-polynomial : goal.proof_at_graph-requires-clause-polynomial
proof_at_graph-requires-clause-polynomial c =
    let g = c.args.gens.now in
    let s = g.told.system in
    let gens = subst IsGenerators c.gens.view_is c.gens.invariant in
    let h = c.index-polys-k.result in
    let polys : c.as_slice-polys.result.now ≡ g.action.polys = c.as_slice-polys.ensures.value ∙ ap (λ (x : Found ℕ). x.polys) c.action.view_is ∙ ap (λ (x : Generated). x.action.polys) c.gens.view_is in
    let at : h ≡ get_or g.action.polys c.args.k h = c.index-polys-k.is ∙ ap (λ fs. get_or fs c.args.k h) polys in
    let ground = c.args.ground.now in
    normal-over ground.ring.coeffs s.p ground.ring.vars (all_count s) h c.requires.ground.field c.requires.ground.vars (holds-at (IsNormal (residue_ops s.p) (λ n. nat_lt n s.p) (all_count s)) g.action.polys c.args.k h gens.action.normal c.requires.inside at)

pub returns-in_err-cofactors-clause-degree : goal.returns-in_err-cofactors-clause-degree
returns-in_err-cofactors-clause-degree c =
    let g = c.args.gens.now in
    let s = g.told.system in
    let gens = subst IsGenerators c.gens.view_is c.gens.invariant in
    let h = c.index-polys-k.result in
    let polys : c.as_slice-polys.result.now ≡ g.action.polys = c.as_slice-polys.ensures.value ∙ ap (λ (x : Found ℕ). x.polys) c.action.view_is ∙ ap (λ (x : Generated). x.action.polys) c.gens.view_is in
    let at : h ≡ get_or g.action.polys c.args.k h = c.index-polys-k.is ∙ ap (λ fs. get_or fs c.args.k h) polys in
    let there : h ≡ get_or g.action.polys c.args.k [] = at ∙ get_or_default g.action.polys c.args.k h [] c.requires.inside in
    let member = element-vanishes g gens c.requires.section c.args.k h c.requires.inside at in
    let fault = c.in_err-cofactors.field-0.0 in
    let q = err_from_is_err_and c.from_residual.result c.from_residual.ensures.1 in
    rw (q.1, q.2) (subst (λ (f : Poly). DegreesMeet (AtGraphMeets s g.group f) fault) there (c.in_err-cofactors.ensures s g.group c.requires.ground member))

pub returns-clause-item : goal.returns-clause-item
returns-clause-item c =
    let g = c.args.gens.now in
    let s = g.told.system in
    let gens = subst IsGenerators c.gens.view_is c.gens.invariant in
    let h = c.index-polys-k.result in
    let polys : c.as_slice-polys.result.now ≡ g.action.polys = c.as_slice-polys.ensures.value ∙ ap (λ (x : Found ℕ). x.polys) c.action.view_is ∙ ap (λ (x : Generated). x.action.polys) c.gens.view_is in
    let at : h ≡ get_or g.action.polys c.args.k h = c.index-polys-k.is ∙ ap (λ fs. get_or fs c.args.k h) polys in
    let there : h ≡ get_or g.action.polys c.args.k [] = at ∙ get_or_default g.action.polys c.args.k h [] c.requires.inside in
    let member = element-vanishes g gens c.requires.section c.args.k h c.requires.inside at in
    let proved = c.in_ok-cofactors.ensures s g.group c.requires.ground member in
    subst (λ (f : Poly). IsBasisItemOf s g.group f (basis_item_by (λ f. f) (c.in_ok-element.element, c.in_ok-list.list))) there
    (item-proved s g.group h c.in_ok-cofactors.cofactors.items (c.in_ok-element.element, c.in_ok-list.list) c.in_ok-element.ensures (c.in_ok-list.ensures ∙ c.deref.ensures.value) proved)

pub returns-clause-fits : goal.returns-clause-fits
returns-clause-fits c =
    let g = c.args.gens.now in
    let s = g.told.system in
    let gens = subst IsGenerators c.gens.view_is c.gens.invariant in
    let h = c.index-polys-k.result in
    let polys : c.as_slice-polys.result.now ≡ g.action.polys = c.as_slice-polys.ensures.value ∙ ap (λ (x : Found ℕ). x.polys) c.action.view_is ∙ ap (λ (x : Generated). x.action.polys) c.gens.view_is in
    let at : h ≡ get_or g.action.polys c.args.k h = c.index-polys-k.is ∙ ap (λ fs. get_or fs c.args.k h) polys in
    let member = element-vanishes g gens c.requires.section c.args.k h c.requires.inside at in
    let proved = c.in_ok-cofactors.ensures s g.group c.requires.ground member in
    item-fits s g.group h c.in_ok-cofactors.cofactors.items (c.in_ok-element.element, c.in_ok-list.list) c.in_ok-element.ensures (c.in_ok-list.ensures ∙ c.deref.ensures.value) proved
