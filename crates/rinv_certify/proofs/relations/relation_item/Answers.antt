use Rattle.std.proofs.Common.{◌≡◌, ◌<◌, ◌∙◌, length, get_or, ap, subst, subst₂, arith}
use Rattle.std.proofs.lemmas.Result.{err_from_is_err_and}
use Rattle.rinv_reduction.specs.Localised.{all_count}
use Rattle.rinv_ring.specs.Fault.{DegreesMeet}
use Rattle.rinv_defs.specs.System.{space_count}
use Rattle.rinv_defs.specs.Extended.{Relation}
use Rattle.rinv_cert.specs.Seen.{relation_item_by}
use Rattle.rinv_tails.specs.Stored.{IsStoredRelation}
use Rattle.rinv_coefficients.specs.Ties.{TiedRelation, Ties}
use Rattle.rinv_change.proofs.MadeChanges.{normal-over}
use Rattle.rinv_generators.specs.Generated.{Generated, IsGenerators}
use Rattle.rinv_certification.specs.Made.{IsRelationItemOf}
use Rattle.rinv_certify.specs.Meets.{RelationMeets}
use Rattle.rinv_certify.proofs.RelationItems.{graph-met, item-fits, item-of, whole-vanishes}
use Rattle.rinv_certify.proofs.Taken.{holds-at, same-place}
use Rattle.rinv_certify.proofs.WholeParts.{all_zip-long, zip-holds}
use Rattle.rinv_certify.proofs.relations.relation_item.Goals as goal

pub bounds-relations-k : goal.bounds-relations-k
bounds-relations-k c =
    let g = c.args.gens.now in
    let gens = subst IsGenerators c.gens.view_is c.gens.invariant in
    let monic : c.as_slice-relations.result.now ≡ g.monic = c.as_slice-relations.ensures.value ∙ c.monic.view_is ∙ ap (λ (x : Generated). x.monic) c.gens.view_is in
    let alike = ap (λ xs. length xs) monic in
    let many = all_zip-long (Ties g.told.system.p g.fractions) g.relations g.monic gens.relations in
    omega (arith, c.requires.inside, many, alike)

pub offset_bounds-relations-k : goal.offset_bounds-relations-k
offset_bounds-relations-k c =
    let g = c.args.gens.now in
    let gens = subst IsGenerators c.gens.view_is c.gens.invariant in
    let monic : c.as_slice-relations.result.now ≡ g.monic = c.as_slice-relations.ensures.value ∙ c.monic.view_is ∙ ap (λ (x : Generated). x.monic) c.gens.view_is in
    let alike = ap (λ xs. length xs) monic in
    let many = all_zip-long (Ties g.told.system.p g.fractions) g.relations g.monic gens.relations in
    let low : c.args.k < length c.as_slice-relations.result.now = omega (arith, c.requires.inside, many, alike) in
    record { fits = grind (arith, low) }

pub bounds-ties-k : goal.bounds-ties-k
bounds-ties-k c =
    let alike = ap (λ xs. length xs) (c.as_slice-ties.ensures.value ∙ ap (λ (x : Generated). x.relations) c.gens.view_is) in
    omega (arith, c.requires.inside, alike)

pub whole_of-requires-clause-relation : goal.whole_of-requires-clause-relation
whole_of-requires-clause-relation c =
    let g = c.args.gens.now in
    let s = g.told.system in
    let k = c.args.k in
    let gens = subst IsGenerators c.gens.view_is c.gens.invariant in
    let r0 = c.index-relations-k.result in
    let monic : c.as_slice-relations.result.now ≡ g.monic = c.as_slice-relations.ensures.value ∙ c.monic.view_is ∙ ap (λ (x : Generated). x.monic) c.gens.view_is in
    let r_at : r0 ≡ get_or g.monic k r0 = c.index-relations-k.is ∙ ap (λ xs. get_or xs k r0) monic in
    let many = all_zip-long (Ties s.p g.fractions) g.relations g.monic gens.relations in
    let inside : k < length g.monic = omega (arith, c.requires.inside, many) in
    holds-at (IsStoredRelation s.p (space_count s)) g.monic k r0 gens.monic_stored inside r_at

pub whole_of-requires-clause-ties : goal.whole_of-requires-clause-ties
whole_of-requires-clause-ties c =
    let g = c.args.gens.now in
    let s = g.told.system in
    let k = c.args.k in
    let gens = subst IsGenerators c.gens.view_is c.gens.invariant in
    let r0 = c.index-relations-k.result in
    let q0 = c.index-ties-k.result in
    let monic : c.as_slice-relations.result.now ≡ g.monic = c.as_slice-relations.ensures.value ∙ c.monic.view_is ∙ ap (λ (x : Generated). x.monic) c.gens.view_is in
    let tied : c.as_slice-ties.result.now ≡ g.relations = c.as_slice-ties.ensures.value ∙ ap (λ (x : Generated). x.relations) c.gens.view_is in
    let r_at : r0 ≡ get_or g.monic k r0 = c.index-relations-k.is ∙ ap (λ xs. get_or xs k r0) monic in
    let q_at : q0 ≡ get_or g.relations k q0 = c.index-ties-k.is ∙ ap (λ xs. get_or xs k q0) tied in
    let ties = zip-holds (Ties s.p g.fractions) g.relations g.monic k q0 r0 gens.relations c.requires.inside q_at r_at in
    ties

pub returns-in_err-made-clause-degree : goal.returns-in_err-made-clause-degree
returns-in_err-made-clause-degree c r q e1 e2 =
    let g = c.args.gens.now in
    let k = c.args.k in
    let gens = subst IsGenerators c.gens.view_is c.gens.invariant in
    let r0 = c.index-relations-k.result in
    let q0 = c.index-ties-k.result in
    let monic : c.as_slice-relations.result.now ≡ g.monic = c.as_slice-relations.ensures.value ∙ c.monic.view_is ∙ ap (λ (x : Generated). x.monic) c.gens.view_is in
    let tied : c.as_slice-ties.result.now ≡ g.relations = c.as_slice-ties.ensures.value ∙ ap (λ (x : Generated). x.relations) c.gens.view_is in
    let r_at : r0 ≡ get_or g.monic k r0 = c.index-relations-k.is ∙ ap (λ xs. get_or xs k r0) monic in
    let q_at : q0 ≡ get_or g.relations k q0 = c.index-ties-k.is ∙ ap (λ xs. get_or xs k q0) tied in
    let many = all_zip-long (Ties g.told.system.p g.fractions) g.relations g.monic gens.relations in
    let inside : k < length g.monic = omega (arith, c.requires.inside, many) in
    let fault = c.in_err-made.field-0.0 in
    let w = err_from_is_err_and c.from_residual.result c.from_residual.ensures.1 in
    rw (w.1, w.2) (subst₂ (λ (r' : Relation) (q' : TiedRelation). DegreesMeet (RelationMeets g r' q') fault) (same-place g.monic k r0 r inside r_at e1) (same-place g.relations k q0 q c.requires.inside q_at e2) c.in_err-made.ensures.degree)

pub proof_at_graph-requires-clause-ground : goal.proof_at_graph-requires-clause-ground
proof_at_graph-requires-clause-ground c = let g = c.args.gens.now in record { s = g.told.system; found = g.group; is = c.requires.ground }

pub proof_at_graph-requires-clause-polynomial : goal.proof_at_graph-requires-clause-polynomial
proof_at_graph-requires-clause-polynomial c =
    let s = c.args.gens.now.told.system in
    let ground = c.args.ground.now in
    normal-over ground.ring.coeffs s.p ground.ring.vars (all_count s) c.in_ok-made.made.whole c.requires.ground.field c.requires.ground.vars c.in_ok-made.ensures.raised.whole.normal

pub returns-in_err-proof-clause-degree : goal.returns-in_err-proof-clause-degree
returns-in_err-proof-clause-degree c r q e1 e2 =
    let g = c.args.gens.now in
    let s = g.told.system in
    let k = c.args.k in
    let gens = subst IsGenerators c.gens.view_is c.gens.invariant in
    let r0 = c.index-relations-k.result in
    let q0 = c.index-ties-k.result in
    let monic : c.as_slice-relations.result.now ≡ g.monic = c.as_slice-relations.ensures.value ∙ c.monic.view_is ∙ ap (λ (x : Generated). x.monic) c.gens.view_is in
    let tied : c.as_slice-ties.result.now ≡ g.relations = c.as_slice-ties.ensures.value ∙ ap (λ (x : Generated). x.relations) c.gens.view_is in
    let r_at : r0 ≡ get_or g.monic k r0 = c.index-relations-k.is ∙ ap (λ xs. get_or xs k r0) monic in
    let q_at : q0 ≡ get_or g.relations k q0 = c.index-ties-k.is ∙ ap (λ xs. get_or xs k q0) tied in
    let many = all_zip-long (Ties s.p g.fractions) g.relations g.monic gens.relations in
    let inside : k < length g.monic = omega (arith, c.requires.inside, many) in
    let ties = zip-holds (Ties s.p g.fractions) g.relations g.monic k q0 r0 gens.relations c.requires.inside q_at r_at in
    let made = c.in_ok-made.made in
    let is = c.in_ok-made.ensures.raised in
    let member = whole-vanishes g r0 q0 made is gens c.requires.section k inside r_at ties in
    let fault = c.in_err-proof.field-0.0 in
    let w = err_from_is_err_and c.from_residual-in_err-proof.result c.from_residual-in_err-proof.ensures.1 in
    rw (w.1, w.2) (subst₂ (λ (r' : Relation) (q' : TiedRelation). DegreesMeet (RelationMeets g r' q') fault) (same-place g.monic k r0 r inside r_at e1) (same-place g.relations k q0 q c.requires.inside q_at e2)
    (graph-met g r0 q0 made is fault (c.in_err-proof.ensures s g.group c.requires.ground member)))

pub returns-clause-item : goal.returns-clause-item
returns-clause-item c r q e1 e2 =
    let g = c.args.gens.now in
    let s = g.told.system in
    let k = c.args.k in
    let gens = subst IsGenerators c.gens.view_is c.gens.invariant in
    let r0 = c.index-relations-k.result in
    let q0 = c.index-ties-k.result in
    let monic : c.as_slice-relations.result.now ≡ g.monic = c.as_slice-relations.ensures.value ∙ c.monic.view_is ∙ ap (λ (x : Generated). x.monic) c.gens.view_is in
    let tied : c.as_slice-ties.result.now ≡ g.relations = c.as_slice-ties.ensures.value ∙ ap (λ (x : Generated). x.relations) c.gens.view_is in
    let r_at : r0 ≡ get_or g.monic k r0 = c.index-relations-k.is ∙ ap (λ xs. get_or xs k r0) monic in
    let q_at : q0 ≡ get_or g.relations k q0 = c.index-ties-k.is ∙ ap (λ xs. get_or xs k q0) tied in
    let many = all_zip-long (Ties s.p g.fractions) g.relations g.monic gens.relations in
    let inside : k < length g.monic = omega (arith, c.requires.inside, many) in
    let ties = zip-holds (Ties s.p g.fractions) g.relations g.monic k q0 r0 gens.relations c.requires.inside q_at r_at in
    let made = c.in_ok-made.made in
    let is = c.in_ok-made.ensures.raised in
    let member = whole-vanishes g r0 q0 made is gens c.requires.section k inside r_at ties in
    let proved = c.in_ok-proof.ensures s g.group c.requires.ground member in
    let lead = ap (λ (y : Relation). y.lead) c.relation.view_is in
    let item = item-of g r0 q0 made is c.in_ok-proof.proof.items proved c.new-a.result c.in_ok-denominator.denominator c.new-items.result c.in_ok-cofactors.cofactors (c.new-a.ensures ∙ c.in_ok-exponents.ensures ∙ lead) c.in_ok-denominator.ensures c.new-items.ensures (c.in_ok-cofactors.ensures ∙ c.deref.ensures.value) in
    subst₂ (λ (r' : Relation) (q' : TiedRelation). IsRelationItemOf s g.group r' q' (relation_item_by (λ f. f) (c.new-a.result, c.in_ok-denominator.denominator, c.new-items.result, c.in_ok-cofactors.cofactors)))
    (same-place g.monic k r0 r inside r_at e1) (same-place g.relations k q0 q c.requires.inside q_at e2) item

pub returns-clause-fits : goal.returns-clause-fits
returns-clause-fits c whole common =
    let g = c.args.gens.now in
    let s = g.told.system in
    let k = c.args.k in
    let gens = subst IsGenerators c.gens.view_is c.gens.invariant in
    let r0 = c.index-relations-k.result in
    let q0 = c.index-ties-k.result in
    let monic : c.as_slice-relations.result.now ≡ g.monic = c.as_slice-relations.ensures.value ∙ c.monic.view_is ∙ ap (λ (x : Generated). x.monic) c.gens.view_is in
    let tied : c.as_slice-ties.result.now ≡ g.relations = c.as_slice-ties.ensures.value ∙ ap (λ (x : Generated). x.relations) c.gens.view_is in
    let r_at : r0 ≡ get_or g.monic k r0 = c.index-relations-k.is ∙ ap (λ xs. get_or xs k r0) monic in
    let q_at : q0 ≡ get_or g.relations k q0 = c.index-ties-k.is ∙ ap (λ xs. get_or xs k q0) tied in
    let many = all_zip-long (Ties s.p g.fractions) g.relations g.monic gens.relations in
    let inside : k < length g.monic = omega (arith, c.requires.inside, many) in
    let ties = zip-holds (Ties s.p g.fractions) g.relations g.monic k q0 r0 gens.relations c.requires.inside q_at r_at in
    let made = c.in_ok-made.made in
    let is = c.in_ok-made.ensures.raised in
    let member = whole-vanishes g r0 q0 made is gens c.requires.section k inside r_at ties in
    let proved = c.in_ok-proof.ensures s g.group c.requires.ground member in
    let lead = ap (λ (y : Relation). y.lead) c.relation.view_is in
    item-fits g r0 q0 made is c.in_ok-proof.proof.items proved c.new-a.result c.in_ok-denominator.denominator c.new-items.result c.in_ok-cofactors.cofactors (c.new-a.ensures ∙ c.in_ok-exponents.ensures ∙ lead) c.in_ok-denominator.ensures c.new-items.ensures (c.in_ok-cofactors.ensures ∙ c.deref.ensures.value)
    whole common (c.in_ok-made.ensures.fits whole common)
