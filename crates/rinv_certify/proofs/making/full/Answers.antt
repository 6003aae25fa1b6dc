use Rattle.std.proofs.Common.{◌≡◌, ℕ, map, ap, subst, subst₂}
use Rattle.std.proofs.lemmas.Result.{err_from_is_err_and}
use Rattle.rinv_ring.specs.Fault.{DegreesMeet}
use Rattle.rinv_text.specs.Told.{Told}
use Rattle.rinv_buch.specs.Kinds.{Found}
use Rattle.rinv_cert.specs.Seen.{pair_item_by}
use Rattle.rinv_laws.specs.Proofs.{BasisMeets}
use Rattle.rinv_recording.specs.Recorded.{ArePairItemsOf, PairsFit, PairsMeet}
use Rattle.rinv_at_graph.specs.Grounds.{IsGround}
use Rattle.rinv_generators.specs.Generated.{Generated, IsGenerators}
use Rattle.rinv_certify.specs.Meets.{CertificateMeets, ElementsMeet, RelationsMeet}
use Rattle.rinv_certify.proofs.Certified.{full-accepted, full-made}
use Rattle.rinv_certify.proofs.Stops.{stop-meets}
use Rattle.rinv_certify.proofs.making.full.Goals as goal

pub basis_items-requires-clause-ground : goal.basis_items-requires-clause-ground
basis_items-requires-clause-ground c =
    let g = c.args.gens.now in
    let told : c.gens.inside.system ≡ g.told = ap (λ (x : Generated). x.told) c.gens.view_is in
    let group : c.gens.inside.group.basis ≡ g.group = ap (λ (x : Generated). x.group) c.gens.view_is in
    subst₂ (λ (t : Told) (f : Found ℕ). IsGround t.system f c.in_ok-ground.ground) told group c.in_ok-ground.ensures.ground

pub relation_items-requires-clause-ground : goal.relation_items-requires-clause-ground
relation_items-requires-clause-ground c =
    let g = c.args.gens.now in
    let told : c.gens.inside.system ≡ g.told = ap (λ (x : Generated). x.told) c.gens.view_is in
    let group : c.gens.inside.group.basis ≡ g.group = ap (λ (x : Generated). x.group) c.gens.view_is in
    subst₂ (λ (t : Told) (f : Found ℕ). IsGround t.system f c.in_ok-ground.ground) told group c.in_ok-ground.ensures.ground

pub returns-in_err-ground-clause-degree : goal.returns-in_err-ground-clause-degree
returns-in_err-ground-clause-degree c =
    let g = c.args.gens.now in
    let told : c.gens.inside.system ≡ g.told = ap (λ (x : Generated). x.told) c.gens.view_is in
    let group : c.gens.inside.group.basis ≡ g.group = ap (λ (x : Generated). x.group) c.gens.view_is in
    let fault = c.in_err-ground.field-0.0 in
    let w = err_from_is_err_and c.from_residual.result c.from_residual.ensures.1 in
    rw (w.1, w.2) (stop-meets (BasisMeets g.told.system g.group) (CertificateMeets g) (λ x y m. CertificateMeets.in_group c.requires.section m) fault (subst₂ (λ (t : Told) (f : Found ℕ). DegreesMeet (BasisMeets t.system f) fault) told group c.in_err-ground.ensures.degree))

pub returns-in_err-basis-clause-degree : goal.returns-in_err-basis-clause-degree
returns-in_err-basis-clause-degree c =
    let g = c.args.gens.now in
    let w = err_from_is_err_and c.from_residual-in_err-basis.result c.from_residual-in_err-basis.ensures.1 in
    rw (w.1, w.2) (stop-meets (ElementsMeet g) (CertificateMeets g) (λ x y m. CertificateMeets.in_elements c.requires.section m) c.in_err-basis.field-0.0 c.in_err-basis.ensures.degree)

pub returns-in_err-pairs-clause-degree : goal.returns-in_err-pairs-clause-degree
returns-in_err-pairs-clause-degree c =
    let g = c.args.gens.now in
    let told : c.gens.inside.system ≡ g.told = ap (λ (x : Generated). x.told) c.gens.view_is in
    let action : c.gens.inside.action ≡ g.action = ap (λ (x : Generated). x.action) c.gens.view_is in
    let fault = c.in_err-pairs.field-0.0 in
    let w = err_from_is_err_and c.from_residual-in_err-pairs.result c.from_residual-in_err-pairs.ensures.1 in
    rw (w.1, w.2) (stop-meets (PairsMeet g.told.system g.action) (CertificateMeets g) (λ x y m. CertificateMeets.in_pairs c.requires.section m) fault (subst₂ (λ (t : Told) (f : Found ℕ). DegreesMeet (PairsMeet t.system f) fault) told action c.in_err-pairs.ensures.degree))

pub returns-in_err-relations-clause-degree : goal.returns-in_err-relations-clause-degree
returns-in_err-relations-clause-degree c =
    let g = c.args.gens.now in
    let w = err_from_is_err_and c.from_residual-in_err-relations.result c.from_residual-in_err-relations.ensures.1 in
    rw (w.1, w.2) (stop-meets (RelationsMeet g) (CertificateMeets g) (λ x y m. CertificateMeets.in_relations c.requires.section m) c.in_err-relations.field-0.0 c.in_err-relations.ensures.degree)

pub returns-clause-made : goal.returns-clause-made
returns-clause-made c =
    let g = c.args.gens.now in
    let told : c.gens.inside.system ≡ g.told = ap (λ (x : Generated). x.told) c.gens.view_is in
    let action : c.gens.inside.action ≡ g.action = ap (λ (x : Generated). x.action) c.gens.view_is in
    let pairs = subst₂ (λ (t : Told) (f : Found ℕ). ArePairItemsOf t.system f (map (pair_item_by (λ f. f)) c.in_ok-pairs.pairs)) told action c.in_ok-pairs.ensures.items in
    full-made g c.args.common c.requires.common c.requires.section c.in_ok-basis.basis c.in_ok-inputs.inputs c.in_ok-pairs.pairs c.in_ok-relations.relations c.in_ok-basis.ensures.items c.in_ok-inputs.ensures pairs c.in_ok-relations.ensures.items

pub returns-clause-accepted : goal.returns-clause-accepted
returns-clause-accepted c =
    let g = c.args.gens.now in
    let told : c.gens.inside.system ≡ g.told = ap (λ (x : Generated). x.told) c.gens.view_is in
    let action : c.gens.inside.action ≡ g.action = ap (λ (x : Generated). x.action) c.gens.view_is in
    let pairs = subst₂ (λ (t : Told) (f : Found ℕ). ArePairItemsOf t.system f (map (pair_item_by (λ f. f)) c.in_ok-pairs.pairs)) told action c.in_ok-pairs.ensures.items in
    let fits = subst₂ (λ (t : Told) (f : Found ℕ). PairsFit t.system f.polys (map (pair_item_by (λ f. f)) c.in_ok-pairs.pairs)) told action c.in_ok-pairs.ensures.fits in
    full-accepted g c.args.common c.requires.common c.requires.section c.in_ok-basis.basis c.in_ok-inputs.inputs c.in_ok-pairs.pairs c.in_ok-relations.relations c.in_ok-basis.ensures.items c.in_ok-inputs.ensures pairs c.in_ok-relations.ensures.items
    (subst IsGenerators c.gens.view_is c.gens.invariant) c.requires.laws c.requires.changes c.in_ok-basis.ensures.fits fits c.in_ok-relations.ensures.fits
