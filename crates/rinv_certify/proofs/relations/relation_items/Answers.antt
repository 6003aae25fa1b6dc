use Rattle.std.proofs.Common.{◌≡◌, ◌<◌, [], length, get_or, zip, refl, sym, ap, subst, arith}
use Rattle.std.specs.List.{AllZip}
use Rattle.std.proofs.lemmas.List.{get_or_default, take_all}
use Rattle.std.proofs.lemmas.Result.{err_from_is_err_and}
use Rattle.rinv_poly.proofs.Meets.{meet-weaker}
use Rattle.rinv_tails.specs.Stored.{none}
use Rattle.rinv_cert.specs.Seen.{relation_item_by}
use Rattle.rinv_coefficients.specs.Ties.{TiedRelation, Ties}
use Rattle.rinv_acceptance.specs.Fits.{relation_multiplies}
use Rattle.rinv_generators.specs.Generated.{Generated, IsGenerators}
use Rattle.rinv_certification.specs.Made.{IsRelationItemOf}
use Rattle.rinv_certify.specs.Meets.{RelationMeets, RelationsMeet}
use Rattle.rinv_certify.specs.Parts.{relations_seen}
use Rattle.rinv_certify.proofs.Taken.{tests-more, zipped-more}
use Rattle.rinv_certify.proofs.WholeParts.{all_zip-long, zip-at, zip-long}
use Rattle.rinv_certify.proofs.relations.relation_items.Goals as goal

abbrev untied : TiedRelation
untied = record { lead = []; tail = [] }

pub relations-init : goal.relations-init
relations-init c = rw c.in_ok-items.ensures.items (record { items = tt; fits = λ whole common. refl })

pub relation_item-requires-clause-inside : goal.relation_item-requires-clause-inside
relation_item-requires-clause-inside c = let count = ap (λ (x : Generated). length x.relations) c.gens.view_is in omega (arith, c.relations-test.true, c.len-count.ensures, count)

pub returns-in_err-item-clause-degree : goal.returns-in_err-item-clause-degree
returns-in_err-item-clause-degree c =
    let g = c.args.gens.now in
    let s = g.told.system in
    let k = c.relations.k in
    let gens = subst IsGenerators c.gens.view_is c.gens.invariant in
    let count = ap (λ (x : Generated). length x.relations) c.gens.view_is in
    let many = all_zip-long (Ties s.p g.fractions) g.relations g.monic gens.relations in
    let low : k < length g.relations = omega (arith, c.relations-test.true, c.len-count.ensures, count) in
    let high : k < length g.monic = omega (arith, low, many) in
    let r = get_or g.monic k none in
    let q = get_or g.relations k untied in
    let r_at : get_or g.monic k none ≡ get_or g.monic k (get_or g.monic k none) = get_or_default g.monic k none (get_or g.monic k none) high in
    let q_at : get_or g.relations k untied ≡ get_or g.relations k (get_or g.relations k untied) = get_or_default g.relations k untied (get_or g.relations k untied) low in
    let pairs = zip-long g.monic g.relations (sym many) in
    let z_at = zip-at g.monic g.relations k (get_or g.monic k none) (get_or g.relations k untied) high low r_at q_at in
    let w = err_from_is_err_and c.from_residual-in_err-item.result c.from_residual-in_err-item.ensures.1 in
    rw (w.1, w.2) (meet-weaker (RelationMeets g r q) (RelationsMeet g) (λ x y m. (r, q, (k, omega (arith, high, pairs), sym z_at), m)) c.in_err-item.field-0.0 (c.in_err-item.ensures.degree r q r_at q_at))

pub relations-preserved : goal.relations-preserved
relations-preserved c =
    let g = c.args.gens.now in
    let s = g.told.system in
    let k = c.relations.k in
    let gens = subst IsGenerators c.gens.view_is c.gens.invariant in
    let count = ap (λ (x : Generated). length x.relations) c.gens.view_is in
    let many = all_zip-long (Ties s.p g.fractions) g.relations g.monic gens.relations in
    let low : k < length g.relations = omega (arith, c.relations-test.true, c.len-count.ensures, count) in
    let high : k < length g.monic = omega (arith, low, many) in
    let r = get_or g.monic k none in
    let q = get_or g.relations k untied in
    let r_at : get_or g.monic k none ≡ get_or g.monic k (get_or g.monic k none) = get_or_default g.monic k none (get_or g.monic k none) high in
    let q_at : get_or g.relations k untied ≡ get_or g.relations k (get_or g.relations k untied) = get_or_default g.relations k untied (get_or g.relations k untied) low in
    let pairs = zip-long g.monic g.relations (sym many) in
    let z_at = zip-at g.monic g.relations k (get_or g.monic k none) (get_or g.relations k untied) high low r_at q_at in
    let inv = c.relations.invariant in
    rw c.in_ok-push.ensures.items (record {
      items = zipped-more (λ x item. IsRelationItemOf s g.group x.0 x.1 item) (relation_item_by (λ f. f)) (zip g.monic g.relations) k (r, q) c.relations.items.items c.in_ok-item.item (omega (arith, high, pairs)) z_at inv.items (c.in_ok-item.ensures.item r q r_at q_at);
      fits = λ whole common. tests-more (relation_multiplies whole) (relation_item_by (λ f. f)) c.relations.items.items c.in_ok-item.item (inv.fits whole common) (c.in_ok-item.ensures.fits whole common);
    })

pub returns-clause-items : goal.returns-clause-items
returns-clause-items c =
    let g = c.args.gens.now in
    let s = g.told.system in
    let gens = subst IsGenerators c.gens.view_is c.gens.invariant in
    let count = ap (λ (x : Generated). length x.relations) c.gens.view_is in
    let many = all_zip-long (Ties s.p g.fractions) g.relations g.monic gens.relations in
    let pairs = zip-long g.monic g.relations (sym many) in
    rw c.new.ensures (subst (λ zs. AllZip (λ x item. IsRelationItemOf s g.group x.0 x.1 item) zs (relations_seen c.relations.items.items)) (take_all c.relations.k (zip g.monic g.relations) (omega (arith, c.relations-test.false, c.len-count.ensures, count, many, pairs))) c.relations.invariant.items)

pub returns-clause-fits : goal.returns-clause-fits
returns-clause-fits c = rw c.new.ensures c.relations.invariant.fits
