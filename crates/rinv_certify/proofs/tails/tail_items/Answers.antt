use Rattle.std.proofs.Common.{◌≡◌, ◌∙◌, ℕ, List, [], length, get_or, map, zip, ap, subst, arith, refl, nat_lt}
use Rattle.std.specs.Prelude.{◌&&◌, ◌∷◌}
use Rattle.std.specs.List.{AllZip}
use Rattle.std.proofs.lemmas.List.{length-map, take_all}
use Rattle.std.proofs.lemmas.List.Elements.{All-nil, All-push}
use Rattle.std.proofs.lemmas.Result.{err_from_is_err_and}
use Rattle.rinv_algebra.specs.Residue.{residue_ops}
use Rattle.rinv_algebra.specs.Normal.{IsNormal}
use Rattle.rinv_algebra.specs.Fits.{product_fits}
use Rattle.rinv_algebra.proofs.PolynomialLaws.{poly_laws}
use Rattle.rinv_algebra.proofs.ResidueLaws.{residue_laws}
use Rattle.rinv_reduction.specs.Localised.{all_count}
use Rattle.rinv_defs.specs.System.{space_count}
use Rattle.rinv_defs.specs.Certificate.{Tied}
use Rattle.rinv_defs.specs.Extended.{Relation}
use Rattle.rinv_defs.specs.RelationConditions.{z_power, behind_z}
use Rattle.rinv_cert.specs.Seen.{tail_item_by}
use Rattle.rinv_coefficients.specs.Ties.{TiedRelation}
use Rattle.rinv_acceptance.specs.Fits.{tie_multiplies}
use Rattle.rinv_acceptance.specs.Raised.{IsTailItemOf}
use Rattle.rinv_gens.specs.Symbols.{tied_of as symbol_of}
use Rattle.rinv_certify.proofs.TailParts.{normal-more, sum-more}
use Rattle.rinv_certify.proofs.TailPlaces.{at-place, pairs-count, place-met, ties-count}
use Rattle.rinv_certify.proofs.Taken.{tests-more, zipped-more}
use Rattle.rinv_certify.proofs.tails.tail_items.Goals as goal

pub tail-init : goal.tail-init
tail-init c =
    let s = c.args.gens.now.told.system in
    rw (c.in_ok-items.ensures.items, c.in_ok-terms.ensures.items) (record {
      items = tt;
      normal = All-nil (IsNormal (residue_ops s.p) (λ n. nat_lt n s.p) (space_count s));
      terms = All-nil (IsNormal (residue_ops s.p) (λ n. nat_lt n s.p) (all_count s));
      sum = (poly_laws (residue_ops s.p) (residue_laws s.p)).same_refl [];
      fits = λ whole common. refl;
    })

pub bounds-ties-k : goal.bounds-ties-k
bounds-ties-k c =
    let q = c.args.symbols.now in
    let tail = ap (λ (y : Relation). length y.tail) c.relation.view_is in
    let ties = ap (λ (y : TiedRelation). length y.tail) c.symbols.view_is in
    let slice = ap (λ ts. length ts) c.as_slice-tail.ensures.value in
    let other = ap (λ ts. length ts) c.as_slice-ties.ensures.value in
    let long = length-map {B = List ℕ × Tied} c.symbols.inside.tail.items (λ t. (t.0, symbol_of t.1)) in
    let many = ties-count c.args.gens.now c.args.relation.now q c.requires.ties in
    omega (arith, tail, ties, slice, other, long, many, c.tail-test.true)

pub tail_item-requires-clause-exponents : goal.tail_item-requires-clause-exponents
tail_item-requires-clause-exponents c =
    let g = c.args.gens.now in
    let r = c.args.relation.now in
    let q = c.args.symbols.now in
    let x = c.index-tail-k.result in
    let e = c.index-ties-k.result in
    let tail : c.as_slice-tail.result.now ≡ r.tail = c.as_slice-tail.ensures.value ∙ ap (λ (y : Relation). y.tail) c.relation.view_is in
    let seen : map (λ t. (t.0, symbol_of t.1)) c.as_slice-ties.result.now ≡ q.tail = ap (map (λ t. (t.0, symbol_of t.1))) c.as_slice-ties.ensures.value ∙ ap (λ (y : TiedRelation). y.tail) c.symbols.view_is in
    let many : length c.as_slice-tail.result.now ≡ length r.tail = ap (λ ts. length ts) tail in
    let p = at-place g r q c.requires.relation c.requires.ties c.tail.k x c.as_slice-ties.result.now e seen (omega (arith, c.tail-test.true, many)) (c.index-tail-k.is ∙ ap (λ ts. get_or ts c.tail.k x) tail) c.index-ties-k.is in
    p.term.vars

pub tail_item-requires-clause-coefficient : goal.tail_item-requires-clause-coefficient
tail_item-requires-clause-coefficient c =
    let g = c.args.gens.now in
    let r = c.args.relation.now in
    let q = c.args.symbols.now in
    let x = c.index-tail-k.result in
    let e = c.index-ties-k.result in
    let tail : c.as_slice-tail.result.now ≡ r.tail = c.as_slice-tail.ensures.value ∙ ap (λ (y : Relation). y.tail) c.relation.view_is in
    let seen : map (λ t. (t.0, symbol_of t.1)) c.as_slice-ties.result.now ≡ q.tail = ap (map (λ t. (t.0, symbol_of t.1))) c.as_slice-ties.ensures.value ∙ ap (λ (y : TiedRelation). y.tail) c.symbols.view_is in
    let many : length c.as_slice-tail.result.now ≡ length r.tail = ap (λ ts. length ts) tail in
    let p = at-place g r q c.requires.relation c.requires.ties c.tail.k x c.as_slice-ties.result.now e seen (omega (arith, c.tail-test.true, many)) (c.index-tail-k.is ∙ ap (λ ts. get_or ts c.tail.k x) tail) c.index-ties-k.is in
    p.term.fraction

pub tail_item-requires-clause-inside : goal.tail_item-requires-clause-inside
tail_item-requires-clause-inside c =
    let g = c.args.gens.now in
    let r = c.args.relation.now in
    let q = c.args.symbols.now in
    let x = c.index-tail-k.result in
    let e = c.index-ties-k.result in
    let tail : c.as_slice-tail.result.now ≡ r.tail = c.as_slice-tail.ensures.value ∙ ap (λ (y : Relation). y.tail) c.relation.view_is in
    let seen : map (λ t. (t.0, symbol_of t.1)) c.as_slice-ties.result.now ≡ q.tail = ap (map (λ t. (t.0, symbol_of t.1))) c.as_slice-ties.ensures.value ∙ ap (λ (y : TiedRelation). y.tail) c.symbols.view_is in
    let many : length c.as_slice-tail.result.now ≡ length r.tail = ap (λ ts. length ts) tail in
    let p = at-place g r q c.requires.relation c.requires.ties c.tail.k x c.as_slice-ties.result.now e seen (omega (arith, c.tail-test.true, many)) (c.index-tail-k.is ∙ ap (λ ts. get_or ts c.tail.k x) tail) c.index-ties-k.is in
    p.tie

pub tail-preserved : goal.tail-preserved
tail-preserved c =
    let g = c.args.gens.now in
    let s = g.told.system in
    let r = c.args.relation.now in
    let q = c.args.symbols.now in
    let x = c.index-tail-k.result in
    let e = c.index-ties-k.result in
    let tail : c.as_slice-tail.result.now ≡ r.tail = c.as_slice-tail.ensures.value ∙ ap (λ (y : Relation). y.tail) c.relation.view_is in
    let seen : map (λ t. (t.0, symbol_of t.1)) c.as_slice-ties.result.now ≡ q.tail = ap (map (λ t. (t.0, symbol_of t.1))) c.as_slice-ties.ensures.value ∙ ap (λ (y : TiedRelation). y.tail) c.symbols.view_is in
    let many : length c.as_slice-tail.result.now ≡ length r.tail = ap (λ ts. length ts) tail in
    let p = at-place g r q c.requires.relation c.requires.ties c.tail.k x c.as_slice-ties.result.now e seen (omega (arith, c.tail-test.true, many)) (c.index-tail-k.is ∙ ap (λ ts. get_or ts c.tail.k x) tail) c.index-ties-k.is in
    let made = c.in_ok-item.ensures in
    let inv = c.tail.invariant in
    rw (c.in_ok-push.ensures.items, c.in_ok-push-2.ensures.items) (record {
      items = zipped-more (λ y t. IsTailItemOf s c.args.factors.now y.0 y.1 t) (tail_item_by (λ f. f)) (zip r.tail (map (λ y. y.1) q.tail)) c.tail.k (x, symbol_of e.1) c.tail.items.items c.in_ok-item.item p.inside p.at inv.items made.item;
      normal = normal-more s.p (space_count s) c.tail.items.items c.in_ok-item.item inv.normal made.normal;
      terms = All-push (IsNormal (residue_ops s.p) (λ n. nat_lt n s.p) (all_count s)) c.tail.terms.items c.in_ok-item.value inv.terms made.term.normal;
      sum = sum-more s c.tail.items.items c.in_ok-item.item c.tail.terms.items c.in_ok-item.value made.term.value inv.sum;
      fits = λ whole common. tests-more (λ t. product_fits (residue_ops whole.system.p) (z_power whole.system t.alpha ∷ []) (behind_z whole.system t.c) && tie_multiplies whole c.args.d.now t.c t.tied) (tail_item_by (λ f. f)) c.tail.items.items c.in_ok-item.item
          (inv.fits whole common) (made.fits whole common);
    })

pub returns-in_err-item-clause-degree : goal.returns-in_err-item-clause-degree
returns-in_err-item-clause-degree c =
    let g = c.args.gens.now in
    let r = c.args.relation.now in
    let q = c.args.symbols.now in
    let x = c.index-tail-k.result in
    let e = c.index-ties-k.result in
    let tail : c.as_slice-tail.result.now ≡ r.tail = c.as_slice-tail.ensures.value ∙ ap (λ (y : Relation). y.tail) c.relation.view_is in
    let seen : map (λ t. (t.0, symbol_of t.1)) c.as_slice-ties.result.now ≡ q.tail = ap (map (λ t. (t.0, symbol_of t.1))) c.as_slice-ties.ensures.value ∙ ap (λ (y : TiedRelation). y.tail) c.symbols.view_is in
    let many : length c.as_slice-tail.result.now ≡ length r.tail = ap (λ ts. length ts) tail in
    let p = at-place g r q c.requires.relation c.requires.ties c.tail.k x c.as_slice-ties.result.now e seen (omega (arith, c.tail-test.true, many)) (c.index-tail-k.is ∙ ap (λ ts. get_or ts c.tail.k x) tail) c.index-ties-k.is in
    let fault = c.in_err-item.field-0.0 in
    let w = err_from_is_err_and c.from_residual-in_err-item.result c.from_residual-in_err-item.ensures.1 in
    rw (w.1, w.2) (place-met g c.args.factors.now c.args.d.now r q c.tail.k x (symbol_of e.1) fault p c.in_err-item.ensures.degree)

pub returns-clause-items : goal.returns-clause-items
returns-clause-items c =
    let g = c.args.gens.now in
    let s = g.told.system in
    let r = c.args.relation.now in
    let q = c.args.symbols.now in
    let many = ap (λ ts. length ts) (c.as_slice-tail.ensures.value ∙ ap (λ (y : Relation). y.tail) c.relation.view_is) in
    let pairs = pairs-count g r q c.requires.ties in
    subst (λ ys. AllZip (λ y t. IsTailItemOf s c.args.factors.now y.0 y.1 t) ys (map (tail_item_by (λ f. f)) c.tail.items.items)) (take_all c.tail.k (zip r.tail (map (λ y. y.1) q.tail)) (omega (arith, many, pairs, c.tail-test.false))) c.tail.invariant.items
