use Rattle.std.proofs.Common.{◌<◌, ◌≤◌, ◌∙◌, [], ap, arith, length, map}
use Rattle.std.proofs.lemmas.List.{get_or_read, take_all}
use Rattle.rinv_buch.proofs.KeptPlaces.{element_at, elements-more}
use Rattle.rinv_buch.proofs.reducing.kept_elements.Goals as goal

pub places-preserved : goal.places-preserved
places-preserved g c =
    let hs = c.args.polys.now in
    let places = c.in_ok-places.places.items in
    let k = c.places.k in
    let place = c.index.result.now in
    let low : k < length places = omega (arith, c.places-test.true, c.len-k-end.ensures) in
    let found : place < length hs = omega (arith, c.in_ok-places.ensures.inside k place low, c.index.ensures) in
    let at = c.in_ok-copy.ensures ∙ get_or_read hs place c.index-polys-index.result found c.index-polys-index.is [] in
    record {
      prepared = c.in_ok-push.ensures.prepared;
      so_far = elements-more hs places k place c.in_ok-copy.copy c.places.kept.polys.items _ low c.index.ensures at c.places.invariant.so_far c.in_ok-push.ensures.polys;
    }

pub returns-clause-kept : goal.returns-clause-kept
returns-clause-kept g c =
    let places = c.in_ok-places.places.items in
    let past : length places ≤ c.places.k = omega (arith, c.places-test.false, c.len-k-end.ensures) in
    c.places.invariant.so_far ∙ ap (map (element_at c.args.polys.now)) (take_all c.places.k places past) ∙ c.in_ok-places.ensures.kept
