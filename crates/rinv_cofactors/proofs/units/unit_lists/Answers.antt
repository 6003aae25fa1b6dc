use Rattle.std.proofs.Common.{◌≡◌, ◌∙◌, ℕ, List, [], ◌∷◌, sym, subst, length, map, All}
use Rattle.std.specs.List.{AllZip}
use Rattle.std.proofs.lemmas.List.{map-append}
use Rattle.std.proofs.lemmas.List.Elements.{All-push}
use Rattle.rinv_algebra.specs.Normal.{IsNormal}
use Rattle.rinv_groebner.specs.Division.{AreSame}
use Rattle.rinv_cofactors.specs.Combining.{unit}
use Rattle.rinv_buch.proofs.PairDivision.{element-at}
use Rattle.rinv_cofactors.proofs.Cofactors.{units-more, units-same}
use Rattle.rinv_cofactors.proofs.units.unit_lists.Goals as goal
use Rattle.rinv_cofactors.proofs.units.unit_lists.Goals.{then-not-is_zero+in_ok-list+in_ok-push, else-not-is_zero}

pub places-preserved : goal.places-preserved
places-preserved g c =
    let o = g.F.Ring.ops c.args.ring.now.coeffs in
    let fs = c.args.given.now in
    let n = length c.args.given.now in
    let k = c.places.place in
    let f = c.index-given-place.result in
    let at = element-at fs k f c.places-test.true c.index-given-place.is in
    let lists = map (λ us. us.items) c.places.lists.items in
    let normal = IsNormal o (g.F.Ring.is_element c.args.ring.now.coeffs) c.args.ring.now.vars in
    elim c.if-not-is_zero.branch [
      | then-not-is_zero+in_ok-list+in_ok-push w ↦ rw (w.lists-is, w.in_ok-push.ensures.items) (record {
        lengths = All-push (λ us. length us.items ≡ n) c.places.lists.items w.in_ok-list.list c.places.invariant.lengths w.in_ok-list.ensures.length;
        normal = All-push (λ us. All normal us.items) c.places.lists.items w.in_ok-list.list c.places.invariant.normal w.in_ok-list.ensures.normal;
        units = units-more o fs k f at n w.in_ok-list.list.items lists _ (sym c.is_zero.ensures ∙ w.if-not-is_zero.true) (map-append (λ us. us.items) c.places.lists.items (w.in_ok-list.list ∷ [])) w.in_ok-list.ensures.unit c.places.invariant.units;
      })
      | else-not-is_zero w ↦ rw w.lists-is (record {
        lengths = c.places.invariant.lengths;
        normal = c.places.invariant.normal;
        units = subst (λ (ks : List ℕ). AllZip (AreSame o) lists (map (unit o n) ks)) (sym (units-same o fs k f at (sym c.is_zero.ensures ∙ w.if-not-is_zero.false))) c.places.invariant.units;
      })
    ]
