use Rattle.std.proofs.Common.{◌≡◌, ◌<◌, ◌∙◌, ℕ, List, sym, ap, subst, arith, map, All, length}
use Rattle.std.proofs.lemmas.List.{take_all}
use Rattle.rinv_algebra.specs.Leading.{leading_monomial}
use Rattle.rinv_buch.specs.Reducing.{is_kept_place}
use Rattle.rinv_buch.proofs.KeptPlaces.{element_at, place-kept, place-past, places-end, kept-at_places, kept_places-inside}
use Rattle.rinv_buch.proofs.reducing.kept_places.Goals as goal
use Rattle.rinv_buch.proofs.reducing.kept_places.Goals.{then-is_kept+in_ok-push-2, else-is_kept}

pub is_kept-requires-clause-vars : goal.is_kept-requires-clause-vars
is_kept-requires-clause-vars g c = (c.args.ring.now.vars, rw c.deref.ensures.value c.loop-h.invariant.vars)

pub elements-preserved : goal.elements-preserved
elements-preserved g c =
    let lead = leading_monomial (g.F.Ring.ops c.args.ring.now.coeffs) (g.O.MonoOrder.cmp c.args.order.now) in
    let hs = c.args.polys.now in
    let k = c.elements.place in
    let leads : c.deref.result.now ≡ map lead hs = c.deref.ensures.value ∙ c.loop-h.invariant.leads ∙ ap (map lead) (take_all c.loop-h.h-index hs c.loop-h-test.false) in
    let test : is_kept_place (map lead hs) k ≡ c.is_kept.result = ap (λ (ms : List (List ℕ)). is_kept_place ms k) (sym leads) ∙ sym c.is_kept.ensures in
    elim c.if-is_kept.branch [
      | then-is_kept+in_ok-push-2 w ↦ rw (w.places-is, w.in_ok-push-2.ensures.items) (place-kept (is_kept_place (map lead hs)) k c.elements.places.items c.elements.invariant (test ∙ w.if-is_kept.true))
      | else-is_kept w ↦ rw w.places-is (place-past (is_kept_place (map lead hs)) k c.elements.places.items c.elements.invariant (test ∙ w.if-is_kept.false))
    ]

pub returns-clause-places : goal.returns-clause-places
returns-clause-places g c =
    places-end (g.F.Ring.ops c.args.ring.now.coeffs) (g.O.MonoOrder.cmp c.args.order.now) c.args.polys.now c.elements.places.items c.elements.place (omega (arith, c.elements-test.false, c.elements.auto.place-end)) c.elements.invariant

pub returns-clause-inside : goal.returns-clause-inside
returns-clause-inside g c =
    let o = g.F.Ring.ops c.args.ring.now.coeffs in
    let cmp = g.O.MonoOrder.cmp c.args.order.now in
    let hs = c.args.polys.now in
    subst (All (λ k. k < length hs)) (sym (places-end o cmp hs c.elements.places.items c.elements.place (omega (arith, c.elements-test.false, c.elements.auto.place-end)) c.elements.invariant)) (kept_places-inside o cmp hs)

pub returns-clause-kept : goal.returns-clause-kept
returns-clause-kept g c =
    let o = g.F.Ring.ops c.args.ring.now.coeffs in
    let cmp = g.O.MonoOrder.cmp c.args.order.now in
    let hs = c.args.polys.now in
    ap (map (element_at hs)) (places-end o cmp hs c.elements.places.items c.elements.place (omega (arith, c.elements-test.false, c.elements.auto.place-end)) c.elements.invariant) ∙ kept-at_places o cmp hs
