use Rattle.std.proofs.Common.{rules, ◌≡◌, ◌<◌, ◌+◌, ◌∙◌, ◌∷◌, [], sym, ap, subst, subst₂, arith, length, map, get_or, inl, inr}
use Rattle.std.proofs.lemmas.Result.{err_from_is_err_and}
use Rattle.std.proofs.lemmas.List.{length_push}
use Rattle.std.proofs.lemmas.List.Elements.{All-push}
use Rattle.rinv_algebra.specs.Ring.{IsSame}
use Rattle.rinv_algebra.specs.Polynomial.{Polynomial, poly_ops}
use Rattle.rinv_algebra.specs.Normal.{IsNormal}
use Rattle.rinv_algebra.specs.Leading.{multiplier, s_polynomial}
use Rattle.rinv_ring.specs.Fault.{DegreesMeet}
use Rattle.rinv_poly.specs.Combined.{TermMeets}
use Rattle.rinv_poly.proofs.Meets.{meet-weaker}
use Rattle.rinv_div.specs.Stops.{StepsMeet}
use Rattle.rinv_buch.specs.Causes.{SPolynomialMeets}
use Rattle.rinv_cofactors.specs.Combining.{CombinedMeets, RestMeets, column, combined}
use Rattle.rinv_cofactors.specs.Combining.RestMeets.{in_s_polynomial}
use Rattle.rinv_buch.proofs.PairDivision.{element-at, nonzero-at}
use Rattle.rinv_cofactors.proofs.Cofactors.{cofactor-at, cofactor-has, lengths-inside, quotients-number, each-more, division-meets, combined-value, combined-meets, are-quotients, are-cofactors}
use Rattle.rinv_cofactors.proofs.combining.rest_cofactors.Goals as goal

pub multiplier_of-requires-clause-first_nonzero : goal.multiplier_of-requires-clause-first_nonzero
multiplier_of-requires-clause-first_nonzero g c = nonzero-at (g.F.Ring.ops c.args.ring.now.coeffs) (g.O.MonoOrder.cmp c.args.order.now) (g.F.Ring.is_element c.args.ring.now.coeffs) c.args.ring.now.vars c.args.polys.now c.args.divisors.now.list.items c.requires.divisors c.args.entry.now.first c.index-polys-first.result (omega (arith, c.requires.ascending, c.requires.inside)) c.index-polys-first.is

pub multiplier_of-requires-clause-second_nonzero : goal.multiplier_of-requires-clause-second_nonzero
multiplier_of-requires-clause-second_nonzero g c = nonzero-at (g.F.Ring.ops c.args.ring.now.coeffs) (g.O.MonoOrder.cmp c.args.order.now) (g.F.Ring.is_element c.args.ring.now.coeffs) c.args.ring.now.vars c.args.polys.now c.args.divisors.now.list.items c.requires.divisors c.args.entry.now.second c.index-polys-second.result c.requires.inside c.index-polys-second.is

pub multiplier_of-requires-2-clause-first_nonzero : goal.multiplier_of-requires-2-clause-first_nonzero
multiplier_of-requires-2-clause-first_nonzero g c = nonzero-at (g.F.Ring.ops c.args.ring.now.coeffs) (g.O.MonoOrder.cmp c.args.order.now) (g.F.Ring.is_element c.args.ring.now.coeffs) c.args.ring.now.vars c.args.polys.now c.args.divisors.now.list.items c.requires.divisors c.args.entry.now.second c.index-polys-second.result c.requires.inside c.index-polys-second.is

pub multiplier_of-requires-2-clause-second_nonzero : goal.multiplier_of-requires-2-clause-second_nonzero
multiplier_of-requires-2-clause-second_nonzero g c = nonzero-at (g.F.Ring.ops c.args.ring.now.coeffs) (g.O.MonoOrder.cmp c.args.order.now) (g.F.Ring.is_element c.args.ring.now.coeffs) c.args.ring.now.vars c.args.polys.now c.args.divisors.now.list.items c.requires.divisors c.args.entry.now.first c.index-polys-first.result (omega (arith, c.requires.ascending, c.requires.inside)) c.index-polys-first.is

pub s_polynomial_of-requires-clause-first_nonzero : goal.s_polynomial_of-requires-clause-first_nonzero
s_polynomial_of-requires-clause-first_nonzero g c = nonzero-at (g.F.Ring.ops c.args.ring.now.coeffs) (g.O.MonoOrder.cmp c.args.order.now) (g.F.Ring.is_element c.args.ring.now.coeffs) c.args.ring.now.vars c.args.polys.now c.args.divisors.now.list.items c.requires.divisors c.args.entry.now.first c.index-polys-first.result (omega (arith, c.requires.ascending, c.requires.inside)) c.index-polys-first.is

pub s_polynomial_of-requires-clause-second_nonzero : goal.s_polynomial_of-requires-clause-second_nonzero
s_polynomial_of-requires-clause-second_nonzero g c = nonzero-at (g.F.Ring.ops c.args.ring.now.coeffs) (g.O.MonoOrder.cmp c.args.order.now) (g.F.Ring.is_element c.args.ring.now.coeffs) c.args.ring.now.vars c.args.polys.now c.args.divisors.now.list.items c.requires.divisors c.args.entry.now.second c.index-polys-second.result c.requires.inside c.index-polys-second.is

pub returns-in_err-left-clause-degree : goal.returns-in_err-left-clause-degree
returns-in_err-left-clause-degree g c =
    let o = g.F.Ring.ops c.args.ring.now.coeffs in
    let l = g.F.Ring.laws c.args.ring.now.coeffs in
    let e = g.F.Ring.is_element c.args.ring.now.coeffs in
    let high = g.F.Ring.too_high c.args.ring.now.coeffs in
    let v = c.args.ring.now.vars in
    let cmp = g.O.MonoOrder.cmp c.args.order.now in
    let hs = c.args.polys.now in
    let lists = map (λ us. us.items) c.args.lists.now in
    let i = c.args.entry.now.first in
    let j = c.args.entry.now.second in
    let low : i < length hs = omega (arith, c.requires.ascending, c.requires.inside) in
    let first = element-at hs i c.index-polys-first.result low c.index-polys-first.is in
    let second = element-at hs j c.index-polys-second.result c.requires.inside c.index-polys-second.is in
    let p = err_from_is_err_and c.from_residual.result c.from_residual.ensures.1 in
    let meets = subst₂ (λ (f h : Polynomial _). DegreesMeet (TermMeets o e high v (multiplier o cmp f h) f) c.in_err-left.field-0.0) first second c.in_err-left.ensures.degree in
    rw (p.1, p.2) (meet-weaker (TermMeets o e high v (multiplier o cmp (get_or hs i []) (get_or hs j [])) (get_or hs i [])) (RestMeets o e high v cmp hs lists i j) (λ x y h. in_s_polynomial (inl h)) c.in_err-left.field-0.0 meets)

pub returns-in_err-right-clause-degree : goal.returns-in_err-right-clause-degree
returns-in_err-right-clause-degree g c =
    let o = g.F.Ring.ops c.args.ring.now.coeffs in
    let l = g.F.Ring.laws c.args.ring.now.coeffs in
    let e = g.F.Ring.is_element c.args.ring.now.coeffs in
    let high = g.F.Ring.too_high c.args.ring.now.coeffs in
    let v = c.args.ring.now.vars in
    let cmp = g.O.MonoOrder.cmp c.args.order.now in
    let hs = c.args.polys.now in
    let lists = map (λ us. us.items) c.args.lists.now in
    let i = c.args.entry.now.first in
    let j = c.args.entry.now.second in
    let low : i < length hs = omega (arith, c.requires.ascending, c.requires.inside) in
    let first = element-at hs i c.index-polys-first.result low c.index-polys-first.is in
    let second = element-at hs j c.index-polys-second.result c.requires.inside c.index-polys-second.is in
    let p = err_from_is_err_and c.from_residual-in_err-right.result c.from_residual-in_err-right.ensures.1 in
    let meets = subst₂ (λ (f h : Polynomial _). DegreesMeet (TermMeets o e high v (multiplier o cmp h f) h) c.in_err-right.field-0.0) first second c.in_err-right.ensures.degree in
    rw (p.1, p.2) (meet-weaker (TermMeets o e high v (multiplier o cmp (get_or hs j []) (get_or hs i [])) (get_or hs j [])) (RestMeets o e high v cmp hs lists i j) (λ x y h. in_s_polynomial (inr (inl h))) c.in_err-right.field-0.0 meets)

pub returns-in_err-s-clause-degree : goal.returns-in_err-s-clause-degree
returns-in_err-s-clause-degree g c =
    let o = g.F.Ring.ops c.args.ring.now.coeffs in
    let l = g.F.Ring.laws c.args.ring.now.coeffs in
    let e = g.F.Ring.is_element c.args.ring.now.coeffs in
    let high = g.F.Ring.too_high c.args.ring.now.coeffs in
    let v = c.args.ring.now.vars in
    let cmp = g.O.MonoOrder.cmp c.args.order.now in
    let hs = c.args.polys.now in
    let lists = map (λ us. us.items) c.args.lists.now in
    let i = c.args.entry.now.first in
    let j = c.args.entry.now.second in
    let low : i < length hs = omega (arith, c.requires.ascending, c.requires.inside) in
    let first = element-at hs i c.index-polys-first.result low c.index-polys-first.is in
    let second = element-at hs j c.index-polys-second.result c.requires.inside c.index-polys-second.is in
    let p = err_from_is_err_and c.from_residual-in_err-s.result c.from_residual-in_err-s.ensures.1 in
    let meets = subst₂ (λ (f h : Polynomial _). DegreesMeet (SPolynomialMeets o e high v cmp f h) c.in_err-s.field-0.0) first second c.in_err-s.ensures.degree in
    rw (p.1, p.2) (meet-weaker (SPolynomialMeets o e high v cmp (get_or hs i []) (get_or hs j [])) (RestMeets o e high v cmp hs lists i j) (λ x y h. in_s_polynomial h) c.in_err-s.field-0.0 meets)

pub returns-in_err-division-clause-degree : goal.returns-in_err-division-clause-degree
returns-in_err-division-clause-degree g c =
    let o = g.F.Ring.ops c.args.ring.now.coeffs in
    let l = g.F.Ring.laws c.args.ring.now.coeffs in
    let e = g.F.Ring.is_element c.args.ring.now.coeffs in
    let high = g.F.Ring.too_high c.args.ring.now.coeffs in
    let v = c.args.ring.now.vars in
    let cmp = g.O.MonoOrder.cmp c.args.order.now in
    let hs = c.args.polys.now in
    let lists = map (λ us. us.items) c.args.lists.now in
    let i = c.args.entry.now.first in
    let j = c.args.entry.now.second in
    let low : i < length hs = omega (arith, c.requires.ascending, c.requires.inside) in
    let first = element-at hs i c.index-polys-first.result low c.index-polys-first.is in
    let second = element-at hs j c.index-polys-second.result c.requires.inside c.index-polys-second.is in
    let is_s = subst₂ (λ (x y : Polynomial _). IsSame (poly_ops o) c.in_ok-s.s (s_polynomial o cmp x y)) first second c.in_ok-s.ensures.value in
    let p = err_from_is_err_and c.from_residual-in_err-division.result c.from_residual-in_err-division.ensures.1 in
    rw (p.1, p.2) (meet-weaker (StepsMeet o cmp hs c.in_ok-s.s e high) (RestMeets o e high v cmp hs lists i j) (division-meets o l cmp hs lists i j c.in_ok-s.s is_s e high v) c.in_err-division.field-0.0 c.in_err-division.ensures.degree)

pub index-requires : goal.index-requires
index-requires g c =
    let low : c.args.entry.now.first < length c.args.lists.now = omega (arith, c.requires.ascending, c.requires.inside, c.requires.many) in
    let inside : c.places.place < length c.index-lists-first.result.items = subst (λ w. c.places.place < length w.items) (sym c.index-lists-first.is) (lengths-inside (λ us. us.items) c.args.lists.now c.args.entry.now.first c.places.place c.args.count c.requires.lengths c.places-test.true c.args.entry.now.first c.index-lists-first.result low) in
    search (rules, inside)

pub cofactor_at-requires-clause-first : goal.cofactor_at-requires-clause-first
cofactor_at-requires-clause-first g c =
    cofactor-has (λ us. us.items) c.args.lists.now c.args.entry.now.first c.places.place (IsNormal (g.F.Ring.ops c.args.ring.now.coeffs) (g.F.Ring.is_element c.args.ring.now.coeffs) c.args.ring.now.vars) c.requires.lists c.index-lists-first.result c.index.result.now (omega (arith, c.requires.ascending, c.requires.inside, c.requires.many))
    (lengths-inside (λ us. us.items) c.args.lists.now c.args.entry.now.first c.places.place c.args.count c.requires.lengths c.places-test.true) c.index-lists-first.is c.index.ensures

pub cofactor_at-requires-clause-second : goal.cofactor_at-requires-clause-second
cofactor_at-requires-clause-second g c =
    cofactor-has (λ us. us.items) c.args.lists.now c.args.entry.now.second c.places.place (IsNormal (g.F.Ring.ops c.args.ring.now.coeffs) (g.F.Ring.is_element c.args.ring.now.coeffs) c.args.ring.now.vars) c.requires.lists c.index-lists-second.result c.index-in-places.result.now (omega (arith, c.requires.inside, c.requires.many))
    (lengths-inside (λ us. us.items) c.args.lists.now c.args.entry.now.second c.places.place c.args.count c.requires.lengths c.places-test.true) c.index-lists-second.is c.index-in-places.ensures

pub cofactor_at-requires-clause-many : goal.cofactor_at-requires-clause-many
cofactor_at-requires-clause-many g c =
    ap length c.deref.ensures.value ∙ quotients-number (g.F.Ring.ops c.args.ring.now.coeffs) (g.F.Ring.laws c.args.ring.now.coeffs) (g.O.MonoOrder.cmp c.args.order.now) c.args.polys.now c.in_ok-s.s c.in_ok-division.division.quotients.items c.in_ok-division.division.rest c.in_ok-division.ensures.division ∙ sym c.requires.many

pub cofactor_at-requires-clause-inside : goal.cofactor_at-requires-clause-inside
cofactor_at-requires-clause-inside g c = lengths-inside (λ us. us.items) c.args.lists.now c.args.entry.now.first c.places.place c.args.count c.requires.lengths c.places-test.true

pub returns-in_err-cofactor-clause-degree : goal.returns-in_err-cofactor-clause-degree
returns-in_err-cofactor-clause-degree g c =
    let o = g.F.Ring.ops c.args.ring.now.coeffs in
    let l = g.F.Ring.laws c.args.ring.now.coeffs in
    let e = g.F.Ring.is_element c.args.ring.now.coeffs in
    let high = g.F.Ring.too_high c.args.ring.now.coeffs in
    let v = c.args.ring.now.vars in
    let cmp = g.O.MonoOrder.cmp c.args.order.now in
    let hs = c.args.polys.now in
    let lists = map (λ us. us.items) c.args.lists.now in
    let i = c.args.entry.now.first in
    let j = c.args.entry.now.second in
    let low : i < length hs = omega (arith, c.requires.ascending, c.requires.inside) in
    let first = element-at hs i c.index-polys-first.result low c.index-polys-first.is in
    let second = element-at hs j c.index-polys-second.result c.requires.inside c.index-polys-second.is in
    let is_s = subst₂ (λ (x y : Polynomial _). IsSame (poly_ops o) c.in_ok-s.s (s_polynomial o cmp x y)) first second c.in_ok-s.ensures.value in
    let is_left = subst₂ (λ (x y : Polynomial _). IsSame (poly_ops o) c.in_ok-left.left (multiplier o cmp x y ∷ [])) first second c.in_ok-left.ensures.value in
    let is_right = subst₂ (λ (x y : Polynomial _). IsSame (poly_ops o) c.in_ok-right.right (multiplier o cmp x y ∷ [])) second first c.in_ok-right.ensures.value in
    let inside = lengths-inside (λ us. us.items) c.args.lists.now i c.places.place c.args.count c.requires.lengths c.places-test.true in
    let at_a = cofactor-at (λ us. us.items) c.args.lists.now i c.places.place c.index-lists-first.result c.index.result.now (omega (arith, low, c.requires.many)) inside c.index-lists-first.is c.index.ensures in
    let at_b = cofactor-at (λ us. us.items) c.args.lists.now j c.places.place c.index-lists-second.result c.index-in-places.result.now (omega (arith, c.requires.inside, c.requires.many)) inside c.index-lists-second.is c.index-in-places.ensures in
    let a = c.index.result.now in
    let b = c.index-in-places.result.now in
    let qs = c.in_ok-division.division.quotients.items in
    let m = c.places.place in
    let are = are-quotients o l cmp hs lists i j c.in_ok-s.s is_s e v qs c.in_ok-division.division.rest c.in_ok-division.ensures.division c.in_ok-division.ensures.quotients in
    let p = err_from_is_err_and c.from_residual-in_err-cofactor.result c.from_residual-in_err-cofactor.ensures.1 in
    rw (p.1, p.2) (meet-weaker (CombinedMeets o e high v c.in_ok-left.left a c.in_ok-right.right b qs (column lists m)) (RestMeets o e high v cmp hs lists i j)
    (combined-meets o l cmp hs lists i j c.in_ok-left.left c.in_ok-right.right is_left is_right m a b at_a at_b e high v c.in_ok-left.ensures.element c.in_ok-right.ensures.element qs are) c.in_err-cofactor.field-0.0 (rw c.deref.ensures.value at c.in_err-cofactor.ensures.degree))

pub places-preserved : goal.places-preserved
places-preserved g c =
    let o = g.F.Ring.ops c.args.ring.now.coeffs in
    let l = g.F.Ring.laws c.args.ring.now.coeffs in
    let e = g.F.Ring.is_element c.args.ring.now.coeffs in
    let high = g.F.Ring.too_high c.args.ring.now.coeffs in
    let v = c.args.ring.now.vars in
    let cmp = g.O.MonoOrder.cmp c.args.order.now in
    let hs = c.args.polys.now in
    let lists = map (λ us. us.items) c.args.lists.now in
    let i = c.args.entry.now.first in
    let j = c.args.entry.now.second in
    let low : i < length hs = omega (arith, c.requires.ascending, c.requires.inside) in
    let first = element-at hs i c.index-polys-first.result low c.index-polys-first.is in
    let second = element-at hs j c.index-polys-second.result c.requires.inside c.index-polys-second.is in
    let is_left = subst₂ (λ (x y : Polynomial _). IsSame (poly_ops o) c.in_ok-left.left (multiplier o cmp x y ∷ [])) first second c.in_ok-left.ensures.value in
    let is_right = subst₂ (λ (x y : Polynomial _). IsSame (poly_ops o) c.in_ok-right.right (multiplier o cmp x y ∷ [])) second first c.in_ok-right.ensures.value in
    let inside = lengths-inside (λ us. us.items) c.args.lists.now i c.places.place c.args.count c.requires.lengths c.places-test.true in
    let at_a = cofactor-at (λ us. us.items) c.args.lists.now i c.places.place c.index-lists-first.result c.index.result.now (omega (arith, low, c.requires.many)) inside c.index-lists-first.is c.index.ensures in
    let at_b = cofactor-at (λ us. us.items) c.args.lists.now j c.places.place c.index-lists-second.result c.index-in-places.result.now (omega (arith, c.requires.inside, c.requires.many)) inside c.index-lists-second.is c.index-in-places.ensures in
    let a = c.index.result.now in
    let b = c.index-in-places.result.now in
    let qs = c.in_ok-division.division.quotients.items in
    let m = c.places.place in
    let value = combined-value o l cmp hs lists i j c.in_ok-left.left c.in_ok-right.right is_left is_right m a b at_a at_b qs c.in_ok-cofactor.cofactor (rw c.deref.ensures.value at c.in_ok-cofactor.ensures.value) in
    rw c.in_ok-push.ensures.items (record {
      normal = All-push (IsNormal o e v) c.places.cofactors.items c.in_ok-cofactor.cofactor c.places.invariant.normal c.in_ok-cofactor.ensures.element;
      number = length_push c.places.cofactors.items c.in_ok-cofactor.cofactor ∙ ap (λ n. n + 1) c.places.invariant.number;
      each = each-more (λ m u. IsSame (poly_ops o) u (combined o cmp hs lists i j qs m)) [] c.places.cofactors.items c.in_ok-cofactor.cofactor m c.places.invariant.number c.places.invariant.each value;
    })

pub returns-clause-cofactors : goal.returns-clause-cofactors
returns-clause-cofactors g c =
    let o = g.F.Ring.ops c.args.ring.now.coeffs in
    let l = g.F.Ring.laws c.args.ring.now.coeffs in
    let cmp = g.O.MonoOrder.cmp c.args.order.now in
    let hs = c.args.polys.now in
    let i = c.args.entry.now.first in
    let j = c.args.entry.now.second in
    let low : i < length hs = omega (arith, c.requires.ascending, c.requires.inside) in
    let first = element-at hs i c.index-polys-first.result low c.index-polys-first.is in
    let second = element-at hs j c.index-polys-second.result c.requires.inside c.index-polys-second.is in
    let is_s = subst₂ (λ (x y : Polynomial _). IsSame (poly_ops o) c.in_ok-s.s (s_polynomial o cmp x y)) first second c.in_ok-s.ensures.value in
    let all : c.places.place ≡ c.args.count = omega (arith, c.places-test.false, c.places.auto.place-end) in
    are-cofactors o l cmp hs (map (λ us. us.items) c.args.lists.now) i j c.in_ok-s.s is_s c.args.count c.in_ok-division.division.quotients.items c.places.cofactors.items c.in_ok-division.division.rest c.in_ok-division.ensures.division (c.places.invariant.number ∙ all)
    (λ m low. c.places.invariant.each m (omega (arith, low, all)))
