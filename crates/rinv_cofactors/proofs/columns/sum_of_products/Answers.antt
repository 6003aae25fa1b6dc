use Rattle.std.proofs.Common.{◌≡◌, ◌<◌, ◌≤◌, ◌∙◌, ap, sym, arith, length, take, map, []}
use Rattle.std.proofs.lemmas.Result.{IfOk-weaker, IfErr-weaker, err_from_is_err_and}
use Rattle.std.proofs.lemmas.List.{take_all}
use Rattle.std.proofs.lemmas.List.Elements.{All-nil, All-push}
use Rattle.rinv_algebra.specs.Ring.{IsSame}
use Rattle.rinv_algebra.specs.Polynomial.{poly_ops}
use Rattle.rinv_algebra.specs.Normal.{IsNormal}
use Rattle.rinv_algebra.specs.Ideal.{combination}
use Rattle.rinv_algebra.proofs.PolynomialLaws.{poly_laws}
use Rattle.rinv_ring.specs.Fault.{DegreesMeet}
use Rattle.rinv_ring.specs.Operation.{multiplies}
use Rattle.rinv_poly.specs.Faults.{PartialSumMeets, polynomials_meet}
use Rattle.rinv_poly.specs.Sums.{sum_of}
use Rattle.rinv_poly.specs.Combined.{ProductsSumMeet}
use Rattle.rinv_poly.proofs.Meets.{meet-weaker}
use Rattle.rinv_cofactors.specs.Combining.{column}
use Rattle.rinv_buch.proofs.PairDivision.{element-at}
use Rattle.rinv_cofactors.proofs.Cofactors.{cofactor-at, column-at, column-number, column-more, column-stored, product-meets, sum-meets}
use Rattle.rinv_cofactors.proofs.columns.sum_of_products.Goals as goal

pub products-init : goal.products-init
unfolding combination
products-init g c =
    let o = g.F.Ring.ops c.args.ring.now.coeffs in
    rw c.in_ok-products.ensures.items (record { normal = All-nil (IsNormal o (g.F.Ring.is_element c.args.ring.now.coeffs) c.args.ring.now.vars); stored = tt; value = (poly_laws o (g.F.Ring.laws c.args.ring.now.coeffs)).same_refl [] })

pub returns-in_err-product-clause-degree : goal.returns-in_err-product-clause-degree
returns-in_err-product-clause-degree g c =
    let o = g.F.Ring.ops c.args.ring.now.coeffs in
    let k = c.products.k in
    let low : k < length c.args.lists.now = omega (arith, c.products-test.true, c.requires.many) in
    let at = cofactor-at (λ us. us.items) c.args.lists.now k c.args.place c.index-lists-k.result c.index.result.now low c.requires.inside c.index-lists-k.is c.index.ensures in
    let p = err_from_is_err_and c.from_residual-in_err-product.result c.from_residual-in_err-product.ensures.1 in
    let e = g.F.Ring.is_element c.args.ring.now.coeffs in
    let high = g.F.Ring.too_high c.args.ring.now.coeffs in
    let v = c.args.ring.now.vars in
    let qs = c.args.quotients.now in
    let cs = column (map (λ us. us.items) c.args.lists.now) c.args.place in
    rw (p.1, p.2) (meet-weaker (polynomials_meet o e high multiplies c.index-quotients-k.result c.index.result.now) (ProductsSumMeet o e high v qs cs)
    (product-meets o (g.F.Ring.laws c.args.ring.now.coeffs) e v high qs cs k c.index-quotients-k.result c.index.result.now c.products-test.true
    (element-at qs k c.index-quotients-k.result c.products-test.true c.index-quotients-k.is) (at ∙ sym (column-at (λ us. us.items) c.args.lists.now k c.args.place low))) c.in_err-product.field-0.0 c.in_err-product.ensures.degree)

pub products-preserved : goal.products-preserved
products-preserved g c =
    let o = g.F.Ring.ops c.args.ring.now.coeffs in
    let l = g.F.Ring.laws c.args.ring.now.coeffs in
    let e = g.F.Ring.is_element c.args.ring.now.coeffs in
    let v = c.args.ring.now.vars in
    let qs = c.args.quotients.now in
    let cs = column (map (λ us. us.items) c.args.lists.now) c.args.place in
    let k = c.products.k in
    let q = c.index-quotients-k.result in
    let u = c.index.result.now in
    let low : k < length c.args.lists.now = omega (arith, c.products-test.true, c.requires.many) in
    let at = cofactor-at (λ us. us.items) c.args.lists.now k c.args.place c.index-lists-k.result u low c.requires.inside c.index-lists-k.is c.index.ensures ∙ sym (column-at (λ us. us.items) c.args.lists.now k c.args.place low) in
    let many = column-number (λ us. us.items) qs c.args.lists.now c.args.place c.requires.many in
    let items = c.products.products.items in
    let r = c.in_ok-product.product in
    rw c.in_ok-push.ensures.items (record {
      normal = All-push (IsNormal o e v) items r c.products.invariant.normal c.in_ok-product.ensures.element;
      stored = column-stored o l e v qs cs k q u items r c.products-test.true many c.index-quotients-k.is at c.products.invariant.stored c.in_ok-product.ensures.element c.in_ok-product.ensures.value;
      value = column-more o l qs cs k q u items r c.products-test.true many c.index-quotients-k.is at c.products.invariant.value c.in_ok-product.ensures.value;
    })

pub returns-clause-value : goal.returns-clause-value
returns-clause-value g c =
    let o = g.F.Ring.ops c.args.ring.now.coeffs in
    let l = g.F.Ring.laws c.args.ring.now.coeffs in
    let qs = c.args.quotients.now in
    let cs = column (map (λ us. us.items) c.args.lists.now) c.args.place in
    let past : length qs ≤ c.products.k = omega (arith, c.products-test.false) in
    let past' : length cs ≤ c.products.k = omega (arith, past, column-number (λ us. us.items) qs c.args.lists.now c.args.place c.requires.many) in
    let whole : combination o (take c.products.k qs) (take c.products.k cs) ≡ combination o qs cs = ap (λ xs. combination o xs (take c.products.k cs)) (take_all c.products.k qs past) ∙ ap (combination o qs) (take_all c.products.k cs past') in
    IfOk-weaker c.sum.result (λ u. IsSame (poly_ops o) u (sum_of c.products.products.items)) (λ u. IsSame (poly_ops o) u (combination o qs cs))
    (λ u e. (poly_laws o l).same_trans u (sum_of c.products.products.items) (combination o qs cs) e (rw whole at c.products.invariant.value)) c.sum.ensures.value

pub returns-clause-degree : goal.returns-clause-degree
returns-clause-degree g c =
    let o = g.F.Ring.ops c.args.ring.now.coeffs in
    let e = g.F.Ring.is_element c.args.ring.now.coeffs in
    let high = g.F.Ring.too_high c.args.ring.now.coeffs in
    let v = c.args.ring.now.vars in
    let qs = c.args.quotients.now in
    let cs = column (map (λ us. us.items) c.args.lists.now) c.args.place in
    let past : length qs ≤ c.products.k = omega (arith, c.products-test.false) in
    let past' : length cs ≤ c.products.k = omega (arith, past, column-number (λ us. us.items) qs c.args.lists.now c.args.place c.requires.many) in
    let items = c.products.products.items in
    let stored = rw (take_all c.products.k qs past, take_all c.products.k cs past') at c.products.invariant.stored in
    IfErr-weaker c.sum.result (DegreesMeet (PartialSumMeets o e high (sum_of items))) (DegreesMeet (ProductsSumMeet o e high v qs cs))
    (meet-weaker (PartialSumMeets o e high (sum_of items)) (ProductsSumMeet o e high v qs cs) (sum-meets o (g.F.Ring.laws c.args.ring.now.coeffs) e v high qs cs items stored)) c.sum.ensures.degree
