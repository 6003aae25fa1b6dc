use Rattle.std.proofs.Common.{map}
use Rattle.std.proofs.lemmas.Result.{err_from_is_err_and}
use Rattle.rinv_algebra.specs.Polynomial.{product}
use Rattle.rinv_algebra.specs.Ideal.{combination}
use Rattle.rinv_ring.specs.Operation.{subtracts, multiplies}
use Rattle.rinv_poly.specs.Faults.{polynomials_meet}
use Rattle.rinv_poly.specs.Combined.{ProductsSumMeet}
use Rattle.rinv_poly.proofs.Meets.{meet-weaker}
use Rattle.rinv_cofactors.specs.Combining.{CombinedMeets, column}
use Rattle.rinv_cofactors.proofs.Cofactors.{left-meets, right-meets, pair-meets, less-meets, column-meets, cofactor-value}
use Rattle.rinv_cofactors.proofs.columns.cofactor_at.Goals as goal

pub returns-in_err-first-clause-degree : goal.returns-in_err-first-clause-degree
returns-in_err-first-clause-degree g c =
    let o = g.F.Ring.ops c.args.ring.now.coeffs in
    let l = g.F.Ring.laws c.args.ring.now.coeffs in
    let e = g.F.Ring.is_element c.args.ring.now.coeffs in
    let high = g.F.Ring.too_high c.args.ring.now.coeffs in
    let v = c.args.ring.now.vars in
    let cs = column (map (λ us. us.items) c.args.lists.now) c.args.place in
    let p = err_from_is_err_and c.from_residual.result c.from_residual.ensures.1 in
    rw (p.1, p.2) (meet-weaker (polynomials_meet o e high multiplies c.args.left.now c.args.a.now) (CombinedMeets o e high v c.args.left.now c.args.a.now c.args.right.now c.args.b.now c.args.quotients.now cs)
    (left-meets o l e v high c.args.left.now c.args.a.now c.args.right.now c.args.b.now c.args.quotients.now cs) c.in_err-first.field-0.0 c.in_err-first.ensures.degree)

pub returns-in_err-second-clause-degree : goal.returns-in_err-second-clause-degree
returns-in_err-second-clause-degree g c =
    let o = g.F.Ring.ops c.args.ring.now.coeffs in
    let l = g.F.Ring.laws c.args.ring.now.coeffs in
    let e = g.F.Ring.is_element c.args.ring.now.coeffs in
    let high = g.F.Ring.too_high c.args.ring.now.coeffs in
    let v = c.args.ring.now.vars in
    let cs = column (map (λ us. us.items) c.args.lists.now) c.args.place in
    let p = err_from_is_err_and c.from_residual-in_err-second.result c.from_residual-in_err-second.ensures.1 in
    rw (p.1, p.2) (meet-weaker (polynomials_meet o e high multiplies c.args.right.now c.args.b.now) (CombinedMeets o e high v c.args.left.now c.args.a.now c.args.right.now c.args.b.now c.args.quotients.now cs)
    (right-meets o l e v high c.args.left.now c.args.a.now c.args.right.now c.args.b.now c.args.quotients.now cs) c.in_err-second.field-0.0 c.in_err-second.ensures.degree)

pub returns-in_err-of_pair-clause-degree : goal.returns-in_err-of_pair-clause-degree
returns-in_err-of_pair-clause-degree g c =
    let o = g.F.Ring.ops c.args.ring.now.coeffs in
    let l = g.F.Ring.laws c.args.ring.now.coeffs in
    let e = g.F.Ring.is_element c.args.ring.now.coeffs in
    let high = g.F.Ring.too_high c.args.ring.now.coeffs in
    let v = c.args.ring.now.vars in
    let cs = column (map (λ us. us.items) c.args.lists.now) c.args.place in
    let p = err_from_is_err_and c.from_residual-in_err-of_pair.result c.from_residual-in_err-of_pair.ensures.1 in
    rw (p.1, p.2) (meet-weaker (polynomials_meet o e high subtracts c.in_ok-first.first c.in_ok-second.second) (CombinedMeets o e high v c.args.left.now c.args.a.now c.args.right.now c.args.b.now c.args.quotients.now cs)
    (pair-meets o l e v high c.args.left.now c.args.a.now c.args.right.now c.args.b.now c.args.quotients.now cs c.in_ok-first.first c.in_ok-second.second
    c.in_ok-first.ensures.element c.in_ok-first.ensures.value c.in_ok-second.ensures.element c.in_ok-second.ensures.value) c.in_err-of_pair.field-0.0 c.in_err-of_pair.ensures.degree)

pub returns-in_err-of_quotients-clause-degree : goal.returns-in_err-of_quotients-clause-degree
returns-in_err-of_quotients-clause-degree g c =
    let o = g.F.Ring.ops c.args.ring.now.coeffs in
    let l = g.F.Ring.laws c.args.ring.now.coeffs in
    let e = g.F.Ring.is_element c.args.ring.now.coeffs in
    let high = g.F.Ring.too_high c.args.ring.now.coeffs in
    let v = c.args.ring.now.vars in
    let cs = column (map (λ us. us.items) c.args.lists.now) c.args.place in
    let p = err_from_is_err_and c.from_residual-in_err-of_quotients.result c.from_residual-in_err-of_quotients.ensures.1 in
    rw (p.1, p.2) (meet-weaker (ProductsSumMeet o e high v c.args.quotients.now cs) (CombinedMeets o e high v c.args.left.now c.args.a.now c.args.right.now c.args.b.now c.args.quotients.now cs)
    (column-meets o l e v high c.args.left.now c.args.a.now c.args.right.now c.args.b.now c.args.quotients.now cs) c.in_err-of_quotients.field-0.0 c.in_err-of_quotients.ensures.degree)

pub returns-in_err-cofactor-clause-degree : goal.returns-in_err-cofactor-clause-degree
returns-in_err-cofactor-clause-degree g c =
    let o = g.F.Ring.ops c.args.ring.now.coeffs in
    let l = g.F.Ring.laws c.args.ring.now.coeffs in
    let e = g.F.Ring.is_element c.args.ring.now.coeffs in
    let high = g.F.Ring.too_high c.args.ring.now.coeffs in
    let v = c.args.ring.now.vars in
    let cs = column (map (λ us. us.items) c.args.lists.now) c.args.place in
    let p = err_from_is_err_and c.from_residual-in_err-cofactor.result c.from_residual-in_err-cofactor.ensures.1 in
    rw (p.1, p.2) (meet-weaker (polynomials_meet o e high subtracts c.in_ok-of_pair.of_pair c.in_ok-of_quotients.of_quotients) (CombinedMeets o e high v c.args.left.now c.args.a.now c.args.right.now c.args.b.now c.args.quotients.now cs)
    (less-meets o l e v high c.args.left.now c.args.a.now c.args.right.now c.args.b.now c.args.quotients.now cs c.in_ok-first.first c.in_ok-second.second c.in_ok-of_pair.of_pair c.in_ok-of_quotients.of_quotients
    c.in_ok-first.ensures.value c.in_ok-second.ensures.value c.in_ok-of_pair.ensures.element c.in_ok-of_pair.ensures.value c.in_ok-of_quotients.ensures.element c.in_ok-of_quotients.ensures.value) c.in_err-cofactor.field-0.0 c.in_err-cofactor.ensures.degree)

pub returns-clause-value : goal.returns-clause-value
returns-clause-value g c =
    let o = g.F.Ring.ops c.args.ring.now.coeffs in
    cofactor-value o (g.F.Ring.laws c.args.ring.now.coeffs) c.in_ok-first.first c.in_ok-second.second c.in_ok-of_pair.of_pair c.in_ok-of_quotients.of_quotients c.in_ok-cofactor.cofactor
    (product o c.args.left.now c.args.a.now) (product o c.args.right.now c.args.b.now) (combination o c.args.quotients.now (column (map (λ us. us.items) c.args.lists.now) c.args.place))
    c.in_ok-first.ensures.value c.in_ok-second.ensures.value c.in_ok-of_pair.ensures.value c.in_ok-of_quotients.ensures.value c.in_ok-cofactor.ensures.value
