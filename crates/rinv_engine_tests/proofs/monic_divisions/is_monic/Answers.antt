use Rattle.std.proofs.Common.{◌≡◌, true, false, sym, []}
use Rattle.rinv_algebra.specs.Ring.{IsSame}
use Rattle.rinv_algebra.specs.Polynomial.{Term, is_zero}
use Rattle.rinv_algebra.specs.Leading.{leading_coefficient}
use Rattle.rinv_algebra.proofs.RingFacts as facts
use Rattle.rinv_poly.proofs.Forms.{ordered-from_normal}
use Rattle.rinv_div.proofs.OrderFacts.{ties_in}
use Rattle.rinv_buch.proofs.LeadingTerms.{lead-coefficient}
use Rattle.rinv_engine_tests.proofs.monic_divisions.is_monic.Goals as goal

pub same-requires-clause-left : goal.same-requires-clause-left
same-requires-clause-left g c =
    let o = g.R.Ring.ops c.args.ring.now.coeffs in
    let n = ordered-from_normal o (g.R.Ring.is_element c.args.ring.now.coeffs) c.args.ring.now.vars c.args.h.now c.requires.polynomial in
    let d : Term _ = ([], o.zero) in
    rw (c.coeffs-coeffs.ensures, c.coeff.ensures d) (n.terms c.in-Some.place d c.in-Some.ensures.place).coefficient

pub returns-clause-monic : goal.returns-clause-monic
returns-clause-monic g c monic =
    let o = g.R.Ring.ops c.args.ring.now.coeffs in
    let l = g.R.Ring.laws c.args.ring.now.coeffs in
    let e = g.R.Ring.is_element c.args.ring.now.coeffs in
    let v = c.args.ring.now.vars in
    let cmp = g.O.MonoOrder.cmp c.args.order.now in
    let ties = ties_in v cmp (g.O.MonoOrder.fits c.args.order.now) (g.O.MonoOrder.ties c.args.order.now) c.requires.suits in
    let h = c.args.h.now in
    let n = ordered-from_normal o e v h c.requires.polynomial in
    let d : Term _ = ([], o.zero) in
    let some : false ≡ is_zero o h = rw c.if-is_zero.false at c.is_zero.ensures in
    let lead : IsSame o c.coeff.result.now (leading_coefficient o cmp h) = rw (c.coeff.ensures d) (lead-coefficient o l e v cmp (g.O.MonoOrder.laws c.args.order.now) ties h n (sym some) c.in-Some.place d c.in-Some.ensures.place (c.in-Some.ensures.greatest d)) in
    let one : IsSame o c.in_ok-one.one o.one = rw c.coeffs-coeffs.ensures at c.in_ok-one.ensures.value in
    let held = rw monic at c.in_ok-same.ensures.value in
    let equal : true ≡ o.same c.coeff.result.now c.in_ok-one.one = rw c.coeffs-coeffs.ensures at held in
    facts.then o l (facts.back o l lead) (facts.then o l (sym equal) one)
