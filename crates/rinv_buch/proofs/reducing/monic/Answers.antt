use Rattle.std.proofs.Common.{subst, IsTrue}
use Rattle.std.proofs.lemmas.Result.{err_from_is_err_and}
use Rattle.rinv_algebra.specs.Ring.{IsSame}
use Rattle.rinv_poly.specs.Faults.{MultipleMeets}
use Rattle.rinv_poly.proofs.Meets.{meet-weaker}
use Rattle.rinv_buch.specs.Reducing.{MonicMeets}
use Rattle.rinv_buch.proofs.Makings.{monic-of, scaling-meets}
use Rattle.rinv_buch.proofs.reducing.monic.Goals as goal

pub returns-in_err-monic-clause-degree : goal.returns-in_err-monic-clause-degree
returns-in_err-monic-clause-degree g c =
    let o = g.F.Ring.ops c.args.ring.now.coeffs in
    let e = g.F.Ring.is_element c.args.ring.now.coeffs in
    let high = g.F.Ring.too_high c.args.ring.now.coeffs in
    let v = c.args.ring.now.vars in
    let cmp = g.O.MonoOrder.cmp c.args.order.now in
    let element : IsTrue (e c.in-Some.inverse) = subst (λ r. IsTrue (g.F.Ring.is_element r c.in-Some.inverse)) c.coeffs.ensures (rw c.in-Some.is at c.in_ok-inverse.ensures.element) in
    let one = subst (λ r. IsSame (g.F.Ring.ops r) ((g.F.Ring.ops r).mul c.leading_term.result.1.now c.in-Some.inverse) (g.F.Ring.ops r).one) c.coeffs.ensures (rw c.in-Some.is at c.in_ok-inverse.ensures.value) in
    let p = err_from_is_err_and c.from_residual-in_err-monic.result c.from_residual-in_err-monic.ensures.1 in
    rw (p.1, p.2) (meet-weaker (MultipleMeets o e high c.in-Some.inverse c.args.f.now) (MonicMeets o e high v cmp c.args.f.now)
    (scaling-meets o (g.F.Ring.laws c.args.ring.now.coeffs) cmp e high v c.args.f.now c.leading_term.result.1.now c.in-Some.inverse c.leading_term.ensures.coefficient element one) c.in_err-monic.field-0.0 c.in_err-monic.ensures.degree)

pub returns-clause-monic : goal.returns-clause-monic
returns-clause-monic g c =
    monic-of (g.F.Ring.ops c.args.ring.now.coeffs) (g.F.Ring.laws c.args.ring.now.coeffs) (g.O.MonoOrder.cmp c.args.order.now) c.args.f.now c.in_ok-monic.monic c.leading_term.result.1.now c.in-Some.inverse c.leading_term.ensures.coefficient
    (subst (λ r. IsSame (g.F.Ring.ops r) ((g.F.Ring.ops r).mul c.leading_term.result.1.now c.in-Some.inverse) (g.F.Ring.ops r).one) c.coeffs.ensures (rw c.in-Some.is at c.in_ok-inverse.ensures.value)) c.in_ok-monic.ensures.value
