use Rattle.std.proofs.Common.{◌≡◌, ◌<◌, refl, ap₂, ℕ, List, arith, subst}
use Rattle.std.proofs.lemmas.Result.{err_from_is_err_and}
use Rattle.rinv_algebra.specs.Monomial.{lcm, quotient, total_degree, max_degree}
use Rattle.rinv_groebner.proofs.MonomialLists.{lcm_left, lcm_right}
use Rattle.rinv_mono.specs.Fault.{IsOfDegree}
use Rattle.rinv_ring.specs.Operation.{subtracts}
use Rattle.rinv_poly.specs.Faults.{polynomials_meet}
use Rattle.rinv_poly.specs.Combined.{TermMeets}
use Rattle.rinv_poly.proofs.Meets.{meet-weaker}
use Rattle.rinv_buch.specs.Causes.{SPolynomialMeets}
use Rattle.rinv_buch.proofs.TermMultiples.{s-value, first-meets, second-meets, difference-meets}
use Rattle.rinv_buch.proofs.s_polynomial.s_polynomial_of.Goals as goal

pub unreachable-requires : goal.unreachable-requires
unreachable-requires g c =
    let n = total_degree (lcm c.leading_term.result.0.now c.leading_term-2.result.0.now) in
    let over : max_degree < n = subst (IsOfDegree n) c.in-Err-Degree.field-0-is c.in-Err-Degree.ensures.high in
    let is = ap₂ (λ (x y : List ℕ). total_degree (lcm x y)) c.leading_term.ensures.monomial c.leading_term-2.ensures.monomial in
    omega (arith, over, is, c.requires.low)

pub quotient-requires-clause-divides : goal.quotient-requires-clause-divides
quotient-requires-clause-divides g c = rw c.in-Ok.ensures.value (lcm_left c.leading_term.result.0.now c.leading_term-2.result.0.now)

pub quotient-requires-2-clause-divides : goal.quotient-requires-2-clause-divides
quotient-requires-2-clause-divides g c = rw c.in-Ok.ensures.value (lcm_right c.leading_term.result.0.now c.leading_term-2.result.0.now)

pub returns-in_err-left-clause-degree : goal.returns-in_err-left-clause-degree
returns-in_err-left-clause-degree g c =
    let o = g.F.Ring.ops c.args.ring.now.coeffs in
    let e = g.F.Ring.is_element c.args.ring.now.coeffs in
    let high = g.F.Ring.too_high c.args.ring.now.coeffs in
    let v = c.args.ring.now.vars in
    let cmp = g.O.MonoOrder.cmp c.args.order.now in
    let a = c.leading_term.result.0.now in
    let b = c.leading_term-2.result.0.now in
    let m : c.in_ok-f_multiplier.f_multiplier ≡ quotient (lcm a b) a = rw c.in-Ok.ensures.value at c.in_ok-f_multiplier.ensures.value in
    let p = err_from_is_err_and c.from_residual-in_err-left.result c.from_residual-in_err-left.ensures.1 in
    rw (p.1, p.2)
    (meet-weaker (TermMeets o e high v (c.in_ok-f_multiplier.f_multiplier, c.leading_term-2.result.1.now) c.args.f.now) (SPolynomialMeets o e high v cmp c.args.f.now c.args.g.now)
    (first-meets o (g.F.Ring.laws c.args.ring.now.coeffs) cmp c.args.f.now c.args.g.now a b c.in_ok-f_multiplier.f_multiplier (quotient (lcm a b) b) c.leading_term.ensures.monomial c.leading_term-2.ensures.monomial e high v m refl c.leading_term-2.result.1.now c.leading_term-2.ensures.coefficient) c.in_err-left.field-0.0 c.in_err-left.ensures.degree)

pub returns-in_err-right-clause-degree : goal.returns-in_err-right-clause-degree
returns-in_err-right-clause-degree g c =
    let o = g.F.Ring.ops c.args.ring.now.coeffs in
    let e = g.F.Ring.is_element c.args.ring.now.coeffs in
    let high = g.F.Ring.too_high c.args.ring.now.coeffs in
    let v = c.args.ring.now.vars in
    let cmp = g.O.MonoOrder.cmp c.args.order.now in
    let a = c.leading_term.result.0.now in
    let b = c.leading_term-2.result.0.now in
    let m : c.in_ok-f_multiplier.f_multiplier ≡ quotient (lcm a b) a = rw c.in-Ok.ensures.value at c.in_ok-f_multiplier.ensures.value in
    let n : c.in_ok-g_multiplier.g_multiplier ≡ quotient (lcm a b) b = rw c.in-Ok.ensures.value at c.in_ok-g_multiplier.ensures.value in
    let p = err_from_is_err_and c.from_residual-in_err-right.result c.from_residual-in_err-right.ensures.1 in
    rw (p.1, p.2)
    (meet-weaker (TermMeets o e high v (c.in_ok-g_multiplier.g_multiplier, c.leading_term.result.1.now) c.args.g.now) (SPolynomialMeets o e high v cmp c.args.f.now c.args.g.now)
    (second-meets o (g.F.Ring.laws c.args.ring.now.coeffs) cmp c.args.f.now c.args.g.now a b c.in_ok-f_multiplier.f_multiplier c.in_ok-g_multiplier.g_multiplier c.leading_term.ensures.monomial c.leading_term-2.ensures.monomial e high v m n c.leading_term.result.1.now c.leading_term.ensures.coefficient) c.in_err-right.field-0.0 c.in_err-right.ensures.degree)

pub returns-in_err-difference-clause-degree : goal.returns-in_err-difference-clause-degree
returns-in_err-difference-clause-degree g c =
    let o = g.F.Ring.ops c.args.ring.now.coeffs in
    let e = g.F.Ring.is_element c.args.ring.now.coeffs in
    let high = g.F.Ring.too_high c.args.ring.now.coeffs in
    let v = c.args.ring.now.vars in
    let cmp = g.O.MonoOrder.cmp c.args.order.now in
    let a = c.leading_term.result.0.now in
    let b = c.leading_term-2.result.0.now in
    let m : c.in_ok-f_multiplier.f_multiplier ≡ quotient (lcm a b) a = rw c.in-Ok.ensures.value at c.in_ok-f_multiplier.ensures.value in
    let n : c.in_ok-g_multiplier.g_multiplier ≡ quotient (lcm a b) b = rw c.in-Ok.ensures.value at c.in_ok-g_multiplier.ensures.value in
    let p = err_from_is_err_and c.from_residual-in_err-difference.result c.from_residual-in_err-difference.ensures.1 in
    rw (p.1, p.2)
    (meet-weaker (polynomials_meet o e high subtracts c.in_ok-left.left c.in_ok-right.right) (SPolynomialMeets o e high v cmp c.args.f.now c.args.g.now)
    (difference-meets o (g.F.Ring.laws c.args.ring.now.coeffs) cmp c.args.f.now c.args.g.now a b c.in_ok-f_multiplier.f_multiplier c.in_ok-g_multiplier.g_multiplier c.leading_term.ensures.monomial c.leading_term-2.ensures.monomial e high v m n c.leading_term.result.1.now c.leading_term-2.result.1.now c.in_ok-left.left c.in_ok-right.right c.leading_term.ensures.coefficient c.leading_term-2.ensures.coefficient
    c.in_ok-left.ensures.element c.in_ok-right.ensures.element c.in_ok-left.ensures.value c.in_ok-right.ensures.value) c.in_err-difference.field-0.0 c.in_err-difference.ensures.degree)

pub returns-clause-value : goal.returns-clause-value
returns-clause-value g c =
    let a = c.leading_term.result.0.now in
    let b = c.leading_term-2.result.0.now in
    let m : c.in_ok-f_multiplier.f_multiplier ≡ quotient (lcm a b) a = rw c.in-Ok.ensures.value at c.in_ok-f_multiplier.ensures.value in
    let n : c.in_ok-g_multiplier.g_multiplier ≡ quotient (lcm a b) b = rw c.in-Ok.ensures.value at c.in_ok-g_multiplier.ensures.value in
    s-value (g.F.Ring.ops c.args.ring.now.coeffs) (g.F.Ring.laws c.args.ring.now.coeffs) (g.O.MonoOrder.cmp c.args.order.now) c.args.f.now c.args.g.now a b c.in_ok-f_multiplier.f_multiplier c.in_ok-g_multiplier.g_multiplier c.leading_term.ensures.monomial c.leading_term-2.ensures.monomial
    c.leading_term.result.1.now c.leading_term-2.result.1.now c.in_ok-left.left c.in_ok-right.right c.in_ok-difference.difference m n c.leading_term.ensures.coefficient c.leading_term-2.ensures.coefficient c.in_ok-left.ensures.value c.in_ok-right.ensures.value c.in_ok-difference.ensures.value
