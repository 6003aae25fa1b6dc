use Rattle.std.proofs.Common.{◌≡◌, ◌<◌, ◌∷◌, [], refl, subst}
use Rattle.rinv_algebra.specs.Ring.{IsSame}
use Rattle.rinv_algebra.specs.Monomial.{lcm, quotient, total_degree, max_degree}
use Rattle.rinv_algebra.specs.Polynomial.{poly_ops}
use Rattle.rinv_groebner.proofs.MonomialLists.{lcm_left}
use Rattle.rinv_mono.specs.Fault.{IsOfDegree}
use Rattle.rinv_cofactors.proofs.PairMultipliers.{multiplier-meets, multiplier-value}
use Rattle.rinv_buch.proofs.TermMultiples.{one-distinct}
use Rattle.rinv_cofactors.proofs.multipliers.multiplier_of.Goals as goal

pub returns-in-Err-Degree-clause-degree : goal.returns-in-Err-Degree-clause-degree
returns-in-Err-Degree-clause-degree g c =
    let a = c.leading_term.result.0.now in
    let b = c.leading_term-2.result.0.now in
    let n = total_degree (lcm a b) in
    let over : max_degree < n = subst (IsOfDegree n) c.in-Err-Degree.field-0-is c.in-Err-Degree.ensures.high in
    multiplier-meets (g.F.Ring.ops c.args.ring.now.coeffs) (g.F.Ring.laws c.args.ring.now.coeffs) (g.O.MonoOrder.cmp c.args.order.now) c.args.f.now c.args.g.now a b c.leading_term.ensures.monomial c.leading_term-2.ensures.monomial
    (g.O.MonoOrder.laws c.args.order.now) (g.F.Ring.is_element c.args.ring.now.coeffs) (g.F.Ring.too_high c.args.ring.now.coeffs) c.args.ring.now.vars c.leading_term-2.result.1.now c.leading_term.ensures.vars c.leading_term-2.ensures.vars c.leading_term-2.ensures.element c.leading_term-2.ensures.nonzero c.leading_term-2.ensures.coefficient
    c.requires.first_nonzero n c.degree_beyond-left.result c.degree-right.result refl over c.degree_beyond-left.ensures.degree c.degree_beyond-left.ensures.low c.degree-right.ensures.value

pub quotient-requires-clause-divides : goal.quotient-requires-clause-divides
quotient-requires-clause-divides g c = rw c.in-Ok.ensures.value (lcm_left c.leading_term.result.0.now c.leading_term-2.result.0.now)

pub from_distinct-requires-clause-distinct : goal.from_distinct-requires-clause-distinct
from_distinct-requires-clause-distinct g c = rw (c.in_ok-push.ensures.items, c.in_ok-terms.ensures.items) (one-distinct c.in_ok-mono.mono)

pub returns-clause-value : goal.returns-clause-value
returns-clause-value g c =
    let o = g.F.Ring.ops c.args.ring.now.coeffs in
    let a = c.leading_term.result.0.now in
    let b = c.leading_term-2.result.0.now in
    let mono : c.in_ok-mono.mono ≡ quotient (lcm a b) a = rw c.in-Ok.ensures.value at c.in_ok-mono.ensures.value in
    let is : IsSame (poly_ops o) c.in_ok-term.term ((c.in_ok-mono.mono, c.leading_term-2.result.1.now) ∷ []) = rw (c.in_ok-push.ensures.items, c.in_ok-terms.ensures.items, c.in_ok-c.ensures) at c.in_ok-term.ensures.value in
    multiplier-value o (g.F.Ring.laws c.args.ring.now.coeffs) (g.O.MonoOrder.cmp c.args.order.now) c.args.f.now c.args.g.now a b c.leading_term.ensures.monomial c.leading_term-2.ensures.monomial
    c.in_ok-mono.mono c.leading_term-2.result.1.now c.in_ok-term.term mono c.leading_term-2.ensures.coefficient is
