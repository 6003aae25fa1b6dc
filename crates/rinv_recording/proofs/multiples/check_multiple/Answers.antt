use Rattle.std.proofs.Common.{◌≤◌, ◌<◌, ◌+◌, ◌∙◌, sym, subst, arith, All}
use Rattle.rinv_algebra.specs.Monomial.{total_degree, max_degree}
use Rattle.rinv_defs.specs.System.{Poly}
use Rattle.rinv_poly.specs.Faults.{IsDegreeOf}
use Rattle.rinv_recording.proofs.MultipleDegrees.{nonzero-some, multiple-fits, lcm-low, multiple-meets}
use Rattle.rinv_recording.proofs.multiples.check_multiple.Goals as goal

pub returns-then-left-right-gt-MAX_DEGREE-clause-degree : goal.returns-then-left-right-gt-MAX_DEGREE-clause-degree
returns-then-left-right-gt-MAX_DEGREE-clause-degree g c =
    let p = c.args.ring.now.coeffs in
    let f = c.args.f.now in
    let n = c.degree_beyond-left.result in
    let m = c.greatest_degree-right.result in
    let degree : IsDegreeOf f m = subst (λ (h : Poly). IsDegreeOf h m) c.terms.ensures.value (c.greatest_degree-right.ensures.some (rw c.terms.ensures.value (nonzero-some p f c.requires.first_nonzero))) in
    let over : max_degree < n + m = omega (arith, c.if-left-right-gt-MAX_DEGREE.true) in
    multiple-meets p (g.O.MonoOrder.cmp c.args.order.now) f c.args.g.now c.leading_term.result.0.now c.leading_term-2.result.0.now c.leading_term.ensures.monomial c.leading_term-2.ensures.monomial n m c.degree_beyond-left.ensures.degree
    c.args.ring.now.vars (g.O.MonoOrder.laws c.args.order.now) c.requires.first c.requires.second_nonzero degree over

pub returns-clause-fits : goal.returns-clause-fits
returns-clause-fits g c =
    let n = c.degree_beyond-left.result in
    let m = c.greatest_degree-right.result in
    let all = subst (λ (h : Poly). All (λ t. total_degree t.0 ≤ m) h) c.terms.ensures.value c.greatest_degree-right.ensures.all in
    let low : n + m ≤ max_degree = omega (arith, c.if-left-right-gt-MAX_DEGREE.false) in
    multiple-fits c.args.ring.now.coeffs (g.O.MonoOrder.cmp c.args.order.now) c.args.f.now c.args.g.now c.leading_term.result.0.now c.leading_term-2.result.0.now c.leading_term.ensures.monomial c.leading_term-2.ensures.monomial n m c.degree_beyond-left.ensures.degree all low

pub returns-clause-low : goal.returns-clause-low
returns-clause-low g c =
    let n = c.degree_beyond-left.result in
    let m = c.greatest_degree-right.result in
    let all = subst (λ (h : Poly). All (λ t. total_degree t.0 ≤ m) h) c.terms.ensures.value c.greatest_degree-right.ensures.all in
    let low : n + m ≤ max_degree = omega (arith, c.if-left-right-gt-MAX_DEGREE.false) in
    lcm-low c.args.ring.now.coeffs (g.O.MonoOrder.cmp c.args.order.now) c.args.f.now c.args.g.now c.leading_term.result.0.now c.leading_term-2.result.0.now c.leading_term.ensures.monomial c.leading_term-2.ensures.monomial n m c.degree_beyond-left.ensures.degree
    (g.O.MonoOrder.laws c.args.order.now) (c.leading_term.ensures.vars ∙ sym c.leading_term-2.ensures.vars) c.requires.first_nonzero all low
