use Rattle.std.proofs.Common.{◌∷◌, []}
use Rattle.std.proofs.lemmas.Result.{err_from_is_err_and}
use Rattle.rinv_algebra.specs.Ring.{IsSame}
use Rattle.rinv_algebra.specs.Polynomial.{poly_ops}
use Rattle.rinv_ring.specs.Operation.{multiplies}
use Rattle.rinv_poly.specs.Faults.{polynomials_meet}
use Rattle.rinv_poly.specs.Combined.{TermMeets}
use Rattle.rinv_poly.proofs.Meets.{meet-weaker}
use Rattle.rinv_buch.proofs.TermMultiples.{one-distinct, multiple-value, multiple-meets}
use Rattle.rinv_buch.proofs.s_polynomial.multiple.Goals as goal

pub from_distinct-requires-clause-distinct : goal.from_distinct-requires-clause-distinct
from_distinct-requires-clause-distinct g c = rw (c.in_ok-push.ensures.items, c.in_ok-terms.ensures.items) (one-distinct c.args.mono)

pub returns-in_err-product-clause-degree : goal.returns-in_err-product-clause-degree
returns-in_err-product-clause-degree g c =
    let o = g.F.Ring.ops c.args.ring.now.coeffs in
    let e = g.F.Ring.is_element c.args.ring.now.coeffs in
    let v = c.args.ring.now.vars in
    let high = g.F.Ring.too_high c.args.ring.now.coeffs in
    let is : IsSame (poly_ops o) c.in_ok-term.term ((c.args.mono, c.args.c.now) ∷ []) = rw (c.in_ok-push.ensures.items, c.in_ok-terms.ensures.items, c.in_ok-copy.ensures) at c.in_ok-term.ensures.value in
    let p = err_from_is_err_and c.from_residual-in_err-product.result c.from_residual-in_err-product.ensures.1 in
    rw (p.1, p.2) (meet-weaker (polynomials_meet o e high multiplies c.in_ok-term.term c.args.f.now) (TermMeets o e high v (c.args.mono, c.args.c.now) c.args.f.now)
    (multiple-meets o (g.F.Ring.laws c.args.ring.now.coeffs) c.args.mono c.args.c.now c.in_ok-term.term c.args.f.now is e v c.in_ok-term.ensures.element high) c.in_err-product.field-0.0 c.in_err-product.ensures.degree)

pub returns-clause-value : goal.returns-clause-value
returns-clause-value g c =
    let o = g.F.Ring.ops c.args.ring.now.coeffs in
    let is : IsSame (poly_ops o) c.in_ok-term.term ((c.args.mono, c.args.c.now) ∷ []) = rw (c.in_ok-push.ensures.items, c.in_ok-terms.ensures.items, c.in_ok-copy.ensures) at c.in_ok-term.ensures.value in
    multiple-value o (g.F.Ring.laws c.args.ring.now.coeffs) c.args.mono c.args.c.now c.in_ok-term.term c.args.f.now is c.in_ok-product.product c.in_ok-product.ensures.value
