use Rattle.std.proofs.Common.{[]}
use Rattle.rinv_algebra.specs.Polynomial.{Term}
use Rattle.rinv_poly.proofs.Forms.{ordered-from_normal}
use Rattle.rinv_div.proofs.OrderFacts.{ties_in}
use Rattle.rinv_buch.proofs.LeadingTerms.{lead-monomial, lead-coefficient}
use Rattle.rinv_buch.proofs.s_polynomial.leading_term.Goals as goal

pub returns-clause-monomial : goal.returns-clause-monomial
returns-clause-monomial g c =
    let o = g.F.Ring.ops c.args.ring.now.coeffs in
    let e = g.F.Ring.is_element c.args.ring.now.coeffs in
    let v = c.args.ring.now.vars in
    let cmp = g.O.MonoOrder.cmp c.args.order.now in
    let ties = ties_in v cmp (g.O.MonoOrder.fits c.args.order.now) (g.O.MonoOrder.ties c.args.order.now) c.requires.suits in
    let n = ordered-from_normal o e v c.args.f.now c.requires.polynomial in
    let d : Term _ = ([], o.zero) in
    rw (c.mono.ensures d) (lead-monomial o (g.F.Ring.laws c.args.ring.now.coeffs) e v cmp (g.O.MonoOrder.laws c.args.order.now) ties c.args.f.now n c.requires.nonzero c.in-Some.place d c.in-Some.ensures.place (c.in-Some.ensures.greatest d))

pub returns-clause-vars : goal.returns-clause-vars
returns-clause-vars g c =
    let o = g.F.Ring.ops c.args.ring.now.coeffs in
    let n = ordered-from_normal o (g.F.Ring.is_element c.args.ring.now.coeffs) c.args.ring.now.vars c.args.f.now c.requires.polynomial in
    let d : Term _ = ([], o.zero) in
    rw (c.mono.ensures d) (n.terms c.in-Some.place d c.in-Some.ensures.place).vars

pub returns-clause-element : goal.returns-clause-element
returns-clause-element g c =
    let o = g.F.Ring.ops c.args.ring.now.coeffs in
    let n = ordered-from_normal o (g.F.Ring.is_element c.args.ring.now.coeffs) c.args.ring.now.vars c.args.f.now c.requires.polynomial in
    let d : Term _ = ([], o.zero) in
    rw (c.coeff.ensures d) (n.terms c.in-Some.place d c.in-Some.ensures.place).coefficient

pub returns-clause-nonzero : goal.returns-clause-nonzero
returns-clause-nonzero g c =
    let o = g.F.Ring.ops c.args.ring.now.coeffs in
    let n = ordered-from_normal o (g.F.Ring.is_element c.args.ring.now.coeffs) c.args.ring.now.vars c.args.f.now c.requires.polynomial in
    let d : Term _ = ([], o.zero) in
    rw (c.coeff.ensures d) (n.terms c.in-Some.place d c.in-Some.ensures.place).nonzero

pub returns-clause-coefficient : goal.returns-clause-coefficient
returns-clause-coefficient g c =
    let o = g.F.Ring.ops c.args.ring.now.coeffs in
    let e = g.F.Ring.is_element c.args.ring.now.coeffs in
    let v = c.args.ring.now.vars in
    let cmp = g.O.MonoOrder.cmp c.args.order.now in
    let ties = ties_in v cmp (g.O.MonoOrder.fits c.args.order.now) (g.O.MonoOrder.ties c.args.order.now) c.requires.suits in
    let n = ordered-from_normal o e v c.args.f.now c.requires.polynomial in
    let d : Term _ = ([], o.zero) in
    rw (c.coeff.ensures d) (lead-coefficient o (g.F.Ring.laws c.args.ring.now.coeffs) e v cmp (g.O.MonoOrder.laws c.args.order.now) ties c.args.f.now n c.requires.nonzero c.in-Some.place d c.in-Some.ensures.place (c.in-Some.ensures.greatest d))
