use Rattle.std.proofs.Common.{◌⊎◌, inl, inr}
use Rattle.rinv_algebra.specs.Polynomial.{product}
use Rattle.rinv_ring.specs.Operation.{multiplies}
use Rattle.rinv_ring.specs.Fault.{DegreesMeet}
use Rattle.rinv_poly.specs.Faults.{TermsMeet, FactorsMeet, AreWorkedOut, PartialSumMeets, polynomials_meet}
use Rattle.std.proofs.lemmas.Result.{err_from_is_err_and}
use Rattle.rinv_poly.proofs.Forms.{ordered-from_normal}
use Rattle.rinv_poly.proofs.Degrees.{product_fits-from_terms, meet-from_terms}
use Rattle.rinv_poly.proofs.Meets.{meet-weaker}
use Rattle.rinv_poly.proofs.Gather.{same-then}
use Rattle.rinv_poly.proofs.polynomial_ring.PolyRing.product_of_all.Goals as goal

pub returns-in_err-all-clause-degree : goal.returns-in_err-all-clause-degree
returns-in_err-all-clause-degree g c =
    let o = g.R.Ring.ops c.args.self.now.coeffs in
    let l = g.R.Ring.laws c.args.self.now.coeffs in
    let element = g.R.Ring.is_element c.args.self.now.coeffs in
    let high = g.R.Ring.too_high c.args.self.now.coeffs in
    let v = c.args.self.now.vars in
    let a = c.args.a.now in
    let b = c.args.b.now in
    let left = ordered-from_normal o element v a c.requires.left in
    let right = ordered-from_normal o element v b c.requires.right in
    let found : DegreesMeet (λ x y. TermsMeet a b x y ⊎ FactorsMeet o element high a b x y) c.in_err-all.field-0.0 = rw (c.terms.ensures.value, c.terms-2.ensures.value) at c.in_err-all.ensures.degree in
    let p = err_from_is_err_and c.from_residual.result c.from_residual.ensures.1 in
    rw (p.1, p.2)
    (meet-weaker (λ x y. TermsMeet a b x y ⊎ FactorsMeet o element high a b x y) (polynomials_meet o element high multiplies a b)
    (λ x y h. elim h [ inl t ↦ inl (meet-from_terms o l element v a b x y left right t) | inr k ↦ inr (inl k) ]) c.in_err-all.field-0.0 found)

pub returns-in_err-terms-clause-degree : goal.returns-in_err-terms-clause-degree
returns-in_err-terms-clause-degree g c =
    let o = g.R.Ring.ops c.args.self.now.coeffs in
    let element = g.R.Ring.is_element c.args.self.now.coeffs in
    let high = g.R.Ring.too_high c.args.self.now.coeffs in
    let a = c.args.a.now in
    let b = c.args.b.now in
    let products : AreWorkedOut o element (product o a b) c.in_ok-all.all.items = rw (c.terms.ensures.value, c.terms-2.ensures.value) at c.in_ok-all.ensures.products in
    let p = err_from_is_err_and c.from_residual-in_err-terms.result c.from_residual-in_err-terms.ensures.1 in
    rw (p.1, p.2)
    (meet-weaker (PartialSumMeets o element high c.in_ok-all.all.items) (polynomials_meet o element high multiplies a b)
    (λ x y h. inr (inr (c.in_ok-all.all.items, products, h))) c.in_err-terms.field-0.0 c.in_err-terms.ensures.degree)

pub returns-clause-value : goal.returns-clause-value
returns-clause-value g c =
    let o = g.R.Ring.ops c.args.self.now.coeffs in
    let l = g.R.Ring.laws c.args.self.now.coeffs in
    rw c.in_ok-product.ensures
    (same-then o l c.in_ok-terms.terms.items c.in_ok-all.all.items (product o c.args.a.now c.args.b.now) c.in_ok-terms.ensures.value (rw (c.terms.ensures.value, c.terms-2.ensures.value) at c.in_ok-all.ensures.value))

pub returns-clause-fits : goal.returns-clause-fits
returns-clause-fits g c =
    product_fits-from_terms (g.R.Ring.ops c.args.self.now.coeffs) (g.R.Ring.laws c.args.self.now.coeffs) c.args.a.now c.args.b.now (rw (c.terms.ensures.value, c.terms-2.ensures.value) at c.in_ok-all.ensures.fits)
