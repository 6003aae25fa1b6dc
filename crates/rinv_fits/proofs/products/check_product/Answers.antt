use Rattle.std.proofs.Common.{◌≤◌, ◌<◌, ◌+◌, subst, arith, All}
use Rattle.rinv_algebra.specs.Monomial.{total_degree, max_degree}
use Rattle.rinv_defs.specs.System.{Poly}
use Rattle.rinv_poly.specs.Faults.{IsDegreeOf}
use Rattle.rinv_fits.proofs.Greatest.{empty-length, fits-by_degrees, fits-empty, fits-empty_right, meet-by_degrees, some-length}
use Rattle.rinv_fits.proofs.products.check_product.Goals as goal
use Rattle.rinv_fits.proofs.products.check_product.Goals.{then-is_empty-via-then-is_empty, then-is_empty-via-else-is_empty+then-is_empty-2}

pub returns-then-is_empty-clause-fits : goal.returns-then-is_empty-clause-fits
returns-then-is_empty-clause-fits c =
    let p = c.args.ring.now.coeffs in
    let v = c.args.ring.now.vars in
    let f = c.args.f.now in
    let g = c.args.g.now in
    elim c.then-is_empty.branch [
      | then-is_empty-via-then-is_empty w ↦ fits-empty p v f g (empty-length c.terms-first.result.now f c.is_empty.result c.terms-first.ensures.value c.is_empty.ensures w.if-is_empty.true)
      | then-is_empty-via-else-is_empty+then-is_empty-2 w ↦ fits-empty_right p v f g (empty-length c.terms-second.result.now g w.is_empty-else-is_empty.result c.terms-second.ensures.value w.is_empty-else-is_empty.ensures w.if-is_empty-2.true)
    ]

pub returns-then-left-right-gt-MAX_DEGREE-clause-degree : goal.returns-then-left-right-gt-MAX_DEGREE-clause-degree
returns-then-left-right-gt-MAX_DEGREE-clause-degree c =
    let a = c.greatest_degree-left.result in
    let b = c.greatest_degree-right.result in
    let left : IsDegreeOf c.args.f.now a = subst (λ (h : Poly). IsDegreeOf h a) c.terms-first.ensures.value (c.greatest_degree-left.ensures.some (some-length c.terms-first.result.now c.is_empty.result c.is_empty.ensures c.if-is_empty.false)) in
    let right : IsDegreeOf c.args.g.now b = subst (λ (h : Poly). IsDegreeOf h b) c.terms-second.ensures.value (c.greatest_degree-right.ensures.some (some-length c.terms-second.result.now c.is_empty-else-is_empty.result c.is_empty-else-is_empty.ensures c.if-is_empty-2.false)) in
    let over : max_degree < a + b = omega (arith, c.if-left-right-gt-MAX_DEGREE.true) in
    meet-by_degrees c.args.ring.now.coeffs c.args.ring.now.vars c.args.f.now c.args.g.now c.requires.left c.requires.right a b left right over

pub returns-clause-fits : goal.returns-clause-fits
returns-clause-fits c =
    let a = c.greatest_degree-left.result in
    let b = c.greatest_degree-right.result in
    let left = subst (λ (h : Poly). All (λ t. total_degree t.0 ≤ a) h) c.terms-first.ensures.value c.greatest_degree-left.ensures.all in
    let right = subst (λ (h : Poly). All (λ t. total_degree t.0 ≤ b) h) c.terms-second.ensures.value c.greatest_degree-right.ensures.all in
    let low : a + b ≤ max_degree = omega (arith, c.if-left-right-gt-MAX_DEGREE.false) in
    fits-by_degrees c.args.ring.now.coeffs c.args.ring.now.vars c.args.f.now c.args.g.now a b left right low
