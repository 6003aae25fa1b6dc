use Rattle.std.proofs.Common.{◌≡◌, ◌<◌, ◌+◌, ◌*◌, ℕ, false, length, arith}
use Rattle.std.proofs.lemmas.Result.{err_from_is_err_and}
use Rattle.rinv_algebra.specs.Monomial.{max_degree}
use Rattle.rinv_algebra.specs.Polynomial.{constant}
use Rattle.rinv_algebra.specs.Value.{times_all, factors}
use Rattle.rinv_poly.proofs.Meets.{meet-weaker}
use Rattle.rinv_sub.specs.Refusal.{ProductsMeet}
use Rattle.rinv_sub.proofs.FieldDegrees.{constant-top, next-top, misfit-found}
use Rattle.rinv_sub.proofs.fitting.check_term.Goals as goal

pub images-init : goal.images-init
unfolding times_all factors
images-init g c = record { low = omega arith; top = λ u n. constant-top (g.R.Ring.ops c.args.ring.now.coeffs) (g.R.Ring.laws c.args.ring.now.coeffs) u n }

pub returns-in_err-degree : goal.returns-in_err-degree
returns-in_err-degree g c =
    let o = g.R.Ring.ops c.args.ring.now.coeffs in
    let l = g.R.Ring.laws c.args.ring.now.coeffs in
    let e = g.R.Ring.is_element c.args.ring.now.coeffs in
    let high = g.R.Ring.too_high c.args.ring.now.coeffs in
    let v = c.args.ring.now.vars in
    let images = c.args.images.now in
    let m = c.args.mono.now in
    let k = c.images.k in
    let n = c.images.degree in
    let d = c.greatest_degree.result in
    let often = c.exponent-exponent.result in
    let few : k < length images = omega (arith, c.images-test.true, c.vars-k-end.ensures, c.requires.many) in
    let p = err_from_is_err_and c.from_residual.result c.from_residual.ensures.1 in
    rw (p.1, p.2)
    (meet-weaker (λ x y. (y ≡ d) × (j : ℕ) × (j < often) × (x ≡ n + j * d) × (max_degree < x + d))
    (λ x y. (u : g.row.R-Elem.Denot) → o.same u o.zero ≡ false → ProductsMeet o e high v (constant o u) (factors images m) x y)
    (λ x y h u nonzero.
    misfit-found o l (g.met.R.Field.field_laws c.args.ring.now.coeffs) e high v (constant o u) images m k n d often c.index-images-k.result few c.requires.many c.index-images-k.is c.exponent-exponent.ensures c.requires.images c.greatest_degree.ensures.each c.greatest_degree.ensures.least
    (c.is_zero_power.ensures c.if-is_zero_power.false) (c.images.invariant.top u nonzero) x y h)
    c.in_err-degree.field-0.0 c.in_err-degree.ensures.meets)

pub images-preserved : goal.images-preserved
images-preserved g c =
    let o = g.R.Ring.ops c.args.ring.now.coeffs in
    let l = g.R.Ring.laws c.args.ring.now.coeffs in
    let e = g.R.Ring.is_element c.args.ring.now.coeffs in
    let high = g.R.Ring.too_high c.args.ring.now.coeffs in
    let v = c.args.ring.now.vars in
    let images = c.args.images.now in
    let m = c.args.mono.now in
    let k = c.images.k in
    let few : k < length images = omega (arith, c.images-test.true, c.vars-k-end.ensures, c.requires.many) in
    record {
      low = c.in_ok-degree.ensures.low;
      top = λ u nonzero.
          next-top o l (g.met.R.Field.field_laws c.args.ring.now.coeffs) e high v (constant o u) images m k c.images.degree c.greatest_degree.result c.exponent-exponent.result c.index-images-k.result few c.requires.many c.index-images-k.is c.exponent-exponent.ensures c.requires.images
          c.greatest_degree.ensures.each c.greatest_degree.ensures.least (c.is_zero_power.ensures c.if-is_zero_power.false) (c.images.invariant.top u nonzero) c.in_ok-degree.degree c.in_ok-degree.ensures.value;
    }
