use Rattle.std.proofs.Common.{◌≡◌, ◌<◌, ℕ, false, List, length, arith, sym, ap, ◌∙◌}
use Rattle.std.proofs.lemmas.Result.{err_from_is_err_and}
use Rattle.rinv_algebra.specs.Polynomial.{constant}
use Rattle.rinv_algebra.specs.Value.{factors}
use Rattle.rinv_poly.proofs.Meets.{meet-weaker}
use Rattle.rinv_sub.specs.Refusal.{ProductsMeet, SubstitutionMeets}
use Rattle.rinv_sub.proofs.Sums.{term_of, normal-at}
use Rattle.rinv_sub.proofs.FieldDegrees.{term-meets}
use Rattle.rinv_sub.proofs.fitting.check_terms.Goals as goal

pub check_term-requires-clause-many : goal.check_term-requires-clause-many
check_term-requires-clause-many g c =
    let o = g.R.Ring.ops c.args.to.now.coeffs in
    let t = term_of c.mono.result.now o.zero in
    let term = normal-at o (g.R.Ring.is_element c.args.to.now.coeffs) c.args.from.now.vars c.args.f.now c.terms.k t (omega (arith, c.terms-test.true, c.len-k-end.ensures)) (rw c.requires.coeffs at c.requires.polynomial) in
    c.requires.many ∙ sym (ap (λ (m : List ℕ). length m) (c.mono.ensures t) ∙ term.vars)

pub returns-in_err-check_term : goal.returns-in_err-check_term
returns-in_err-check_term g c =
    let o = g.R.Ring.ops c.args.to.now.coeffs in
    let l = g.R.Ring.laws c.args.to.now.coeffs in
    let e = g.R.Ring.is_element c.args.to.now.coeffs in
    let high = g.R.Ring.too_high c.args.to.now.coeffs in
    let v = c.args.to.now.vars in
    let f = c.args.f.now in
    let images = c.args.images.now in
    let m = c.mono.result.now in
    let d = term_of m o.zero in
    let few : c.terms.k < length f = omega (arith, c.terms-test.true, c.len-k-end.ensures) in
    let p = err_from_is_err_and c.from_residual.result c.from_residual.ensures.1 in
    rw (p.1, p.2)
    (meet-weaker (λ x y. (u : g.row.R-Elem.Denot) → o.same u o.zero ≡ false → ProductsMeet o e high v (constant o u) (factors images m) x y) (SubstitutionMeets o e high v images f)
    (λ x y h. term-meets o l e high v c.args.from.now.vars images f c.terms.k m d few (rw c.requires.coeffs at c.requires.polynomial) (c.mono.ensures d) x y h)
    c.in_err-check_term.field-0.0 c.in_err-check_term.ensures)
