use Rattle.std.proofs.Common.{◌≡◌, [], ◌∷◌, true, get_or, nat_lt, arith, inl, inr, subst₂}
use Rattle.std.proofs.lemmas.Result.{err_from_is_err_and}
use Rattle.rinv_algebra.specs.Ring.{IsSame}
use Rattle.rinv_algebra.specs.Residue.{residue_ops}
use Rattle.rinv_algebra.specs.Polynomial.{poly_ops}
use Rattle.rinv_algebra.specs.Leading.{multiplier, s_polynomial}
use Rattle.rinv_algebra.specs.Fits.{product_fits}
use Rattle.rinv_ring.specs.Fault.{DegreesMeet}
use Rattle.rinv_poly.proofs.Meets.{meet-weaker}
use Rattle.rinv_buch.proofs.PairDivision.{element-at, nonzero-at}
use Rattle.rinv_defs.specs.System.{Poly}
use Rattle.rinv_recording.specs.Recorded.{MultipleMeets, MultiplesMeet}
use Rattle.rinv_recording.proofs.DividedPairs.{s-meets}
use Rattle.rinv_recording.proofs.dividing.s_polynomial_at.Goals as goal

pub check_multiple-requires-clause-first_nonzero : goal.check_multiple-requires-clause-first_nonzero
check_multiple-requires-clause-first_nonzero g c =
    let p = c.args.ring.now.coeffs in
    nonzero-at (residue_ops p) (g.O.MonoOrder.cmp c.args.order.now) (λ n. nat_lt n p) c.args.ring.now.vars c.args.polys.now c.args.divisors.now.list.items c.requires.divisors c.args.first c.index-polys-first.result (omega (arith, c.requires.ascending, c.requires.inside)) c.index-polys-first.is

pub check_multiple-requires-clause-second_nonzero : goal.check_multiple-requires-clause-second_nonzero
check_multiple-requires-clause-second_nonzero g c =
    let p = c.args.ring.now.coeffs in
    nonzero-at (residue_ops p) (g.O.MonoOrder.cmp c.args.order.now) (λ n. nat_lt n p) c.args.ring.now.vars c.args.polys.now c.args.divisors.now.list.items c.requires.divisors c.args.second c.index-polys-second.result c.requires.inside c.index-polys-second.is

pub check_multiple-requires-2-clause-first_nonzero : goal.check_multiple-requires-2-clause-first_nonzero
check_multiple-requires-2-clause-first_nonzero g c =
    let p = c.args.ring.now.coeffs in
    nonzero-at (residue_ops p) (g.O.MonoOrder.cmp c.args.order.now) (λ n. nat_lt n p) c.args.ring.now.vars c.args.polys.now c.args.divisors.now.list.items c.requires.divisors c.args.second c.index-polys-second.result c.requires.inside c.index-polys-second.is

pub check_multiple-requires-2-clause-second_nonzero : goal.check_multiple-requires-2-clause-second_nonzero
check_multiple-requires-2-clause-second_nonzero g c =
    let p = c.args.ring.now.coeffs in
    nonzero-at (residue_ops p) (g.O.MonoOrder.cmp c.args.order.now) (λ n. nat_lt n p) c.args.ring.now.vars c.args.polys.now c.args.divisors.now.list.items c.requires.divisors c.args.first c.index-polys-first.result (omega (arith, c.requires.ascending, c.requires.inside)) c.index-polys-first.is

pub s_polynomial_of-requires-clause-first_nonzero : goal.s_polynomial_of-requires-clause-first_nonzero
s_polynomial_of-requires-clause-first_nonzero g c =
    let p = c.args.ring.now.coeffs in
    nonzero-at (residue_ops p) (g.O.MonoOrder.cmp c.args.order.now) (λ n. nat_lt n p) c.args.ring.now.vars c.args.polys.now c.args.divisors.now.list.items c.requires.divisors c.args.first c.index-polys-first.result (omega (arith, c.requires.ascending, c.requires.inside)) c.index-polys-first.is

pub s_polynomial_of-requires-clause-second_nonzero : goal.s_polynomial_of-requires-clause-second_nonzero
s_polynomial_of-requires-clause-second_nonzero g c =
    let p = c.args.ring.now.coeffs in
    nonzero-at (residue_ops p) (g.O.MonoOrder.cmp c.args.order.now) (λ n. nat_lt n p) c.args.ring.now.vars c.args.polys.now c.args.divisors.now.list.items c.requires.divisors c.args.second c.index-polys-second.result c.requires.inside c.index-polys-second.is

pub returns-in_err-check_multiple-clause-degree : goal.returns-in_err-check_multiple-clause-degree
returns-in_err-check_multiple-clause-degree g c =
    let p = c.args.ring.now.coeffs in
    let cmp = g.O.MonoOrder.cmp c.args.order.now in
    let hs = c.args.polys.now in
    let i = c.args.first in
    let j = c.args.second in
    let fault = c.in_err-check_multiple.field-0.0 in
    let first = element-at hs i c.index-polys-first.result (omega (arith, c.requires.ascending, c.requires.inside)) c.index-polys-first.is in
    let second = element-at hs j c.index-polys-second.result c.requires.inside c.index-polys-second.is in
    let meets = subst₂ (λ (f h : Poly). DegreesMeet (MultipleMeets p cmp f h) fault) first second c.in_err-check_multiple.ensures.degree in
    let q = err_from_is_err_and c.from_residual.result c.from_residual.ensures.1 in
    rw (q.1, q.2) (meet-weaker (MultipleMeets p cmp (get_or hs i []) (get_or hs j [])) (MultiplesMeet p cmp hs i j) (λ x y h. inl h) fault meets)

pub returns-in_err-check_multiple-2-clause-degree : goal.returns-in_err-check_multiple-2-clause-degree
returns-in_err-check_multiple-2-clause-degree g c =
    let p = c.args.ring.now.coeffs in
    let cmp = g.O.MonoOrder.cmp c.args.order.now in
    let hs = c.args.polys.now in
    let i = c.args.first in
    let j = c.args.second in
    let fault = c.in_err-check_multiple-2.field-0.0 in
    let first = element-at hs i c.index-polys-first.result (omega (arith, c.requires.ascending, c.requires.inside)) c.index-polys-first.is in
    let second = element-at hs j c.index-polys-second.result c.requires.inside c.index-polys-second.is in
    let meets = subst₂ (λ (f h : Poly). DegreesMeet (MultipleMeets p cmp h f) fault) first second c.in_err-check_multiple-2.ensures.degree in
    let q = err_from_is_err_and c.from_residual-in_err-check_multiple-2.result c.from_residual-in_err-check_multiple-2.ensures.1 in
    rw (q.1, q.2) (meet-weaker (MultipleMeets p cmp (get_or hs j []) (get_or hs i [])) (MultiplesMeet p cmp hs i j) (λ x y h. inr h) fault meets)

pub returns-in_err-s-clause-degree : goal.returns-in_err-s-clause-degree
returns-in_err-s-clause-degree g c =
    let hs = c.args.polys.now in
    let i = c.args.first in
    let j = c.args.second in
    let first = element-at hs i c.index-polys-first.result (omega (arith, c.requires.ascending, c.requires.inside)) c.index-polys-first.is in
    let second = element-at hs j c.index-polys-second.result c.requires.inside c.index-polys-second.is in
    let q = err_from_is_err_and c.from_residual-in_err-s.result c.from_residual-in_err-s.ensures.1 in
    rw (q.1, q.2) (s-meets c.args.ring.now.coeffs c.args.ring.now.vars (g.O.MonoOrder.cmp c.args.order.now) hs i j c.index-polys-first.result c.index-polys-second.result first second c.in_err-s.field-0.0 c.in_err-s.ensures.degree)

pub returns-clause-value : goal.returns-clause-value
returns-clause-value g c =
    let o = residue_ops c.args.ring.now.coeffs in
    let hs = c.args.polys.now in
    let first = element-at hs c.args.first c.index-polys-first.result (omega (arith, c.requires.ascending, c.requires.inside)) c.index-polys-first.is in
    let second = element-at hs c.args.second c.index-polys-second.result c.requires.inside c.index-polys-second.is in
    subst₂ (λ (x y : Poly). IsSame (poly_ops o) c.in_ok-s.s (s_polynomial o (g.O.MonoOrder.cmp c.args.order.now) x y)) first second c.in_ok-s.ensures.value

pub returns-clause-fits : goal.returns-clause-fits
returns-clause-fits g c =
    let o = residue_ops c.args.ring.now.coeffs in
    let cmp = g.O.MonoOrder.cmp c.args.order.now in
    let hs = c.args.polys.now in
    let first = element-at hs c.args.first c.index-polys-first.result (omega (arith, c.requires.ascending, c.requires.inside)) c.index-polys-first.is in
    let second = element-at hs c.args.second c.index-polys-second.result c.requires.inside c.index-polys-second.is in
    record {
      first = subst₂ (λ (f h : Poly). product_fits o (multiplier o cmp f h ∷ []) f ≡ true) first second c.in_ok-check_multiple.ensures.fits;
      second = subst₂ (λ (f h : Poly). product_fits o (multiplier o cmp h f ∷ []) h ≡ true) first second c.in_ok-check_multiple-2.ensures.fits;
    }
