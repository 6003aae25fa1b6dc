use Rattle.std.proofs.Common.{nat_lt}
use Rattle.std.proofs.lemmas.Result.{err_from_is_err_and}
use Rattle.rinv_algebra.specs.Residue.{residue_ops}
use Rattle.rinv_algebra.specs.Order.{grevlex}
use Rattle.rinv_algebra.specs.Polynomial.{poly_ops}
use Rattle.rinv_ring.specs.Fault.{DegreesMeet}
use Rattle.rinv_poly.specs.Faults.{polynomials_meet}
use Rattle.rinv_poly.proofs.Meets.{meet-weaker}
use Rattle.rinv_sub.specs.Refusal.{never}
use Rattle.rinv_div.specs.Stops.{StepsMeet}
use Rattle.rinv_rewrite.specs.Needed.{InZMeets}
use Rattle.rinv_rewrite.specs.Symbols.{is_symbolic}
use Rattle.rinv_rewrite.proofs.dividing.rest_in_z.Goals as goal

pub remainder_wholly-requires-clause-divisors : goal.remainder_wholly-requires-clause-divisors
remainder_wholly-requires-clause-divisors c = rw c.deref.ensures.value c.requires.divisors

pub returns-in_err-rest-clause-degree : goal.returns-in_err-rest-clause-degree
returns-in_err-rest-clause-degree c =
    let p = c.args.ring.now.coeffs.coeffs in
    let k = c.args.ring.now.coeffs.vars in
    let hs = c.args.basis.now.polys.items in
    let g = c.in_ok-dividend.dividend in
    let q = err_from_is_err_and c.from_residual-in_err-rest.result c.from_residual-in_err-rest.ensures.1 in
    let meets : DegreesMeet (StepsMeet (poly_ops (residue_ops p)) grevlex hs g (is_symbolic p k) (polynomials_meet (residue_ops p) (λ n. nat_lt n p) never)) c.in_err-rest.field-0.0 = rw c.deref.ensures.value at c.in_err-rest.ensures.degree in
    rw (q.1, q.2) (meet-weaker (StepsMeet (poly_ops (residue_ops p)) grevlex hs g (is_symbolic p k) (polynomials_meet (residue_ops p) (λ n. nat_lt n p) never)) (InZMeets p k hs c.args.f.now) (λ x y h. record { dividend = g; is_dividend = c.in_ok-dividend.ensures.value; meets = h }) c.in_err-rest.field-0.0 meets)
