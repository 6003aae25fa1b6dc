use Rattle.std.proofs.Common.{inl}
use Rattle.std.proofs.lemmas.Result.{err_from_is_err_and}
use Rattle.rinv_poly.proofs.Meets.{meet-weaker}
use Rattle.rinv_recording.specs.Recorded.{MultiplesMeet, QuotientsMeet}
use Rattle.rinv_recording.proofs.DividedPairs.{quotients-are, steps-meet}
use Rattle.rinv_recording.proofs.dividing.quotients_at.Goals as goal

pub returns-in_err-s-clause-degree : goal.returns-in_err-s-clause-degree
returns-in_err-s-clause-degree g c =
    let p = c.args.ring.now.coeffs in
    let cmp = g.O.MonoOrder.cmp c.args.order.now in
    let q = err_from_is_err_and c.from_residual.result c.from_residual.ensures.1 in
    rw (q.1, q.2) (meet-weaker (MultiplesMeet p cmp c.args.polys.now c.args.first c.args.second) (QuotientsMeet p cmp c.args.polys.now c.args.first c.args.second) (λ x y h. inl h) c.in_err-s.field-0.0 c.in_err-s.ensures.degree)

pub returns-in_err-division-clause-degree : goal.returns-in_err-division-clause-degree
returns-in_err-division-clause-degree g c =
    let q = err_from_is_err_and c.from_residual-in_err-division.result c.from_residual-in_err-division.ensures.1 in
    rw (q.1, q.2) (steps-meet c.args.ring.now.coeffs c.args.ring.now.vars (g.O.MonoOrder.cmp c.args.order.now) c.args.polys.now c.args.first c.args.second c.in_ok-s.s c.in_ok-s.ensures.value c.in_err-division.field-0.0 c.in_err-division.ensures.degree)

pub returns-clause-quotients : goal.returns-clause-quotients
returns-clause-quotients g c =
    let division = c.in_ok-division.division in
    quotients-are c.args.ring.now.coeffs c.args.ring.now.vars (g.O.MonoOrder.cmp c.args.order.now) c.args.polys.now c.args.first c.args.second c.in_ok-s.s c.in_ok-s.ensures.value division.quotients.items division.rest c.in_ok-division.ensures.division c.in_ok-division.ensures.quotients
