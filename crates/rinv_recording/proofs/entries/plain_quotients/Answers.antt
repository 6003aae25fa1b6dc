use Rattle.std.proofs.Common.{◌∙◌, List, length, ap, refl, take}
use Rattle.std.proofs.lemmas.Result.{err_from_is_err_and}
use Rattle.rinv_defs.specs.System.{Poly}
use Rattle.rinv_recording.proofs.EntryItems.{settle-quotients, settle-quotients-meet, settle-sums-meet}
use Rattle.rinv_recording.proofs.entries.plain_quotients.Goals as goal

pub returns-in_err-q : goal.returns-in_err-q
returns-in_err-q c s set =
    let polys = c.args.polys.now in
    let q = err_from_is_err_and c.from_residual.result c.from_residual.ensures.1 in
    rw (q.1, q.2) (settle-quotients-meet s c.args.ring.now.coeffs c.args.ring.now.vars c.args.order.now set (take c.args.made polys) polys c.args.entry.now.first c.args.entry.now.second c.in_err-q.field-0.0 c.in_err-q.ensures.degree)

pub check_sums-requires-clause-many : goal.check_sums-requires-clause-many
check_sums-requires-clause-many c = ap (λ (fs : List Poly). length fs) c.deref.ensures.value ∙ c.in_ok-q.ensures.number

pub returns-in_err-check_sums : goal.returns-in_err-check_sums
returns-in_err-check_sums c s set =
    let polys = c.args.polys.now in
    let r = err_from_is_err_and c.from_residual-in_err-check_sums.result c.from_residual-in_err-check_sums.ensures.1 in
    rw (r.1, r.2) (settle-sums-meet s c.args.ring.now.coeffs c.args.ring.now.vars c.args.order.now set (take c.args.made polys) polys c.args.entry.now.first c.args.entry.now.second (length polys) refl c.args.added c.in_ok-q.q.items c.in_ok-q.ensures.again
    c.in_err-check_sums.field-0.0 (rw c.deref.ensures.value at c.in_err-check_sums.ensures.degree))

pub returns : goal.returns
returns c s set =
    let polys = c.args.polys.now in
    rw (c.in_ok-list.ensures, c.deref-2.ensures.value) (settle-quotients s c.args.ring.now.coeffs c.args.ring.now.vars c.args.order.now set (take c.args.made polys) polys c.args.entry.now.first c.args.entry.now.second (length polys) refl c.args.added c.in_ok-q.q.items c.in_ok-q.ensures.again
    (rw c.deref.ensures.value at c.in_ok-check_sums.ensures.fits))
