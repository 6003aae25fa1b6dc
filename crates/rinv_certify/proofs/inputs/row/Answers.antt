use Rattle.std.proofs.Common.{refl, arith}
use Rattle.rinv_acceptance.specs.Inputs.{stored_one, unit_row}
use Rattle.rinv_certify.proofs.Rows.{entry-at, row-length}
use Rattle.rinv_certify.proofs.Taken.{one-more}
use Rattle.rinv_certify.proofs.inputs.row.Goals as goal

pub places-preserved : goal.places-preserved
places-preserved c =
    let s = c.args.system.now.system in
    let x = c.in_ok-polynomial.polynomial in
    let long = row-length s c.args.count c.args.place in
    rw c.in_ok-push.ensures.items (one-more (unit_row s c.args.count c.args.place) c.places.list.items c.places.k x x (omega (arith, long, c.places-test.true))
    (entry-at (stored_one s) c.args.count c.places.k c.args.place x c.places-test.true c.in_ok-polynomial.ensures) refl c.places.invariant)
