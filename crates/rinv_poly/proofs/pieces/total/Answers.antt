use Rattle.std.proofs.Common.{◌++◌}
use Rattle.rinv_poly.proofs.Gather.{same-then, append-same_right}
use Rattle.rinv_poly.proofs.pieces.total.Goals as goal

pub returns-clause-value : goal.returns-clause-value
returns-clause-value g c =
    let o = g.R.Ring.ops c.args.coeffs.now in
    let l = g.R.Ring.laws c.args.coeffs.now in
    let sum = c.args.sum.items in
    let terms = c.in_ok-terms.terms.items in
    let piece = c.args.piece.items in
    same-then o l c.in_ok-total.total.items (sum ++ terms) (sum ++ piece) (rw (c.deref.ensures.value, c.deref-2.ensures.value) at c.in_ok-total.ensures.value) (append-same_right o l sum terms piece c.in_ok-terms.ensures.value)
