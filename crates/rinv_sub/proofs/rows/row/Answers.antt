use Rattle.std.proofs.Common.{[], ◌∷◌}
use Rattle.rinv_sub.proofs.Halves.{row-turned}
use Rattle.rinv_sub.proofs.rows.row.Goals as goal

pub returns-clause-value : goal.returns-clause-value
returns-clause-value g c =
    row-turned (g.R.Ring.ops c.args.ring.now.coeffs) (g.R.Ring.laws c.args.ring.now.coeffs) c.args.f.now c.in_ok-term.term ((c.args.mono.now, c.args.c.now) ∷ []) c.in_ok-row.row
    (rw (c.in_ok-push.ensures.items, c.new-terms.ensures.items, c.in_ok-copy-2.ensures, c.in_ok-copy.ensures) at c.in_ok-term.ensures.value) c.in_ok-row.ensures.value
