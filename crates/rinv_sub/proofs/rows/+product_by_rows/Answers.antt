use Rattle.std.proofs.Common.{sym, ◌∙◌}
use Rattle.rinv_sub.proofs.Halves.{no-item, two-parts, rows-none, rows-halves}
use Rattle.rinv_sub.proofs.rows.+product_by_rows.Goals as goal

pub returns-then-is_empty-clause-value : goal.returns-then-is_empty-clause-value
returns-then-is_empty-clause-value g t c =
    rows-none (g.R.Ring.ops c.args.ring.now.coeffs) (g.R.Ring.laws c.args.ring.now.coeffs) c.args.f.now c.args.terms.now c.in_ok-zero.zero
    (no-item c.args.terms.now (sym c.is_empty.ensures ∙ c.if-is_empty.true)) c.in_ok-zero.ensures.value

pub returns-clause-value : goal.returns-clause-value
returns-clause-value g t c =
    rows-halves (g.R.Ring.ops c.args.ring.now.coeffs) (g.R.Ring.laws c.args.ring.now.coeffs) c.args.f.now _ _ c.args.terms.now c.in_ok-lower.lower c.in_ok-upper.upper c.in_ok-sum.sum
    (two-parts c.args.terms.now _) c.in_ok-lower.ensures.value c.in_ok-upper.ensures.value c.in_ok-sum.ensures.value
