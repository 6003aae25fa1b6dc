use Rattle.std.proofs.Common.{sym, ◌∙◌, arith}
use Rattle.rinv_sub.proofs.Halves.{no-item, two-parts, one-item, values-none, values-one, values-halves}
use Rattle.rinv_sub.proofs.substitution.+value_by_halves.Goals as goal

pub returns-then-is_empty-clause-value : goal.returns-then-is_empty-clause-value
returns-then-is_empty-clause-value g t c =
    values-none (g.R.Ring.ops c.args.to.now.coeffs) (g.R.Ring.laws c.args.to.now.coeffs) c.args.images.now c.args.terms.now c.in_ok-zero.zero
    (no-item c.args.terms.now (sym c.is_empty.ensures ∙ c.if-is_empty.true)) c.in_ok-zero.ensures.value

pub returns-then-terms-eq1-clause-value : goal.returns-then-terms-eq1-clause-value
returns-then-terms-eq1-clause-value g t c =
    values-one (g.R.Ring.ops c.args.to.now.coeffs) (g.R.Ring.laws c.args.to.now.coeffs) c.args.images.now c.args.terms.now c.index-terms-0.result c.in_ok-value.value
    (one-item c.args.terms.now c.index-terms-0.result (omega (arith, c.if-terms-eq1.true)) c.index-terms-0.is) c.in_ok-value.ensures.value

pub returns-clause-value : goal.returns-clause-value
returns-clause-value g t c =
    values-halves (g.R.Ring.ops c.args.to.now.coeffs) (g.R.Ring.laws c.args.to.now.coeffs) c.args.images.now _ _ c.args.terms.now c.in_ok-lower.lower c.in_ok-upper.upper c.in_ok-sum.sum
    (two-parts c.args.terms.now _) c.in_ok-lower.ensures.value c.in_ok-upper.ensures.value c.in_ok-sum.ensures.value
