use Rattle.std.proofs.Common.{sym, ◌∙◌, arith}
use Rattle.rinv_modulo.proofs.Halves.{no-item, two-parts, one-item}
use Rattle.rinv_modulo.proofs.TermValues.{values-none, values-one, values-halves}
use Rattle.rinv_modulo.proofs.values.+value_modulo.Goals as goal

pub returns-then-is_empty : goal.returns-then-is_empty
returns-then-is_empty t c =
    values-none c.args.ring.now.coeffs c.args.ring.now.vars c.args.basis.now c.args.images.now c.args.terms.now c.in_ok-zero.zero
    (no-item c.args.terms.now (sym c.is_empty.ensures ∙ c.if-is_empty.true)) c.in_ok-zero.ensures.element c.in_ok-zero.ensures.value

pub returns-then-terms-eq1 : goal.returns-then-terms-eq1
returns-then-terms-eq1 t c =
    values-one c.args.ring.now.coeffs c.args.ring.now.vars c.args.basis.now c.args.images.now c.args.terms.now c.index-terms-0.result c.in_ok-value.value
    (one-item c.args.terms.now c.index-terms-0.result (omega (arith, c.if-terms-eq1.true)) c.index-terms-0.is) c.in_ok-value.ensures

pub returns : goal.returns
returns t c =
    values-halves c.args.ring.now.coeffs c.args.ring.now.vars c.args.basis.now c.args.images.now _ _ c.args.terms.now c.in_ok-lower.lower c.in_ok-upper.upper c.in_ok-sum.sum
    (two-parts c.args.terms.now _) c.in_ok-lower.ensures c.in_ok-upper.ensures c.in_ok-sum.ensures.element c.in_ok-sum.ensures.value
