use Rattle.std.proofs.Common.{◌∙◌, sym, true≢false}
use Rattle.rinv_div.proofs.Halts.{degree-meets}
use Rattle.rinv_div.proofs.remainder.remainder_wholly.Goals as goal

pub unreachable-requires : goal.unreachable-requires
unreachable-requires g c =
    let stop = rw c.in-Err-Steps.field-0-is at c.in-Err-Steps.ensures.stop in
    true≢false (sym c.without_end-endless.ensures ∙ sym c.remainder_by.ensures.budget.endless ∙ stop.endless)

pub returns-in-Err-Degree-clause-degree : goal.returns-in-Err-Degree-clause-degree
returns-in-Err-Degree-clause-degree g c =
    degree-meets (g.R.Ring.ops c.args.ring.now.coeffs) (g.O.MonoOrder.cmp c.args.order.now) c.args.basis.now c.args.f.now (g.R.Ring.is_element c.args.ring.now.coeffs) (g.R.Ring.too_high c.args.ring.now.coeffs) _ _ _ _ _ (rw c.in-Err-Degree.field-0-is at c.in-Err-Degree.ensures.stop)
