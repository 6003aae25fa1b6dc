use Rattle.std.proofs.Common.{sym, ◌∙◌}
use Rattle.rinv_form.proofs.StoredLists.{each_stored-step, each_stored-stop, each_stored-end}
use Rattle.rinv_form.proofs.form.each.Goals as goal

pub returns-in-None : goal.returns-in-None
returns-in-None g c =
    sym (sym c.loop-item.invariant ∙ each_stored-stop (g.F.Form.stores c.args.form.now) _ _ _ _ c.loop-item-test.true c.item-item.is (sym c.in-None.is ∙ c.in_ok-stored.ensures))

pub loop-item-preserved : goal.loop-item-preserved
loop-item-preserved g c =
    rw c.in_ok-push-in-Some.ensures.items
    (each_stored-step (g.F.Form.stores c.args.form.now) _ _ _ _ _ c.loop-item-test.true c.item-item.is (sym c.in-Some.is ∙ c.in_ok-stored.ensures) ∙ c.loop-item.invariant)

pub returns : goal.returns
returns g c = sym (sym c.loop-item.invariant ∙ each_stored-end (g.F.Form.stores c.args.form.now) _ _ _ c.loop-item-test.false)
