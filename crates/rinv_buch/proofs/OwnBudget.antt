-- A division with a budget of its own, whose steps are then counted in that of the run.
use Rattle.std.proofs.Common.{◌≡◌, ℕ, ◌-◌, ◌<◌, ◌≤◌, ◌^◌, false, arith, sym, ◌∙◌}
use Rattle.rinv_groebner.specs.Journal.{kept_steps}
use Rattle.rinv_div.specs.Budgets.{KeepsOthers, Spends}
use Rattle.rinv_div.specs.declared.budget.Budget.{Budget}

-- the count of a budget of its own
pub own-count : (n : ℕ) (own spent : Budget) → own.steps_spent ≡ 0 → Spends n own spent → spent.steps_spent ≡ kept_steps n
own-count n own spent fresh s = let e = s.steps_spent in omega (arith, fresh, e)

-- own is what is left of the budget before, spent is own after the division, and after has the steps counted
pub record IsOwn (before own spent after : Budget) : Type 0 where
  pub kept : before.endless ≡ false → before.steps_spent ≤ before.steps
  pub limit : before.steps < 2 ^ 64
  pub steps : own.steps ≡ before.steps - before.steps_spent
  pub fresh : own.steps_spent ≡ 0
  pub endless : own.endless ≡ before.endless
  pub others : KeepsOthers own spent
  pub counted : Spends spent.steps_spent before after

module _ (before own spent after : Budget) (h : IsOwn before own spent after) where
  pub run-spends : (n : ℕ) → Spends n own spent → Spends n before after
  run-spends n s =
      let e = own-count n own spent h.fresh s in
      let f = h.counted.steps_spent in
      record { steps_spent = omega (arith, e, f); others = h.counted.others }

  pub same-endless : after.endless ≡ spent.endless
  same-endless = h.counted.others.endless ∙ sym h.endless ∙ sym h.others.endless

  pub run-spent : spent.endless ≡ false → spent.steps_spent ≡ spent.steps → after.steps_spent ≡ after.steps
  run-spent e all =
      let kept = h.kept (sym h.endless ∙ sym h.others.endless ∙ e) in
      let f = h.counted.steps_spent in
      omega (arith, kept, f, all, h.limit, h.steps, h.others.steps, h.counted.others.steps)

  pub run-left : (spent.endless ≡ false → spent.steps_spent < spent.steps) → after.endless ≡ false → after.steps_spent < after.steps
  run-left left e =
      let some = left (sym same-endless ∙ e) in
      let f = h.counted.steps_spent in
      omega (arith, some, f, h.steps, h.others.steps, h.counted.others.steps)
