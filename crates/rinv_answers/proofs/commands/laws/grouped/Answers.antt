use Rattle.std.proofs.Common.{◌≡◌, ◌∙◌, inl, inr, ℕ, List, ap, subst}
use Rattle.rinv_text.specs.Told.{Told}
use Rattle.rinv_div.specs.declared.budget.Budget.{Budget}
use Rattle.rinv_buch.specs.declared.kinds.Why.{Why}
use Rattle.rinv_buch.specs.Kinds.{Halted}
use Rattle.rinv_buch.specs.Spent.{IsKept}
use Rattle.rinv_laws.specs.Group.{HaltsInGroup}
use Rattle.rinv_answers.specs.declared.incomplete.Phase.TheVariants as phase
use Rattle.rinv_answers.specs.declared.incomplete.Cause.{Cause}
use Rattle.rinv_answers.specs.Budgets.{budget_of, IsWithin, IsLimited}
use Rattle.rinv_answers.specs.Incomplete.{cause_of, incomplete_line}
use Rattle.rinv_answers.specs.Commands.Laws.{IsCut}
use Rattle.rinv_answers.proofs.TextLimits.{spent-within}
use Rattle.rinv_answers.proofs.commands.laws.grouped.Goals as goal

-- a halt of the run on the group's ideal is within the budget
halt-within : (told : Told) (before after : Budget) (h : Halted ℕ) → IsLimited told → before ≡ budget_of told → HaltsInGroup told.system before after h → IsKept after → IsWithin told h.journal
halt-within told before after h low fresh (inl run) kept = spent-within told h.journal run.taken before after low fresh run.spent kept
halt-within told before after h low fresh (inr reducing) kept = spent-within told h.journal 0 before after low fresh reducing.spent kept

halted : (told : Told) (before after : Budget) (h : Halted ℕ) (text : List ℕ) (why : Why) (cause : Cause) → IsLimited told → before ≡ budget_of told → HaltsInGroup told.system before after h → IsKept after
    → why ≡ h.why → cause ≡ cause_of told why → text ≡ incomplete_line phase.Group cause → IsCut told text
halted told before after h text why cause low fresh halts kept is cause_is printed =
    IsCut.in_group after h (subst (λ (b : Budget). HaltsInGroup told.system b after h) fresh halts) (halt-within told before after h low fresh halts kept)
    (printed ∙ ap (incomplete_line phase.Group) (cause_is ∙ ap (cause_of told) is))

pub returns-in-Ok-clause-within : goal.returns-in-Ok-clause-within
returns-in-Ok-clause-within c = spent-within c.args.system.now c.in-Ok.group.basis.journal 0 c.budget_of-budget.result c.group_basis.new.budget c.requires.limits c.budget_of-budget.ensures c.in-Ok.ensures.spent c.in-Ok.ensures.still_within

pub returns-in_ok-text-in-Err-Incomplete-clause-stop : goal.returns-in_ok-text-in-Err-Incomplete-clause-stop
returns-in_ok-text-in-Err-Incomplete-clause-stop c =
    halted c.args.system.now c.budget_of-budget.result c.group_basis.new.budget c.in-Err-Incomplete.halt c.in_ok-text-in-Err-Incomplete.text.items c.halt.inside.why c.cause_of-cause.result
    c.requires.limits c.budget_of-budget.ensures (rw c.in-Err-Incomplete.field-0-is at c.in-Err-Incomplete.ensures.stop) c.in-Err-Incomplete.ensures.still_within
    (ap (λ (h : Halted ℕ). h.why) c.halt.view_is) c.cause_of-cause.ensures c.in_ok-text-in-Err-Incomplete.ensures
