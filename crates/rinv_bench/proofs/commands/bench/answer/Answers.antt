use Rattle.std.proofs.Common.{◌<◌, ◌-◌, ◌^◌, List, ℕ, length, sym, subst, ◌∙◌}
use Rattle.rinv_answers.specs.Told.{AnswersTold}
use Rattle.rinv_script.specs.declared.form.Form.TheVariants.{Whole}
use Rattle.rinv_script.specs.ScriptTexts.{IsScriptText, IsRefusedScript}
use Rattle.rinv_queries.proofs.Limits.{script-limited}
use Rattle.rinv_workload.proofs.Sizes.{text-short}
use Rattle.rinv_bench.proofs.commands.bench.answer.Goals as goal

pub read_script-requires : goal.read_script-requires
read_script-requires c = subst (λ (t : List ℕ). length t < 2 ^ 32 - 1) (sym (c.as_slice.ensures.value ∙ c.in_ok-text.ensures)) (text-short c.args.k c.requires.1)

pub settled-requires-clause-limits : goal.settled-requires-clause-limits
settled-requires-clause-limits c = script-limited _ _ _ c.in-Ok.ensures.ok

pub returns : goal.returns
returns c = AnswersTold.answered c.in-Ok.script (subst (λ (t : List ℕ). IsScriptText Whole t c.in-Ok.script) (c.as_slice.ensures.value ∙ c.in_ok-text.ensures) c.in-Ok.ensures.ok) c.in_ok-answer.ensures

pub returns-in-Err-Refused : goal.returns-in-Err-Refused
returns-in-Err-Refused c = AnswersTold.refused c.in-Err-Refused.refused
    (subst (λ (t : List ℕ). IsRefusedScript Whole t c.in-Err-Refused.refused) (c.as_slice.ensures.value ∙ c.in_ok-text.ensures) (rw c.in-Err-Refused.field-0-is at c.in-Err-Refused.ensures.fault)) c.in_ok-line-in-Err-Refused.ensures
