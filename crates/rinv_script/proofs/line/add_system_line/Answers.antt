use Rattle.std.proofs.Common.{sym, ◌∙◌}
use Rattle.std.proofs.lemmas.Result.{err_from_is_err_and}
use Rattle.rinv_system.specs.Texts.{IsLineRefused}
use Rattle.rinv_system.proofs.StopFacts.{OnCode-weaker}
use Rattle.rinv_script.specs.ScriptTexts.{IsScriptLineRefused}
use Rattle.rinv_script.proofs.Steps.{late-word, system-refused, system-taken}
use Rattle.rinv_script.proofs.line.add_system_line.Goals as goal

pub returns-then-has_script-clause-fault : goal.returns-then-has_script-clause-fault
returns-then-has_script-clause-fault c = late-word c.args.draft.now c.args.line.now c.requires.some c.requires.head (sym c.has_script.ensures ∙ c.if-has_script.true)

pub returns-in_err-add_system_line-clause-fault : goal.returns-in_err-add_system_line-clause-fault
returns-in_err-add_system_line-clause-fault c = let p = err_from_is_err_and c.from_residual.result c.from_residual.ensures.1 in rw (p.1, p.2)
    (OnCode-weaker (IsLineRefused c.args.draft.now.system c.args.line.now) (IsScriptLineRefused c.args.draft.now c.args.line.now)
    (system-refused c.args.draft.now c.args.line.now c.requires.some c.requires.head (sym c.has_script.ensures ∙ c.if-has_script.false))
    _ c.in_err-add_system_line.ensures.fault)

pub returns-clause-ok : goal.returns-clause-ok
returns-clause-ok c = system-taken c.args.draft.now c.args.line.now c.requires.some c.add_system_line.new.self (sym c.has_script.ensures ∙ c.if-has_script.false) c.in_ok-add_system_line.ensures.ok c.in_ok-add_system_line.ensures.taken
