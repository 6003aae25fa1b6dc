use Rattle.std.proofs.Common.{length, sym, ap, subst, IsTrue, ◌∙◌, arith}
use Rattle.std.specs.List.{list_all}
use Rattle.std.proofs.lemmas.Result.{err_from_is_err_and}
use Rattle.rinv_system.specs.Lines.{is_allowed}
use Rattle.rinv_system.proofs.StopFacts.{OnCode-weaker}
use Rattle.rinv_system.proofs.ShortFacts.{rest_of-short}
use Rattle.rinv_script.specs.Scripts.{ScriptDraft, IsScriptRestRefused}
use Rattle.rinv_script.specs.ScriptTexts.{IsScriptLineRefused}
use Rattle.rinv_script.proofs.RestFacts.{head-rest, rest-allowed}
use Rattle.rinv_script.proofs.Steps.{no-word, early-word, script-refused, script-taken}
use Rattle.rinv_script.proofs.line.add_script_line.Goals as goal

pub returns-in_default-clause-fault : goal.returns-in_default-clause-fault
returns-in_default-clause-fault c = no-word c.args.draft.now c.args.line.now c.requires.some c.requires.head _ (ap (λ (d : ScriptDraft). d.form) c.draft.view_is) c.in_default.ensures

pub returns-then-not-has_system-clause-fault : goal.returns-then-not-has_system-clause-fault
returns-then-not-has_system-clause-fault c =
    early-word c.args.draft.now c.args.line.now c.requires.some c.requires.head _ (ap (λ (d : ScriptDraft). d.form) c.draft.view_is) c.in-Some.word c.in-Some.rest.now c.in-Some.ensures (sym c.has_system.ensures ∙ c.if-not-has_system.true)

pub add_rest-requires-clause-short : goal.add_rest-requires-clause-short
add_rest-requires-clause-short c =
    let is = ap (λ bs. length bs) (head-rest _ c.args.line.now c.in-Some.rest.now c.in-Some.word c.in-Some.ensures) in
    omega (arith, is, rest_of-short c.args.line.now, c.requires.short)

pub add_rest-requires-clause-allowed : goal.add_rest-requires-clause-allowed
add_rest-requires-clause-allowed c =
    subst (λ bs. IsTrue (list_all is_allowed bs)) (sym (head-rest _ c.args.line.now c.in-Some.rest.now c.in-Some.word c.in-Some.ensures)) (rest-allowed c.args.line.now c.requires.allowed)

pub returns-in_err-add_rest-clause-fault : goal.returns-in_err-add_rest-clause-fault
returns-in_err-add_rest-clause-fault c = let p = err_from_is_err_and c.from_residual.result c.from_residual.ensures.1 in rw (p.1, p.2)
    (OnCode-weaker (IsScriptRestRefused c.args.draft.now c.in-Some.rest.now c.in-Some.word) (IsScriptLineRefused c.args.draft.now c.args.line.now)
    (script-refused c.args.draft.now c.args.line.now c.requires.some c.requires.head _ (ap (λ (d : ScriptDraft). d.form) c.draft.view_is) c.in-Some.word c.in-Some.rest.now c.in-Some.ensures (sym c.has_system.ensures ∙ c.if-not-has_system.false))
    _ c.in_err-add_rest.ensures.fault)

pub returns-clause-ok : goal.returns-clause-ok
returns-clause-ok c =
    script-taken c.args.draft.now c.args.line.now c.requires.some c.requires.head _ (ap (λ (d : ScriptDraft). d.form) c.draft.view_is) c.in-Some.word c.in-Some.rest.now c.in-Some.ensures (sym c.has_system.ensures ∙ c.if-not-has_system.false)
    _ c.in_ok-add_rest.ensures.ok
