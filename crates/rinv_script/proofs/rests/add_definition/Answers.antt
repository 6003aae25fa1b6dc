use Rattle.std.proofs.Common.{sym, ap, subst, IsTrue, ◌∙◌}
use Rattle.std.specs.List.{list_all}
use Rattle.std.proofs.lemmas.Result.{err_from_is_err_and}
use Rattle.rinv_system.specs.Lines.{is_allowed}
use Rattle.rinv_system.specs.Entries.{is_name_word}
use Rattle.rinv_system.proofs.StopFacts.{OnCode-weaker}
use Rattle.rinv_script.specs.declared.words.ScriptWord.TheVariants.{Def}
use Rattle.rinv_script.specs.Scripts.{name_fault, IsScriptRestRefused}
use Rattle.rinv_script.specs.Kept.{IsValueRefused}
use Rattle.rinv_script.proofs.RestFacts.{name-allowed, value-allowed}
use Rattle.rinv_script.proofs.Steps.{no-equals, no-name, definition-refused, definition-taken}
use Rattle.rinv_script.proofs.rests.add_definition.Goals as goal

pub returns-in_default-clause-fault : goal.returns-in_default-clause-fault
returns-in_default-clause-fault c = rw c.no_expression.ensures (no-equals c.args.draft.now c.args.rest.now c.in_default.ensures.sign)

pub returns-then-not-is_name_word-clause-fault : goal.returns-then-not-is_name_word-clause-fault
returns-then-not-is_name_word-clause-fault c = rw c.no_expression-then-not-is_name_word.ensures (no-name c.args.draft.now c.args.rest.now c.in-Some.name.now c.in-Some.ensures.parts.0 (sym c.is_name_word.ensures ∙ c.if-not-is_name_word.true))

pub ascii_text-requires : goal.ascii_text-requires
ascii_text-requires c = subst (λ bs. IsTrue (list_all is_allowed bs)) (sym c.in-Some.ensures.parts.0) (name-allowed c.args.rest.now c.requires.allowed)

pub ascii_text-requires-2 : goal.ascii_text-requires-2
ascii_text-requires-2 c = subst (λ bs. IsTrue (list_all is_allowed bs)) (sym c.in-Some.ensures.parts.1) (value-allowed c.args.rest.now c.requires.allowed)

pub returns-in_err-add_value-clause-fault : goal.returns-in_err-add_value-clause-fault
returns-in_err-add_value-clause-fault c = let p = err_from_is_err_and c.from_residual.result c.from_residual.ensures.1 in rw (p.1, p.2)
    (OnCode-weaker (IsValueRefused c.args.draft.now c.ascii_text-2.result.now (name_fault c.args.draft.now c.ascii_text.result.now)) (IsScriptRestRefused c.args.draft.now c.args.rest.now Def)
    (definition-refused c.args.draft.now c.args.rest.now c.ascii_text.result.now c.ascii_text-2.result.now (c.ascii_text.ensures ∙ c.in-Some.ensures.parts.0) (c.ascii_text-2.ensures ∙ c.in-Some.ensures.parts.1) c.in-Some.ensures.sign
    (ap is_name_word c.ascii_text.ensures ∙ sym c.is_name_word.ensures ∙ c.if-not-is_name_word.false))
    _ c.in_err-add_value.ensures.fault)

pub returns-clause-ok : goal.returns-clause-ok
returns-clause-ok c =
    definition-taken c.args.draft.now c.args.rest.now c.ascii_text.result.now c.ascii_text-2.result.now (c.ascii_text.ensures ∙ c.in-Some.ensures.parts.0) (c.ascii_text-2.ensures ∙ c.in-Some.ensures.parts.1) c.in-Some.ensures.sign
    (ap is_name_word c.ascii_text.ensures ∙ sym c.is_name_word.ensures ∙ c.if-not-is_name_word.false)
    _ c.in_ok-add_value.ensures.ok
