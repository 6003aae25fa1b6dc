use Rattle.std.proofs.Common.{sym, ap, subst, ◌∙◌}
use Rattle.rinv_text.specs.Faults.{OnFault}
use Rattle.rinv_text.specs.Stops.{IsRefusedFraction}
use Rattle.rinv_system.specs.declared.refused.Code.TheVariants.{Text}
use Rattle.rinv_system.specs.Drafts.{modulus, space_names}
use Rattle.rinv_script.specs.Scripts.{ScriptDraft, IsRefusedInTurn}
use Rattle.rinv_script.specs.Kept.{IsValueRefused}
use Rattle.rinv_script.proofs.FaultFacts.{value-refused}
use Rattle.rinv_script.proofs.Steps.{fault-as}
use Rattle.rinv_script.proofs.draft.ScriptDraft.fraction.Goals as goal

pub returns-in-Some-clause-fault : goal.returns-in-Some-clause-fault
returns-in-Some-clause-fault c = IsRefusedInTurn.by_code (c.in-Ok.ensures.value.tree, c.in-Ok.ensures.value.derived) c.in-Some.is

pub returns-in-Err-Fault-clause-fault : goal.returns-in-Err-Fault-clause-fault
returns-in-Err-Fault-clause-fault c =
    subst (λ k. IsValueRefused c.args.self.now c.args.text.now c.args.next (Text k)) (sym c.code_behind-code.ensures)
    (value-refused c.args.self.now c.args.text.now c.args.next _
    (fault-as c.args.self.now c.args.text.now _ _ _ _
    (ap (λ b. b.coeffs) c.new-field.ensures ∙ c.new.ensures.ring ∙ c.field.ensures ∙ ap (λ (d : ScriptDraft). modulus d.system) c.self.view_is)
    (c.space-names.ensures ∙ ap (λ (d : ScriptDraft). space_names d.system) c.self.view_is)
    (ap (λ (d : ScriptDraft). d.defs) c.self.view_is)
    (subst (OnFault (IsRefusedFraction _ _ _ _)) c.in-Err-Fault.field-0-is c.in-Err-Fault.ensures.fault)))
