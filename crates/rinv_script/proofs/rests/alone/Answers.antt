use Rattle.std.proofs.Common.{sym, ◌∙◌}
use Rattle.rinv_system.proofs.LineSteps.{is_nil, not_nil}
use Rattle.rinv_script.specs.Scripts.{IsRefusedInTurn, IsScriptRestRefused, IsScriptRestTaken}
use Rattle.rinv_script.proofs.rests.alone.Goals as goal

pub returns-then-not-is_empty-clause-fault : goal.returns-then-not-is_empty-clause-fault
returns-then-not-is_empty-clause-fault c = rw c.no_expression.ensures (λ w q asks. IsScriptRestRefused.no_word asks (IsRefusedInTurn.by_grammar (not_nil _ (sym c.is_empty.ensures ∙ c.if-not-is_empty.true))))

pub returns-in-Some-clause-fault : goal.returns-in-Some-clause-fault
returns-in-Some-clause-fault c = λ w q asks. IsScriptRestRefused.no_word asks (IsRefusedInTurn.by_code (is_nil _ (sym c.is_empty.ensures ∙ c.if-not-is_empty.false)) (sym c.in-Some.ensures))

pub returns-clause-ok : goal.returns-clause-ok
returns-clause-ok c = λ w q asks. IsScriptRestTaken.a_word asks (is_nil _ (sym c.is_empty.ensures ∙ c.if-not-is_empty.false)) (sym c.in_default.ensures)
