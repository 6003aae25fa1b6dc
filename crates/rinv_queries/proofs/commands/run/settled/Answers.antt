use Rattle.rinv_script.specs.Queries.{Script}
use Rattle.rinv_script.specs.Stored.{IsStoredScript}
use Rattle.rinv_answers.specs.Budgets.{IsLimited}
use Rattle.rinv_queries.specs.Commands.Run.{IsScripted}
use Rattle.rinv_queries.proofs.Asked.{asked-of, asked-back}
use Rattle.rinv_queries.proofs.commands.run.settled.Goals as goal

pub scripted-requires-clause-script : goal.scripted-requires-clause-script
scripted-requires-clause-script c = asked-of IsStoredScript _ _ _ _ c.script.view_is c.as_slice.ensures.value c.requires.script

pub scripted-requires-clause-limits : goal.scripted-requires-clause-limits
scripted-requires-clause-limits c = asked-of (λ (s : Script). IsLimited s.told) _ _ _ _ c.script.view_is c.as_slice.ensures.value c.requires.limits

pub returns-in-Ok : goal.returns-in-Ok
returns-in-Ok c = asked-back (λ (s : Script). IsScripted s c.in-Ok.answer.0.items c.in-Ok.answer.1) _ _ _ _ c.script.view_is c.as_slice.ensures.value c.in-Ok.ensures.shown

pub returns-in-Err-Answer : goal.returns-in-Err-Answer
returns-in-Err-Answer c =
    asked-back (λ (s : Script). IsScripted s c.in-Err-Answer.text.items c.in-Err-Answer.ending) _ _ _ _ c.script.view_is c.as_slice.ensures.value (rw c.in-Err-Answer.field-0-is at c.in-Err-Answer.ensures.stop)
