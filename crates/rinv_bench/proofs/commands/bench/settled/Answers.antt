use Rattle.rinv_script.specs.Queries.{Script}
use Rattle.rinv_script.specs.Stored.{IsStoredScript}
use Rattle.rinv_answers.specs.Budgets.{IsLimited}
use Rattle.rinv_bench.specs.Commands.Bench.{IsMeasured}
use Rattle.rinv_queries.proofs.Asked.{asked-of, asked-back}
use Rattle.rinv_bench.proofs.commands.bench.settled.Goals as goal

pub measured-requires-clause-script : goal.measured-requires-clause-script
measured-requires-clause-script c = asked-of IsStoredScript _ _ _ _ c.script.view_is c.as_slice.ensures.value c.requires.script

pub measured-requires-clause-limits : goal.measured-requires-clause-limits
measured-requires-clause-limits c = asked-of (λ (s : Script). IsLimited s.told) _ _ _ _ c.script.view_is c.as_slice.ensures.value c.requires.limits

pub returns-in-Ok : goal.returns-in-Ok
returns-in-Ok c = asked-back (λ (s : Script). IsMeasured c.args.k s c.in-Ok.answer.0.items c.in-Ok.answer.1) _ _ _ _ c.script.view_is c.as_slice.ensures.value c.in-Ok.ensures.shown

pub returns-in-Err-Answer : goal.returns-in-Err-Answer
returns-in-Err-Answer c =
    asked-back (λ (s : Script). IsMeasured c.args.k s c.in-Err-Answer.text.items c.in-Err-Answer.ending) _ _ _ _ c.script.view_is c.as_slice.ensures.value (rw c.in-Err-Answer.field-0-is at c.in-Err-Answer.ensures.stop)
