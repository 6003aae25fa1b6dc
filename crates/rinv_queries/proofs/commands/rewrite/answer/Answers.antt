use Rattle.rinv_answers.specs.Told.{AnswersTold}
use Rattle.rinv_queries.proofs.Limits.{script-limited}
use Rattle.rinv_queries.proofs.commands.rewrite.answer.Goals as goal

pub settled-requires-clause-limits : goal.settled-requires-clause-limits
settled-requires-clause-limits c = script-limited _ _ _ c.in-Ok.ensures.ok

pub returns : goal.returns
returns c = AnswersTold.answered c.in-Ok.script c.in-Ok.ensures.ok c.in_ok-answer.ensures

pub returns-in-Err-Refused : goal.returns-in-Err-Refused
returns-in-Err-Refused c = AnswersTold.refused c.in-Err-Refused.refused (rw c.in-Err-Refused.field-0-is at c.in-Err-Refused.ensures.fault) c.in_ok-text-in-Err-Refused.ensures
