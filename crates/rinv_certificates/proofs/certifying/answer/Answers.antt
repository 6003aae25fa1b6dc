use Rattle.rinv_answers.specs.Told.{AnswersTold}
use Rattle.rinv_answers.proofs.TextLimits.{text-limited}
use Rattle.rinv_certificates.proofs.certifying.answer.Goals as goal

pub certified-requires-clause-limits : goal.certified-requires-clause-limits
certified-requires-clause-limits c = text-limited _ _ c.in-Ok.ensures.ok

pub returns : goal.returns
returns c = AnswersTold.answered c.in-Ok.system c.in-Ok.ensures.ok c.in_ok-answer.ensures

pub returns-in-Err-Refused : goal.returns-in-Err-Refused
returns-in-Err-Refused c = AnswersTold.refused c.in-Err-Refused.refused (rw c.in-Err-Refused.field-0-is at c.in-Err-Refused.ensures.fault) c.in_ok-text-in-Err-Refused.ensures
