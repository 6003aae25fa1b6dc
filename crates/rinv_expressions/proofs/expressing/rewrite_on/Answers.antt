use Rattle.rinv_expressions.proofs.expressing.rewrite_on.Goals as goal

pub returns-in-Ok-None-clause-stop : goal.returns-in-Ok-None-clause-stop
returns-in-Ok-None-clause-stop c = rw c.in-Ok-None.field-0-is at c.in-Ok-None.ensures.answer
