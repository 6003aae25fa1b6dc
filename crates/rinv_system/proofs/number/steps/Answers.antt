use Rattle.rinv_system.proofs.NumberFacts.{steps-refused}
use Rattle.rinv_system.proofs.number.steps.Goals as goal

pub returns-in-Err-clause-fault : goal.returns-in-Err-clause-fault
returns-in-Err-clause-fault c = λ d. steps-refused d _ _ c.in-Err.ensures.fault
