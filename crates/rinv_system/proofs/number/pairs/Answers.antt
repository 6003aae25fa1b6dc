use Rattle.rinv_system.proofs.NumberFacts.{pairs-refused}
use Rattle.rinv_system.proofs.number.pairs.Goals as goal

pub returns-in-Err-clause-fault : goal.returns-in-Err-clause-fault
returns-in-Err-clause-fault c = λ d. pairs-refused d _ _ c.in-Err.ensures.fault
