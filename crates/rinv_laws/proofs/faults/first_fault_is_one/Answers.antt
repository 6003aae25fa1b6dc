use Rattle.rinv_laws.proofs.FirstFaults.{no-fault, one-fault}
use Rattle.rinv_laws.proofs.faults.first_fault_is_one.Goals as goal

pub returns-clause-none : goal.returns-clause-none
returns-clause-none c = λ s law k rest f hold. no-fault s law k rest f (hold law)

pub returns-clause-one : goal.returns-clause-one
returns-clause-one c = one-fault
