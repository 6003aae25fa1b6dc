use Rattle.rinv_generators.proofs.MetInProofs.{pairs-met, steps-met, work-within}
use Rattle.rinv_generators.proofs.counted.budgets_are_met.Goals as goal

pub returns-clause-pairs : goal.returns-clause-pairs
returns-clause-pairs c = λ told phase journal i j low h. pairs-met told journal phase i j low h

pub returns-clause-steps : goal.returns-clause-steps
returns-clause-steps c = λ told phase journal m low h. steps-met told journal phase m low h

pub returns-clause-within : goal.returns-clause-within
returns-clause-within c = λ told phase journal why pairs steps h. work-within told phase journal why pairs steps h
