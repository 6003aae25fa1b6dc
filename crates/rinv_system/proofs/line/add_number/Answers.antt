use Rattle.rinv_system.proofs.LineSteps.{number-taken}
use Rattle.rinv_system.proofs.line.add_number.Goals as goal

pub returns-in_ok-field-in-Field-clause-ok : goal.returns-in_ok-field-in-Field-clause-ok
returns-in_ok-field-in-Field-clause-ok c = number-taken _ _ _ _ _ _ c.in-Field.is c.requires c.in_ok-field-in-Field.ensures.ok c.set_field.ensures

pub returns-in_ok-pairs-in-Pairs-clause-ok : goal.returns-in_ok-pairs-in-Pairs-clause-ok
returns-in_ok-pairs-in-Pairs-clause-ok c = number-taken _ _ _ _ _ _ c.in-Pairs.is c.requires c.in_ok-pairs-in-Pairs.ensures.ok c.set_pairs.ensures

pub returns-in_ok-steps-in-Steps-clause-ok : goal.returns-in_ok-steps-in-Steps-clause-ok
returns-in_ok-steps-in-Steps-clause-ok c = number-taken _ _ _ _ _ _ c.in-Steps.is c.requires c.in_ok-steps-in-Steps.ensures.ok c.set_steps.ensures
