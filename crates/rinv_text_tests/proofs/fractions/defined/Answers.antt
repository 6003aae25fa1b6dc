use Rattle.rinv_text_tests.proofs.Called.{two-names, none-apart, none-stored, one-apart, one-stored}
use Rattle.rinv_text_tests.proofs.fractions.defined.Goals as goal

pub read-requires-clause-many : goal.read-requires-clause-many
read-requires-clause-many c = two-names _ _ c.in_ok-names.ensures c.fractions-field.ensures

pub read-requires-clause-apart : goal.read-requires-clause-apart
read-requires-clause-apart c = none-apart _ _ c.empty-none.ensures

pub read-requires-clause-values : goal.read-requires-clause-values
read-requires-clause-values c = none-stored _ _ _ c.empty-none.ensures

pub read-requires-2-clause-many : goal.read-requires-2-clause-many
read-requires-2-clause-many c = two-names _ _ c.in_ok-names.ensures c.fractions-field.ensures

pub read-requires-2-clause-apart : goal.read-requires-2-clause-apart
read-requires-2-clause-apart c = one-apart _ _ _ _ c.in_ok-names.ensures c.in_ok-defs.ensures

pub read-requires-2-clause-values : goal.read-requires-2-clause-values
read-requires-2-clause-values c = one-stored _ _ _ _ _ c.in_ok-defs.ensures c.in_ok-value.ensures.element

pub printed-requires-clause-names : goal.printed-requires-clause-names
printed-requires-clause-names c = two-names _ _ c.in_ok-names.ensures c.fractions-field.ensures
