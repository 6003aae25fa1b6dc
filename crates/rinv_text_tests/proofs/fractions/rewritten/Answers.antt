use Rattle.rinv_text_tests.proofs.Called.{two-names, none-apart, none-stored}
use Rattle.rinv_text_tests.proofs.fractions.rewritten.Goals as goal

pub read-requires-clause-many : goal.read-requires-clause-many
read-requires-clause-many c = two-names _ _ c.in_ok-names.ensures c.fractions-field.ensures

pub read-requires-clause-apart : goal.read-requires-clause-apart
read-requires-clause-apart c = none-apart _ _ c.empty-defs.ensures

pub read-requires-clause-values : goal.read-requires-clause-values
read-requires-clause-values c = none-stored _ _ _ c.empty-defs.ensures

pub printed-requires-clause-names : goal.printed-requires-clause-names
printed-requires-clause-names c = two-names _ _ c.in_ok-names.ensures c.fractions-field.ensures
