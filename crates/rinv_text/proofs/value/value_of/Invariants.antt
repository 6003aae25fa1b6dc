use Rattle.std.proofs.Common.{◌≡◌, List, [], drop, reverse}
use Rattle.rinv_text.specs.Evaluation.{evaluate}
use Rattle.rinv_text.specs.Meanings.{Meaning, meanings, named_at, Piled}
use Rattle.rinv_text.proofs.value.value_of.Given as goal

abbrev pub invariant-loop-step : goal.invariant-loop-step
invariant-loop-step l =
    (gs : List Meaning) × Piled l.field.base.coeffs l.field.base.vars (reverse l.stack.items) gs
    × (evaluate (meanings l.field.base.coeffs (named_at l.field.base.coeffs l.field.base.vars l.defs)) l.steps [] ≡ evaluate (meanings l.field.base.coeffs (named_at l.field.base.coeffs l.field.base.vars l.defs)) (drop l.step-index l.steps) gs)
