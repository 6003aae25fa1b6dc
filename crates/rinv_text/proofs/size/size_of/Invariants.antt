use Rattle.std.proofs.Common.{◌≡◌, [], All, drop, reverse}
use Rattle.rinv_text.specs.Evaluation.{evaluate}
use Rattle.rinv_text.specs.Reading.{formal_at}
use Rattle.rinv_text.specs.Sizes.{sizes, IsSize}
use Rattle.rinv_text.proofs.size.size_of.Given as goal

abbrev pub invariant-loop-step : goal.invariant-loop-step
invariant-loop-step l = record {
  all : All IsSize l.stack.items;
  rest : evaluate (sizes (formal_at l.count l.defs)) l.steps [] ≡ evaluate (sizes (formal_at l.count l.defs)) (drop l.step-index l.steps) (reverse l.stack.items);
}
