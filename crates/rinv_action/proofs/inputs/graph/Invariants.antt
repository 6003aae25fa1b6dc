use Rattle.std.proofs.Common.{map}
use Rattle.std.specs.List.{range_with_len}
use Rattle.rinv_parts.specs.Points.{AreStored}
use Rattle.rinv_reduction.specs.Localised.{all_count}
use Rattle.rinv_action.proofs.Generators.{graph_at}
use Rattle.rinv_action.proofs.inputs.graph.Given as goal

abbrev pub invariant-coordinates : goal.invariant-coordinates
invariant-coordinates l = AreStored l.system.system.p (all_count l.system.system) (map (graph_at l.system.system) (range_with_len 0 l.k)) l.graph.items
