use Rattle.std.proofs.Common.{◌++◌, map, take}
use Rattle.std.specs.List.{range_with_len}
use Rattle.rinv_algebra.specs.Residue.{residue_ops}
use Rattle.rinv_algebra.specs.Polynomial.{variable}
use Rattle.rinv_parts.specs.Points.{AreStored}
use Rattle.rinv_at_graph.proofs.point.graph_point.Given as goal

abbrev pub invariant-action : goal.invariant-action
invariant-action l = AreStored l.whole.coeffs l.whole.vars (map (variable (residue_ops l.whole.coeffs)) (range_with_len 0 l.group) ++ take l.k l.action) l.point.items
