-- What a value on the graph of an action is taken by.
use Rattle.std.specs.Prelude.{◌≡◌, ◌+◌, ◌*◌}
use Rattle.rinv_defs.specs.System.{System, group_count, space_count}
use Rattle.rinv_defs.specs.Conditions.{graph_point}
use Rattle.rinv_parts.specs.Points.{AreStored}
use Rattle.rinv_identities.specs.declared.graph.Graph.{Graph}

-- the rings of the group's variables, Z and the space's, and of these without Z; what stands for the former in the latter; the group's ideal
pub record IsGraph (s : System) (g : Graph) : Type 0 where
  pub field : g.whole.coeffs ≡ s.p
  pub whole : g.whole.vars ≡ group_count s + space_count s
  pub ring : g.ring.vars ≡ group_count s + 2 * space_count s
  pub point : AreStored s.p g.whole.vars (graph_point s) g.point.items
  pub ideal : AreStored s.p g.whole.vars s.ideal g.ideal.items
