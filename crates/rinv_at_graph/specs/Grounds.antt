-- What the cofactors of values at Z = g are made of.
--   IsGround             that of a system and a basis of its group's ideal
--   IsSomeGround         that of some
use Rattle.std.specs.Prelude.{◌≡◌, ℕ, List, map}
use Rattle.rinv_buch.specs.Kinds.{Found}
use Rattle.rinv_defs.specs.System.{System, Poly}
use Rattle.rinv_defs.specs.SystemForm.{IsSystem}
use Rattle.rinv_defs.specs.Conditions.{graph_point}
use Rattle.rinv_reduction.specs.Localised.{all_count}
use Rattle.rinv_parts.specs.Points.{AreStored}
use Rattle.rinv_laws.specs.Group.{IsGroupBasis}
use Rattle.rinv_change.specs.Asked.{IsKeptBasis}
use Rattle.rinv_change.specs.Changes.{change_count}
use Rattle.rinv_change.specs.Cofactors.{AreWideCofactors}
use Rattle.rinv_at_graph.specs.declared.ground.Ground.{Ground}

-- the rings of all variables and of the group's and the space's; what stands for Z; the group's ideal; the kept elements of its basis, ready
-- for division, and their cofactors
pub record IsGround (s : System) (found : Found ℕ) (g : Ground) : Type 0 where
  pub system : IsSystem s
  pub reduced : List Poly
  pub group : IsGroupBasis s found reduced
  pub field : g.ring.coeffs ≡ s.p
  pub vars : g.ring.vars ≡ all_count s
  pub whole_field : g.whole.coeffs ≡ s.p
  pub whole_vars : g.whole.vars ≡ change_count s
  pub point : AreStored s.p (change_count s) (graph_point s) g.point.items
  pub ideal : AreStored s.p (change_count s) s.ideal g.ideal.items
  pub basis : IsKeptBasis s found g.basis
  pub cofactors : AreWideCofactors s found (map (λ us. us.items) g.cofactors.lists.items)

-- it is that of some system and some basis of its group's ideal
pub record IsSomeGround (g : Ground) : Type 0 where
  pub s : System
  pub found : Found ℕ
  pub is : IsGround s found g
