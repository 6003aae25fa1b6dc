-- The relations of the extended ideal, as they are made: before their tails are reduced, and after.
use Rattle.std.specs.Prelude.{◌≡◌, ℕ, List}
use Rattle.rinv_defs.specs.System.{System, Poly, space_count}
use Rattle.rinv_defs.specs.Extended.{Relation}
use Rattle.rinv_parts.specs.Points.{ArePolynomials}
use Rattle.rinv_reduction.specs.Localised.{IsCut, all_count}
use Rattle.rinv_tails.specs.Reducing.{AreReducedSoFar, TailsMeet}
use Rattle.rinv_elim.specs.Localising.{AreLocalised}

-- the relations of the elements without the group's variables of the reduced basis of the action's ideal
pub record AreUnreduced (s : System) (rs : List Relation) : Type 0 where
  pub cut : List Poly
  pub is_cut : IsCut s cut
  pub normal : ArePolynomials s.p (all_count s) cut
  pub localised : AreLocalised s cut rs

-- these with their tails reduced, one after another
pub record AreReduced (s : System) (rs : List Relation) : Type 0 where
  pub unreduced : List Relation
  pub are : AreUnreduced s unreduced
  pub made : AreReducedSoFar s.p (space_count s) unreduced rs

-- the reduction of the tails meets these degrees
pub record ReductionMeets (s : System) (x y : ℕ) : Type 0 where
  pub unreduced : List Relation
  pub are : AreUnreduced s unreduced
  pub meets : TailsMeet s.p (space_count s) unreduced x y
