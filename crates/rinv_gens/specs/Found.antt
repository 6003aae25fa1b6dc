-- What is found for a system on the way to its generators.
use Rattle.std.specs.Prelude.{◌≡◌, All}
use Rattle.std.specs.List.{AllZip}
use Rattle.rinv_defs.specs.System.{space_count}
use Rattle.rinv_defs.specs.Laws.{AllLawsHold}
use Rattle.rinv_defs.specs.Extended.{Misses}
use Rattle.rinv_text.specs.Told.{Told}
use Rattle.rinv_frac.specs.Fractions.{IsStored}
use Rattle.rinv_tails.specs.Stored.{IsStoredRelation}
use Rattle.rinv_laws.specs.Group.{IsGroupBasis}
use Rattle.rinv_coefficients.specs.Coefficients.{IsOrderedBasis, generators_of}
use Rattle.rinv_coefficients.specs.Ties.{Ties}
use Rattle.rinv_gens.specs.declared.kinds.Findings.{Findings}
use Rattle.rinv_gens.specs.Runs.{BothEnd}

-- The laws hold, and nothing is missed. The relations are the reduced basis of the extended ideal, in its order; the fractions are its
-- coefficients that are not constant, each value once, in their order; and the other relations are these, tied to them.
pub record ArePieces (told : Told) (g : Findings) : Type 0 where
  pub group : IsGroupBasis told.system g.group.basis g.group.reduced.items
  pub both_end : BothEnd told g.group.basis g.action
  pub hold : AllLawsHold told.system
  pub met : ¬ (Misses told.system)
  pub monic : IsOrderedBasis told.system g.monic
  pub monic_stored : All (IsStoredRelation told.system.p (space_count told.system)) g.monic
  pub fractions : g.fractions.items ≡ generators_of told.system.p g.monic
  pub stored : All (IsStored told.system.p (space_count told.system)) g.fractions.items
  pub relations : AllZip (Ties told.system.p g.fractions.items) g.relations.items g.monic
