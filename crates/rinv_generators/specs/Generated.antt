-- The value of `Generators`: a system with all that was found for it, and what is known of it.
--   Generated            a plain record of it
--   ProveLaws            the proofs of the laws
--   IsGenerators         what is known of each value
use Rattle.std.specs.Prelude.{◌≡◌, ℕ, List, ◌++◌, map, All}
use Rattle.std.specs.List.{AllZip}
use Rattle.rinv_defs.specs.System.{System, Poly, space_count}
use Rattle.rinv_defs.specs.SystemForm.{IsSystem}
use Rattle.rinv_defs.specs.Laws.{Law, AllLawsHold}
use Rattle.rinv_defs.specs.Invariant.{Fraction}
use Rattle.rinv_defs.specs.Extended.{Relation, Misses}
use Rattle.rinv_groebner.specs.Journal.{Entry}
use Rattle.rinv_text.specs.Told.{Told}
use Rattle.rinv_buch.specs.Kinds.{Found}
use Rattle.rinv_frac.specs.Fractions.{IsStored}
use Rattle.rinv_tails.specs.Stored.{IsStoredRelation}
use Rattle.rinv_laws.specs.Group.{IsGroupBasis}
use Rattle.rinv_laws.specs.Proofs.{proved_laws, ProvesLaw}
use Rattle.rinv_change.specs.Cofactors.{ProvesInvariance}
use Rattle.rinv_action.specs.Action.{IsActionBasis}
use Rattle.rinv_coefficients.specs.Coefficients.{IsOrderedBasis, generators_of}
use Rattle.rinv_coefficients.specs.Ties.{TiedRelation, Ties}

-- A system with its budgets; the bases of the group's ideal and of the action's, with their journals; the proofs of the laws; the reduced
-- basis of the extended ideal, and the same with its coefficients tied; the generators, and the proofs that they are invariant.
pub record Generated : Type 0 where
  pub told : Told
  pub group : Found ℕ
  pub reduced : List Poly
  pub laws : List (Law × List (List Poly))
  pub action : Found ℕ
  pub monic : List Relation
  pub relations : List TiedRelation
  pub fractions : List Fraction
  pub proofs : List (List Poly)
  pub journal : List Entry

-- each of the laws that speak of points is proved
pub record ProveLaws (s : System) (found : Found ℕ) (proofs : List (Law × List (List Poly))) : Type 0 where
  pub laws : map (λ e. e.0) proofs ≡ proved_laws
  pub each : All (λ e. ProvesLaw s found e.0 e.1) proofs

-- The laws hold, and nothing is missed. The relations are the reduced basis of the extended ideal, in its order; the fractions are its
-- coefficients that are not constant, each value once, in their order; and the other relations are these, tied to them. Each law and each
-- generator has its cofactors over the group's ideal. The journal is that of both runs.
pub record IsGenerators (g : Generated) : Type 0 where
  pub form : IsSystem g.told.system
  pub group : IsGroupBasis g.told.system g.group g.reduced
  pub hold : AllLawsHold g.told.system
  pub laws : ProveLaws g.told.system g.group g.laws
  pub action : IsActionBasis g.told.system g.action
  pub met : ¬ (Misses g.told.system)
  pub monic : IsOrderedBasis g.told.system g.monic
  pub monic_stored : All (IsStoredRelation g.told.system.p (space_count g.told.system)) g.monic
  pub fractions : g.fractions ≡ generators_of g.told.system.p g.monic
  pub stored : All (IsStored g.told.system.p (space_count g.told.system)) g.fractions
  pub relations : AllZip (Ties g.told.system.p g.fractions) g.relations g.monic
  pub proofs : AllZip (ProvesInvariance g.told.system g.group) g.fractions g.proofs
  pub journal : g.journal ≡ g.group.journal ++ g.action.journal
