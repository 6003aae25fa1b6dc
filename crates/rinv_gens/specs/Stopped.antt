-- Why there are no generators, once both runs have ended.
use Rattle.std.specs.Prelude.{◌≡◌, ◌⊎◌, ◌++◌, ℕ, List, ⊤}
use Rattle.rinv_defs.specs.System.{System, Poly}
use Rattle.rinv_defs.specs.Extended.{Misses}
use Rattle.rinv_buch.specs.Kinds.{Found, journal_of}
use Rattle.rinv_buch.specs.declared.kinds.Why.{Why}
use Rattle.rinv_reduction.specs.Localised.{IsCut}
use Rattle.rinv_elim.specs.Action.{EliminationMeets}
use Rattle.rinv_elim.specs.Localising.{IsMissed}
use Rattle.rinv_gens.specs.declared.kinds.Phase.{Phase}
use Rattle.rinv_gens.specs.declared.kinds.GenStop.{GenStop}
use Rattle.rinv_gens.specs.declared.kinds.GenStop.TheVariants as gen
use Rattle.rinv_gens.specs.declared.runs.Runs.{Runs}
use Rattle.rinv_gens.specs.declared.relations.RelationStop.{RelationStop}
use Rattle.rinv_gens.specs.declared.relations.RelationStop.TheVariants as stop
use Rattle.rinv_gens.specs.Relations.{ReductionMeets}
use Rattle.rinv_gens.specs.Numbering.{NumberingMeets}

-- 1 lies in the extended ideal, and d is the first polynomial in the space's variables that shows it
pub record IsMissedBy (s : System) (d : Poly) : Type 0 where
  pub misses : Misses s
  pub cut : List Poly
  pub is_cut : IsCut s cut
  pub element : IsMissed s cut d

-- nothing is missed, and the reduction or the numbering meets these degrees
pub record WorkMeets (s : System) (x y : ℕ) : Type 0 where
  pub met : ¬ (Misses s)
  pub meets : ReductionMeets s x y ⊎ NumberingMeets s x y

-- what each stop says
abbrev pub RelationsStopSo : System → Found ℕ → RelationStop → Type 0
RelationsStopSo s action (stop.Missed d) = IsMissedBy s d
RelationsStopSo s action (stop.InElimination x y) = EliminationMeets s action x y
RelationsStopSo s action (stop.InTails x y) = WorkMeets s x y
RelationsStopSo s action stop.NoMemory = ⊤

-- the phase halts for this reason after both runs, with the entries of both
abbrev pub HaltsAfterRuns : Runs → Phase → Why → GenStop → Type 0
HaltsAfterRuns runs phase why (gen.Law fault) = ⊥
HaltsAfterRuns runs phase why (gen.Missed element) = ⊥
HaltsAfterRuns runs phase why (gen.Incomplete halted journal cause) = (halted ≡ phase) × (journal_of journal.items ≡ runs.group.basis.journal ++ runs.action.journal) × (cause ≡ why)
HaltsAfterRuns runs phase why gen.NoMemory = ⊤
