-- Where the work halts after both runs.
--   IsHere               both runs have ended, and the laws hold
--   at-elimination, at-tails, stop-missed    what a stop of the relations says
use Rattle.std.proofs.Common.{◌≡◌, ◌++◌, ℕ, subst, inl, inr, sym}
use Rattle.std.specs.Prelude.{◌⊎◌}
use Rattle.rinv_defs.specs.System.{Poly}
use Rattle.rinv_defs.specs.Laws.{AllLawsHold}
use Rattle.rinv_text.specs.Told.{Told}
use Rattle.rinv_buch.specs.declared.kinds.Why.TheVariants.{Degree}
use Rattle.rinv_buch.specs.Kinds.{journal_of}
use Rattle.rinv_elim.specs.Action.{EliminationMeets}
use Rattle.rinv_gens.specs.declared.kinds.Phase.{Phase}
use Rattle.rinv_gens.specs.declared.kinds.Phase.TheVariants.{Action, Tail}
use Rattle.rinv_gens.specs.declared.kinds.GenStop.{GenStop}
use Rattle.rinv_gens.specs.declared.kinds.GenStop.TheVariants as gen
use Rattle.rinv_gens.specs.declared.runs.Runs.{Runs}
use Rattle.rinv_gens.specs.Halts.{GenStopsSo, HaltsIn, IsMiss}
use Rattle.rinv_gens.specs.Runs.{BothEnd}
use Rattle.rinv_gens.specs.Stopped.{HaltsAfterRuns, IsMissedBy, WorkMeets}

module _ (told : Told) (runs : Runs) (ends : BothEnd told runs.group.basis runs.action) (hold : AllLawsHold told.system) where
  -- in the elimination
  pub at-elimination : (x y : ℕ) (e : GenStop) → EliminationMeets told.system runs.action x y → HaltsAfterRuns runs Action (Degree x y) e → GenStopsSo told e
  at-elimination x y (gen.Law fault) meets h = absurd h
  at-elimination x y (gen.Missed element) meets h = absurd h
  at-elimination x y (gen.Incomplete phase journal why) meets h = subst (λ (p : Phase). HaltsIn told p (journal_of journal.items) why) (sym h.0)
      (inl-or (record { hold = hold; group = runs.group.basis; action = runs.action; both_end = ends; entries = h.1; x = x; y = y; cause = h.2; meets = meets }))
    where
      inl-or : {A B : Type 0} → B → A ⊎ B
      inl-or b = inr b
  at-elimination x y gen.NoMemory meets h = tt

  -- in the reduction or the numbering
  pub at-tails : (x y : ℕ) (e : GenStop) → WorkMeets told.system x y → HaltsAfterRuns runs Tail (Degree x y) e → GenStopsSo told e
  at-tails x y (gen.Law fault) w h = absurd h
  at-tails x y (gen.Missed element) w h = absurd h
  at-tails x y (gen.Incomplete phase journal why) w h = subst (λ (p : Phase). HaltsIn told p (journal_of journal.items) why) (sym h.0)
      (record { hold = hold; group = runs.group.basis; action = runs.action; both_end = ends; met = w.met; entries = h.1; x = x; y = y; cause = h.2; meets = w.meets })
  at-tails x y gen.NoMemory w h = tt

  -- the section misses
  pub stop-missed : (d : Poly) → IsMissedBy told.system d → IsMiss told d
  stop-missed d m = record { hold = hold; misses = m.misses; cut = m.cut; is_cut = m.is_cut; element = m.element }
