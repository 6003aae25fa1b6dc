-- What the stops of the parts say of the whole.
--   pieces-stop          a stop before the proofs
--   halts-so             a halt for two degrees that are met so
--   laws-stop, invariance-stop    a halt in the proofs of the laws, and in those of the generators
--   assembly-stop        a halt in the proofs after the numbering
--   never-misses         without a section nothing is missed
use Rattle.std.proofs.Common.{◌≡◌, ◌⊎◌, ℕ, List, [], sym, subst, inl, inr}
use Rattle.rinv_defs.specs.SystemForm.{IsSystem}
use Rattle.rinv_defs.specs.System.{System}
use Rattle.rinv_defs.specs.Invariant.{Fraction}
use Rattle.rinv_defs.specs.Extended.{Relation}
use Rattle.rinv_text.specs.Told.{Told}
use Rattle.rinv_buch.specs.Kinds.{Found, journal_of}
use Rattle.rinv_laws.specs.Faults.{TestMeets}
use Rattle.rinv_laws.specs.Proofs.{ProofsMeet}
use Rattle.rinv_coefficients.specs.Coefficients.{IsOrderedBasis, generators_of}
use Rattle.rinv_coefficients.proofs.NothingMissed.{nothing_missed}
use Rattle.rinv_gens.specs.declared.kinds.Phase.{Phase}
use Rattle.rinv_gens.specs.declared.kinds.Phase.TheVariants.{Laws}
use Rattle.rinv_gens.specs.declared.kinds.GenStop.{GenStop}
use Rattle.rinv_gens.specs.declared.kinds.GenStop.TheVariants as stop
use Rattle.rinv_gens.specs.Halts.{GenStopsSo}
use Rattle.rinv_generators.specs.Proving.{AreDegrees, AssemblyStopsSo, FractionsMeet, HaltsAfter, InvarianceStopsSo}
use Rattle.rinv_generators.specs.Stops.{AreRun, NeverMissesSo, StopsSo, WorkHaltsIn}

-- a stop before the proofs
pub pieces-stop : (told : Told) (e : GenStop) → GenStopsSo told e → StopsSo told e
pieces-stop told (stop.Law fault) h = h
pieces-stop told (stop.Missed element) h = h
pieces-stop told (stop.Incomplete phase journal why) h = inl h
pieces-stop told stop.NoMemory h = tt

-- a halt for two degrees that are met so
pub halts-so : (group action : Found ℕ) (phase : Phase) (Meets : ℕ → ℕ → Type 0) (left right : ℕ) → Meets left right → (e : GenStop) → HaltsAfter group action phase (AreDegrees left right) e → HaltsAfter group action phase Meets e
halts-so group action phase Meets left right m (stop.Law fault) h = absurd h
halts-so group action phase Meets left right m (stop.Missed element) h = absurd h
halts-so group action phase Meets left right m (stop.Incomplete halted journal why) (at, entries, x, y, cause, same) =
    (at, entries, x, y, cause, subst (λ (a : ℕ). Meets a y) (sym same.0) (subst (λ (b : ℕ). Meets left b) (sym same.1) m))
halts-so group action phase Meets left right m stop.NoMemory h = tt

module _ (told : Told) (group action : Found ℕ) (run : AreRun told group action) where
  -- in the proofs of the laws
  pub laws-stop : (e : GenStop) → HaltsAfter group action Laws (λ x y. TestMeets told.system group x y ⊎ ProofsMeet told.system group x y) e → StopsSo told e
  laws-stop (stop.Law fault) h = absurd h
  laws-stop (stop.Missed element) h = absurd h
  laws-stop (stop.Incomplete halted journal why) (at, entries, x, y, cause, meets) =
      subst (λ (p : Phase). WorkHaltsIn told p (journal_of journal.items) why) (sym at)
      (inr (record { group = group; action = action; are_run = run; entries = entries; x = x; y = y; cause = cause; meets = meets }))
  laws-stop stop.NoMemory h = tt

  -- in the proofs of the generators
  pub invariance-stop : (relations : List Relation) → IsOrderedBasis told.system relations → (cs : List Fraction) → cs ≡ generators_of told.system.p relations → (e : GenStop) → InvarianceStopsSo told.system group action cs e → StopsSo told e
  invariance-stop relations basis cs are (stop.Law fault) h = absurd h
  invariance-stop relations basis cs are (stop.Missed element) h = absurd h
  invariance-stop relations basis cs are (stop.Incomplete halted journal why) (at, entries, x, y, cause, meets) =
      subst (λ (p : Phase). WorkHaltsIn told p (journal_of journal.items) why) (sym at)
      (inr (record {
        group = group;
        action = action;
        are_run = run;
        entries = entries;
        relations = relations;
        basis = basis;
        x = x;
        y = y;
        cause = cause;
        meets = subst (λ (ds : List Fraction). FractionsMeet told.system group ds x y) are meets;
      }))
  invariance-stop relations basis cs are stop.NoMemory h = tt

module _ (s : System) (group action : Found ℕ) (monic : List Relation) where
  -- in the proofs after the numbering
  pub assembly-stop : (cs : List Fraction) → cs ≡ generators_of s.p monic → (e : GenStop) → InvarianceStopsSo s group action cs e → AssemblyStopsSo s group action monic e
  assembly-stop cs are (stop.Law fault) h = absurd h
  assembly-stop cs are (stop.Missed element) h = absurd h
  assembly-stop cs are (stop.Incomplete halted journal why) (at, entries, x, y, cause, meets) =
      (at, entries, x, y, cause, inr (subst (λ (ds : List Fraction). FractionsMeet s group ds x y) are meets))
  assembly-stop cs are stop.NoMemory h = tt

-- without a section nothing is missed
pub never-misses : (told : Told) → IsSystem told.system → told.system.section ≡ [] → (e : GenStop) → StopsSo told e → NeverMissesSo told e
never-misses told system without (stop.Law fault) h = h
never-misses told system without (stop.Missed element) h = absurd (nothing_missed told.system system h.hold without h.misses)
never-misses told system without (stop.Incomplete phase journal why) h = h
never-misses told system without stop.NoMemory h = tt
