-- Why there are no generators with their proofs: all that `pieces` of rinv_gens says, and the degrees that the proofs meet.
--   AreRun               both runs have ended, and nothing is missed
--   HaltsProvingLaws, HaltsProvingInvariance    the proofs of the laws halt, or those of the generators
--   ProvingHaltsIn, WorkHaltsIn    these by their phase, and with the halts before the proofs
--   StopsSo, NeverMissesSo, SectionStopsSo      what a stop says: with a section, without one, and told apart
use Rattle.std.specs.Prelude.{◌≡◌, ◌⊎◌, ℕ, List, ◌++◌, ⊤, ◌<◌, ◌-◌, ◌^◌, ◌+◌, length}
use Rattle.rinv_groebner.specs.Journal.{Entry}
use Rattle.rinv_defs.specs.System.{Poly}
use Rattle.rinv_defs.specs.Laws.{AllLawsHold}
use Rattle.rinv_defs.specs.Extended.{Relation, Misses}
use Rattle.rinv_text.specs.Told.{Told}
use Rattle.rinv_buch.specs.declared.kinds.Why.{Why}
use Rattle.rinv_buch.specs.declared.kinds.Why.TheVariants.{Degree}
use Rattle.rinv_buch.specs.declared.kinds.Why.TheVariants as why
use Rattle.rinv_buch.specs.Kinds.{Found, journal_of}
use Rattle.rinv_parts.specs.LawNames.{law_of}
use Rattle.rinv_laws.specs.Faults.{TestMeets}
use Rattle.rinv_laws.specs.Proofs.{ProofsMeet}
use Rattle.rinv_coefficients.specs.Coefficients.{IsOrderedBasis, generators_of}
use Rattle.rinv_gens.specs.declared.kinds.Phase.{Phase}
use Rattle.rinv_gens.specs.declared.kinds.Phase.TheVariants.{Group, Laws, Action, Tail}
use Rattle.rinv_gens.specs.declared.kinds.GenStop.{GenStop}
use Rattle.rinv_gens.specs.declared.kinds.GenStop.TheVariants as stop
use Rattle.rinv_gens.specs.Runs.{BothEnd, IsWithin}
use Rattle.rinv_gens.specs.Halts.{HaltsIn, IsFalseLaw, IsMiss}
use Rattle.rinv_generators.specs.declared.kinds.SectionStop.{SectionStop}
use Rattle.rinv_generators.specs.declared.kinds.SectionStop.TheVariants as section
use Rattle.rinv_generators.specs.Proving.{FractionsMeet}
use Rattle.rinv_buch.specs.Spent.{steps_of}

-- the laws hold, both runs have ended, and nothing is missed
pub record AreRun (told : Told) (group action : Found ℕ) : Type 0 where
  pub hold : AllLawsHold told.system
  pub both_end : BothEnd told group action
  pub met : ¬ (Misses told.system)

module _ (told : Told) (journal : List Entry) (why : Why) where
  -- the cofactors of the laws' parts, made once the generators are found, meet degrees
  pub record HaltsProvingLaws : Type 0 where
    pub group : Found ℕ
    pub action : Found ℕ
    pub are_run : AreRun told group action
    pub entries : journal ≡ group.journal ++ action.journal
    pub x : ℕ
    pub y : ℕ
    pub cause : why ≡ Degree x y
    pub meets : TestMeets told.system group x y ⊎ ProofsMeet told.system group x y

  -- the proof of a generator does
  pub record HaltsProvingInvariance : Type 0 where
    pub group : Found ℕ
    pub action : Found ℕ
    pub are_run : AreRun told group action
    pub entries : journal ≡ group.journal ++ action.journal
    pub relations : List Relation
    pub basis : IsOrderedBasis told.system relations
    pub x : ℕ
    pub y : ℕ
    pub cause : why ≡ Degree x y
    pub meets : FractionsMeet told.system group (generators_of told.system.p relations) x y

-- the phases in which proofs are made
abbrev pub ProvingHaltsIn : Told → Phase → List Entry → Why → Type 0
ProvingHaltsIn told Group journal why = ⊥
ProvingHaltsIn told Laws journal why = HaltsProvingLaws told journal why
ProvingHaltsIn told Action journal why = ⊥
ProvingHaltsIn told Tail journal why = HaltsProvingInvariance told journal why

-- the work halts in a phase, before its proofs or in them
abbrev pub WorkHaltsIn : Told → Phase → List Entry → Why → Type 0
WorkHaltsIn told phase journal why = HaltsIn told phase journal why ⊎ ProvingHaltsIn told phase journal why

-- a stop names the first part of a law that is false, what is missed, or a phase that halts; want of memory says nothing
abbrev pub StopsWith : Told → (Poly → Type 0) → GenStop → Type 0
StopsWith told Missed (stop.Law f) = IsFalseLaw told (law_of f.law) f.part f.rest
StopsWith told Missed (stop.Missed d) = Missed d
StopsWith told Missed (stop.Incomplete phase journal why) = WorkHaltsIn told phase (journal_of journal.items) why
StopsWith told Missed stop.NoMemory = ⊤

abbrev pub StopsSo : Told → GenStop → Type 0
StopsSo told stop = StopsWith told (IsMiss told) stop

-- the same where nothing is missed
abbrev pub NeverMissesSo : Told → GenStop → Type 0
NeverMissesSo told stop = StopsWith told (λ d. ⊥) stop

-- what is missed is told apart from the other stops
abbrev pub SectionStopsSo : Told → SectionStop → Type 0
SectionStopsSo told (section.Misses d) = IsMiss told d
SectionStopsSo told (section.Gen stop) = NeverMissesSo told stop

-- ---- within the budget

-- where no more pairs than these fit, a halt for them comes after so many
abbrev pub WorkSpendsPairs : Told → Phase → List Entry → (i j : ℕ) → Type 0
WorkSpendsPairs told phase journal i j = told.pairs < 2 ^ 32 - 1 → WorkHaltsIn told phase journal (why.Pairs i j) → length journal ≡ told.pairs

-- a halt for the steps comes after so many
abbrev pub WorkSpendsSteps : Told → Phase → List Entry → List ℕ → Type 0
WorkSpendsSteps told phase journal m = told.steps < 2 ^ 64 - 1 → WorkHaltsIn told phase journal (why.Steps m) → (k : ℕ) × (steps_of journal + k ≡ told.steps)

-- every halt comes within the budget
abbrev pub WorkHaltsWithin : Told → Phase → List Entry → Why → Type 0
WorkHaltsWithin told phase journal cause = told.pairs < 2 ^ 32 - 1 → told.steps < 2 ^ 64 - 1 → WorkHaltsIn told phase journal cause → IsWithin told journal
