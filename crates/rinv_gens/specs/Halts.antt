-- Why there are no generators: the phase, the journal so far and the cause.
use Rattle.std.specs.Prelude.{◌≡◌, ◌⊎◌, ℕ, List, ◌++◌, nat_lt, ⊤, ◌<◌, ◌-◌, ◌^◌, ◌+◌, length}
use Rattle.rinv_algebra.specs.Residue.{residue_ops}
use Rattle.rinv_algebra.specs.Normal.{IsNormal}
use Rattle.rinv_groebner.specs.Journal.{Entry}
use Rattle.rinv_defs.specs.System.{Poly}
use Rattle.rinv_defs.specs.Laws.{AllLawsHold, Law}
use Rattle.rinv_defs.specs.Extended.{Misses}
use Rattle.rinv_text.specs.Told.{Told}
use Rattle.rinv_div.specs.declared.budget.Budget.{Budget}
use Rattle.rinv_buch.specs.declared.kinds.Why.{Why}
use Rattle.rinv_buch.specs.declared.kinds.Why.TheVariants.{Degree}
use Rattle.rinv_buch.specs.declared.kinds.Why.TheVariants as why
use Rattle.rinv_buch.specs.Kinds.{Found, Halted, journal_of}
use Rattle.rinv_buch.specs.Spent.{IsKept, steps_of}
use Rattle.rinv_parts.specs.LawNames.{law_of, variables_of}
use Rattle.rinv_reduction.specs.Localised.{IsCut}
use Rattle.rinv_laws.specs.Group.{HaltsInGroup}
use Rattle.rinv_laws.specs.Faults.{IsFirstFault, TestMeets}
use Rattle.rinv_action.specs.Action.{HaltsInAction}
use Rattle.rinv_elim.specs.Action.{EliminationMeets}
use Rattle.rinv_elim.specs.Localising.{IsMissed}
use Rattle.rinv_gens.specs.declared.kinds.Phase.{Phase}
use Rattle.rinv_gens.specs.declared.kinds.Phase.TheVariants.{Group, Laws, Action, Tail}
use Rattle.rinv_gens.specs.declared.kinds.GenStop.{GenStop}
use Rattle.rinv_gens.specs.declared.kinds.GenStop.TheVariants as stop
use Rattle.rinv_gens.specs.Runs.{budget_of, GroupEnds, BothEnd, IsWithin}
use Rattle.rinv_gens.specs.Relations.{ReductionMeets}
use Rattle.rinv_gens.specs.Numbering.{NumberingMeets}

module _ (told : Told) (journal : List Entry) (why : Why) where
  -- the run on the group's ideal halts, or the making of its reduced basis does
  pub record HaltsAtGroup : Type 0 where
    pub after : Budget
    pub halted : Halted ℕ
    pub halts : HaltsInGroup told.system (budget_of told) after halted
    pub kept : IsKept after
    pub entries : journal ≡ halted.journal
    pub cause : why ≡ halted.why

  -- the test of the laws meets degrees
  pub record HaltsAtLaws : Type 0 where
    pub group : Found ℕ
    pub reduced : List Poly
    pub left : Budget
    pub group_ends : GroupEnds told group reduced left
    pub entries : journal ≡ group.journal
    pub x : ℕ
    pub y : ℕ
    pub cause : why ≡ Degree x y
    pub meets : TestMeets told.system group x y

  -- the run on the action's ideal halts after that on the group's, with what is left of the budget
  pub record HaltsAtAction : Type 0 where
    pub hold : AllLawsHold told.system
    pub group : Found ℕ
    pub reduced : List Poly
    pub left : Budget
    pub group_ends : GroupEnds told group reduced left
    pub after : Budget
    pub halted : Halted ℕ
    pub halts : HaltsInAction told.system left after halted
    pub kept : IsKept after
    pub entries : journal ≡ group.journal ++ halted.journal
    pub cause : why ≡ halted.why

  -- both runs end, and the elimination meets degrees
  pub record HaltsAtElimination : Type 0 where
    pub hold : AllLawsHold told.system
    pub group : Found ℕ
    pub action : Found ℕ
    pub both_end : BothEnd told group action
    pub entries : journal ≡ group.journal ++ action.journal
    pub x : ℕ
    pub y : ℕ
    pub cause : why ≡ Degree x y
    pub meets : EliminationMeets told.system action x y

  -- both runs end, nothing is missed, and the reduction or the numbering meets degrees
  pub record HaltsAtTail : Type 0 where
    pub hold : AllLawsHold told.system
    pub group : Found ℕ
    pub action : Found ℕ
    pub both_end : BothEnd told group action
    pub met : ¬ (Misses told.system)
    pub entries : journal ≡ group.journal ++ action.journal
    pub x : ℕ
    pub y : ℕ
    pub cause : why ≡ Degree x y
    pub meets : ReductionMeets told.system x y ⊎ NumberingMeets told.system x y

-- what each phase says
abbrev pub HaltsIn : Told → Phase → List Entry → Why → Type 0
HaltsIn told Group journal why = HaltsAtGroup told journal why
HaltsIn told Laws journal why = HaltsAtLaws told journal why
HaltsIn told Action journal why = HaltsAtAction told journal why ⊎ HaltsAtElimination told journal why
HaltsIn told Tail journal why = HaltsAtTail told journal why

-- the laws hold, 1 lies in the extended ideal, and d is the first polynomial in the space's variables that shows it
pub record IsMiss (told : Told) (d : Poly) : Type 0 where
  pub hold : AllLawsHold told.system
  pub misses : Misses told.system
  pub cut : List Poly
  pub is_cut : IsCut told.system cut
  pub element : IsMissed told.system cut d

-- the first part of a law that is false, and its rest in the variables of the law
pub record IsFalseLaw (told : Told) (law : Law) (part : ℕ) (rest : Poly) : Type 0 where
  pub fault : IsFirstFault told.system law part rest
  pub normal : IsNormal (residue_ops told.system.p) (λ c. nat_lt c told.system.p) (variables_of told.system law) rest

-- a stop names the first part of a law that is false, what is missed, or a phase that halts; want of memory says nothing
abbrev pub GenStopsSo : Told → GenStop → Type 0
GenStopsSo told (stop.Law f) = IsFalseLaw told (law_of f.law) f.part f.rest
GenStopsSo told (stop.Missed d) = IsMiss told d
GenStopsSo told (stop.Incomplete phase journal why) = HaltsIn told phase (journal_of journal.items) why
GenStopsSo told stop.NoMemory = ⊤

-- ---- within the budget

-- where no more pairs than these fit, a halt for them comes after so many
abbrev pub SpendsPairs : Told → Phase → List Entry → (i j : ℕ) → Type 0
SpendsPairs told phase journal i j = told.pairs < 2 ^ 32 - 1 → HaltsIn told phase journal (why.Pairs i j) → length journal ≡ told.pairs

-- a halt for the steps comes after so many
abbrev pub SpendsSteps : Told → Phase → List Entry → List ℕ → Type 0
SpendsSteps told phase journal m = told.steps < 2 ^ 64 - 1 → HaltsIn told phase journal (why.Steps m) → (k : ℕ) × (steps_of journal + k ≡ told.steps)

-- every halt comes within the budget
abbrev pub HaltsWithin : Told → Phase → List Entry → Why → Type 0
HaltsWithin told phase journal cause = told.pairs < 2 ^ 32 - 1 → told.steps < 2 ^ 64 - 1 → HaltsIn told phase journal cause → IsWithin told journal
