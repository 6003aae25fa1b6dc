-- The degrees that the proofs of generators meet, and what a halt after both runs says.
--   FractionsMeet        in the proof that one of the fractions is invariant
--   HaltsAfter           a phase that halts for these degrees, with the entries of both runs
--   AreDegrees           two degrees
--   InvarianceStopsSo    why the generators are not proved to be invariant
--   AssemblyStopsSo      why `assemble` has no generators
use Rattle.std.specs.Prelude.{◌≡◌, ◌⊎◌, ℕ, List, [], ◌++◌, Contains, ⊤}
use Rattle.rinv_defs.specs.System.{System}
use Rattle.rinv_defs.specs.Invariant.{Fraction}
use Rattle.rinv_defs.specs.Extended.{Relation}
use Rattle.rinv_buch.specs.declared.kinds.Why.TheVariants.{Degree}
use Rattle.rinv_buch.specs.Kinds.{Found, journal_of}
use Rattle.rinv_laws.specs.Proofs.{BasisMeets}
use Rattle.rinv_change.specs.Cofactors.{ProofMeets}
use Rattle.rinv_coefficients.specs.Coefficients.{coefficients, generators_of}
use Rattle.rinv_gens.specs.Numbering.{WalkMeets}
use Rattle.rinv_gens.specs.declared.kinds.Phase.{Phase}
use Rattle.rinv_gens.specs.declared.kinds.Phase.TheVariants.{Tail}
use Rattle.rinv_gens.specs.declared.kinds.GenStop.{GenStop}
use Rattle.rinv_gens.specs.declared.kinds.GenStop.TheVariants as stop

-- the proof that one of the fractions is invariant meets these degrees: in the cofactors of the group's basis, or in its own
pub record FractionsMeet (s : System) (group : Found ℕ) (cs : List Fraction) (x y : ℕ) : Type 0 where
  pub generator : Fraction
  pub is_generator : Contains cs generator
  pub meets : BasisMeets s group x y ⊎ ProofMeets s group generator x y

-- the phase halts for degrees that are met so, with the entries of both runs; want of memory says nothing
abbrev pub HaltsAfter : (group action : Found ℕ) → Phase → (ℕ → ℕ → Type 0) → GenStop → Type 0
HaltsAfter group action phase Meets (stop.Law fault) = ⊥
HaltsAfter group action phase Meets (stop.Missed element) = ⊥
HaltsAfter group action phase Meets (stop.Incomplete halted journal why) =
    (halted ≡ phase) × (journal_of journal.items ≡ group.journal ++ action.journal) × (x : ℕ) × (y : ℕ) × (why ≡ Degree x y) × Meets x y
HaltsAfter group action phase Meets stop.NoMemory = ⊤

-- these two degrees
abbrev pub AreDegrees : (left right x y : ℕ) → Type 0
AreDegrees left right x y = (x ≡ left) × (y ≡ right)

-- the proofs of the fractions halt
abbrev pub InvarianceStopsSo : System → (group action : Found ℕ) → List Fraction → GenStop → Type 0
InvarianceStopsSo s group action cs stop = HaltsAfter group action Tail (FractionsMeet s group cs) stop

-- numbering the coefficients of the relations, or proving the generators invariant, halts
abbrev pub AssemblyStopsSo : System → (group action : Found ℕ) → List Relation → GenStop → Type 0
AssemblyStopsSo s group action monic stop =
    HaltsAfter group action Tail (λ x y. WalkMeets s.p [] (coefficients monic) x y ⊎ FractionsMeet s group (generators_of s.p monic) x y) stop
