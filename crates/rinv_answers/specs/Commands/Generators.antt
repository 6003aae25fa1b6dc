-- What `gen` answers to bytes.
use Rattle.std.specs.Prelude.{◌≡◌, ℕ, List, [], All}
use Rattle.rinv_defs.specs.System.{System, Poly}
use Rattle.rinv_defs.specs.Laws.{AllLawsHold}
use Rattle.rinv_defs.specs.Invariant.{Fraction, IsInvariant}
use Rattle.rinv_defs.specs.Generators.{Generates}
use Rattle.rinv_defs.specs.Extended.{Misses}
use Rattle.rinv_groebner.specs.Journal.{Entry}
use Rattle.rinv_text.specs.Told.{Told}
use Rattle.rinv_buch.specs.declared.kinds.Why.{Why}
use Rattle.rinv_coefficients.specs.Coefficients.{AreGenerators}
use Rattle.rinv_gens.specs.declared.kinds.Phase.{Phase}
use Rattle.rinv_gens.specs.Halts.{HaltsIn, IsMiss}
use Rattle.rinv_lines.specs.declared.ending.Ending.{Ending}
use Rattle.rinv_lines.specs.declared.ending.Ending.TheVariants.{Done, Denied, Refused, Incomplete}
use Rattle.rinv_answers.specs.Budgets.{IsWithin}
use Rattle.rinv_answers.specs.Commands.Laws.{IsDenial}
use Rattle.rinv_answers.specs.GeneratorLines.{gen_text, missed_text}
use Rattle.rinv_answers.specs.Incomplete.{incomplete_line, cause_of, phase_of}
use Rattle.rinv_answers.specs.Told.{AnswersSystem}

-- The laws hold; the fractions are invariant; where there is no section each invariant fraction, of any degree, is a rational expression
-- in them; and they are the coefficients of the reduced basis of the extended ideal, in their order, and no others.
pub record AreComplete (s : System) (cs : List Fraction) : Type 0 where
  pub laws : AllLawsHold s
  pub invariant : All (IsInvariant s) cs
  pub generates : s.section ≡ [] → Generates s cs
  pub met : ¬ (Misses s)
  pub generators : AreGenerators s cs

-- the generators are printed, and complete
pub record ShowsGenerators (told : Told) (text : List ℕ) : Type 0 where
  pub fractions : List Fraction
  pub complete : AreComplete told.system fractions
  pub printed : text ≡ gen_text told.system fractions

-- a law is false, or the section misses the orbits, and the text shows it
pub data IsGenDenial (told : Told) (text : List ℕ) : Type 0 where
  in_law : IsDenial told text → IsGenDenial told text
  missed : (d : Poly) → IsMiss told d → text ≡ missed_text told.system d → IsGenDenial told text

-- a phase halts, with a journal within the budget
pub record IsPhaseCut (told : Told) (text : List ℕ) : Type 0 where
  pub phase : Phase
  pub journal : List Entry
  pub why : Why
  pub halts : HaltsIn told phase journal why
  pub within : IsWithin told journal
  pub printed : text ≡ incomplete_line (phase_of phase) (cause_of told why)

-- why there are no generators
abbrev pub IsUnfound : Told → List ℕ → Ending → Type 0
IsUnfound told text Done = ⊥
IsUnfound told text Denied = IsGenDenial told text
IsUnfound told text Refused = ⊥
IsUnfound told text Incomplete = IsPhaseCut told text

-- the answer to a system
abbrev pub IsFound : Told → List ℕ → Ending → Type 0
IsFound told text Done = ShowsGenerators told text
IsFound told text Denied = IsGenDenial told text
IsFound told text Refused = ⊥
IsFound told text Incomplete = IsPhaseCut told text

abbrev pub IsGenAnswer : List ℕ → List ℕ → Ending → Type 0
IsGenAnswer bytes text ending = AnswersSystem IsFound bytes text ending
