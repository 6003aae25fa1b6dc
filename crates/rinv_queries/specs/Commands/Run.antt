-- What `run` answers to bytes.
use Rattle.std.specs.Prelude.{◌≡◌, ◌⊎◌, ℕ, List, [], Bool, true, false}
use Rattle.rinv_defs.specs.System.{System}
use Rattle.rinv_defs.specs.Laws.{AllLawsHold}
use Rattle.rinv_defs.specs.Invariant.{Fraction}
use Rattle.rinv_text.specs.Told.{Told}
use Rattle.rinv_script.specs.declared.form.Form.TheVariants.{Whole}
use Rattle.rinv_script.specs.Queries.{Script, need_generators}
use Rattle.rinv_lines.specs.declared.ending.Ending.{Ending}
use Rattle.rinv_lines.specs.declared.ending.Ending.TheVariants.{Done, Denied, Refused, Incomplete}
use Rattle.rinv_answers.specs.Commands.Laws.{IsDenial, IsCut}
use Rattle.rinv_answers.specs.Commands.Generators.{AreComplete, IsGenDenial, IsPhaseCut}
use Rattle.rinv_queries.specs.declared.outcome.Outcome.{Outcome}
use Rattle.rinv_queries.specs.Outcomes.{AreAnswered}
use Rattle.rinv_queries.specs.Lines.{run_text, ending_of}
use Rattle.rinv_queries.specs.Cuts.{IsQueryCut}
use Rattle.rinv_queries.specs.Commands.Script.{AnswersScript}

-- ---- where generators are needed, and where not

-- the fractions are generators, where they are needed, and else none
abbrev pub AreCompleteIf : Bool → System → List Fraction → Type 0
AreCompleteIf true s cs = AreComplete s cs
AreCompleteIf false s cs = cs ≡ []

-- a law is false; or, where generators are needed, the section misses
abbrev pub IsDenialIf : Bool → Told → List ℕ → Type 0
IsDenialIf true told text = IsGenDenial told text
IsDenialIf false told text = IsDenial told text

-- a phase halts: where no generators are needed, one of the first two
abbrev pub IsCutIf : Bool → Told → List ℕ → Type 0
IsCutIf true told text = IsPhaseCut told text
IsCutIf false told text = IsCut told text

-- why not all is known that the queries need
abbrev pub IsUnknown : Bool → Told → List ℕ → Ending → Type 0
IsUnknown needed told text Done = ⊥
IsUnknown needed told text Denied = IsDenialIf needed told text
IsUnknown needed told text Refused = ⊥
IsUnknown needed told text Incomplete = IsCutIf needed told text

-- ---- the answer

-- the laws hold, and each query is answered, with generators where some query needs them
pub record AnswersQueries (script : Script) (text : List ℕ) (ending : Ending) : Type 0 where
  pub laws : AllLawsHold script.told.system
  pub fractions : List Fraction
  pub complete : AreCompleteIf (need_generators script.queries) script.told.system fractions
  pub outcomes : List Outcome
  pub answered : AreAnswered script.told.system fractions script.queries outcomes
  pub printed : text ≡ run_text script.told.system fractions script.queries outcomes
  pub ended : ending ≡ ending_of outcomes

-- the answer to a script
abbrev pub IsScripted : Script → List ℕ → Ending → Type 0
IsScripted script text Done = AnswersQueries script text Done
IsScripted script text Denied = IsDenialIf (need_generators script.queries) script.told text ⊎ AnswersQueries script text Denied
IsScripted script text Refused = ⊥
IsScripted script text Incomplete = IsCutIf (need_generators script.queries) script.told text ⊎ IsQueryCut script.told script.queries text

abbrev pub IsRunAnswer : List ℕ → List ℕ → Ending → Type 0
IsRunAnswer bytes text ending = AnswersScript Whole IsScripted bytes text ending
