-- What `bench` answers. Nothing is read: the script is that of the workload.
use Rattle.std.specs.Prelude.{◌≡◌, ◌⊎◌, ℕ, List, length, Some}
use Rattle.rinv_defs.specs.Invariant.{Fraction}
use Rattle.rinv_defs.specs.Generators.{Expression}
use Rattle.rinv_lines.specs.declared.ending.Ending.{Ending}
use Rattle.rinv_lines.specs.declared.ending.Ending.TheVariants.{Done, Denied, Refused, Incomplete}
use Rattle.rinv_workload.specs.Workload.{workload_text}
use Rattle.rinv_script.specs.declared.form.Form.TheVariants.{Whole}
use Rattle.rinv_script.specs.Queries.{Script}
use Rattle.rinv_answers.specs.Commands.Generators.{AreComplete, IsGenDenial, IsPhaseCut}
use Rattle.rinv_queries.specs.declared.outcome.Outcome.{Outcome}
use Rattle.rinv_queries.specs.Outcomes.{AreAnswered}
use Rattle.rinv_queries.specs.Cuts.{IsQueryCut}
use Rattle.rinv_queries.specs.Commands.Script.{AnswersScript}
use Rattle.rinv_bench.specs.Summary.{last_expression, summary_text}
use Rattle.rinv_bench.specs.Last.{IsLast}

-- The generators are complete, and each query has its answer: an invariant its expression in them, and a fraction that is not invariant the
-- rest of its change. The text has the numbers of generators, of expressions and of such rests, and the last expression with the number of
-- its query.
pub record SumsUp (k : ℕ) (script : Script) (text : List ℕ) : Type 0 where
  pub fractions : List Fraction
  pub complete : AreComplete script.told.system fractions
  pub outcomes : List Outcome
  pub answered : AreAnswered script.told.system fractions script.queries outcomes
  pub last : (j : ℕ) (e : Expression) → last_expression 1 outcomes ≡ Some (j, e) → IsLast script.told.system fractions 1 script.queries outcomes j e
  pub printed : text ≡ summary_text k script.told.system (length fractions) outcomes

-- the answer to the script of the workload: no query denies
abbrev pub IsMeasured : ℕ → Script → List ℕ → Ending → Type 0
IsMeasured k script text Done = SumsUp k script text
IsMeasured k script text Denied = IsGenDenial script.told text
IsMeasured k script text Refused = ⊥
IsMeasured k script text Incomplete = IsPhaseCut script.told text ⊎ IsQueryCut script.told script.queries text

abbrev pub IsBenchAnswer : ℕ → List ℕ → Ending → Type 0
IsBenchAnswer k text ending = AnswersScript Whole (IsMeasured k) (workload_text k) text ending
