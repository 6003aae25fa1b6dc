-- What `rewrite` answers to bytes.
use Rattle.std.specs.Prelude.{◌≡◌, ◌⊎◌, ℕ, List}
use Rattle.rinv_defs.specs.Invariant.{Fraction}
use Rattle.rinv_script.specs.declared.form.Form.TheVariants.{Rewrites}
use Rattle.rinv_script.specs.Queries.{Script}
use Rattle.rinv_lines.specs.declared.ending.Ending.{Ending}
use Rattle.rinv_lines.specs.declared.ending.Ending.TheVariants.{Done, Denied, Refused, Incomplete}
use Rattle.rinv_answers.specs.Commands.Generators.{AreComplete, IsGenDenial, IsPhaseCut}
use Rattle.rinv_queries.specs.declared.outcome.Outcome.{Outcome}
use Rattle.rinv_queries.specs.Outcomes.{AreAnswered}
use Rattle.rinv_queries.specs.Lines.{rewrite_text, ending_of}
use Rattle.rinv_queries.specs.Cuts.{IsQueryCut}
use Rattle.rinv_queries.specs.Commands.Script.{AnswersScript}

-- the generators and the answer to each query are printed
pub record ShowsExpressions (script : Script) (text : List ℕ) (ending : Ending) : Type 0 where
  pub fractions : List Fraction
  pub complete : AreComplete script.told.system fractions
  pub outcomes : List Outcome
  pub answered : AreAnswered script.told.system fractions script.queries outcomes
  pub printed : text ≡ rewrite_text script.told.system fractions script.queries outcomes
  pub ended : ending ≡ ending_of outcomes

-- the answer to a script: denied comes by the system or by a query
abbrev pub IsRewritten : Script → List ℕ → Ending → Type 0
IsRewritten script text Done = ShowsExpressions script text Done
IsRewritten script text Denied = IsGenDenial script.told text ⊎ ShowsExpressions script text Denied
IsRewritten script text Refused = ⊥
IsRewritten script text Incomplete = IsPhaseCut script.told text ⊎ IsQueryCut script.told script.queries text

abbrev pub IsRewriteAnswer : List ℕ → List ℕ → Ending → Type 0
IsRewriteAnswer bytes text ending = AnswersScript Rewrites IsRewritten bytes text ending
