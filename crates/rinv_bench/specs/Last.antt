-- The last expression of a workload, and the query that it answers.
use Rattle.std.specs.Prelude.{◌≡◌, ℕ, ◌+◌, List, ◌∷◌, ◌++◌, length, false}
use Rattle.std.specs.List.{list_any}
use Rattle.rinv_defs.specs.System.{System}
use Rattle.rinv_defs.specs.Invariant.{Fraction}
use Rattle.rinv_defs.specs.Generators.{Expression}
use Rattle.rinv_script.specs.Queries.{Query, for_expression}
use Rattle.rinv_queries.specs.declared.outcome.Outcome.{Outcome}
use Rattle.rinv_queries.specs.declared.outcome.Outcome.TheVariants.{Rewritten}
use Rattle.rinv_queries.specs.Outcomes.{IsWritten}
use Rattle.rinv_bench.specs.Summary.{is_rewritten}

-- The query with the number k, where they are numbered from n on, asks for the expression of an invariant fraction, e denotes it in the
-- generators, and none behind it has an expression.
pub record IsLast (s : System) (cs : List Fraction) (n : ℕ) (queries : List Query) (outcomes : List Outcome) (k : ℕ) (e : Expression) : Type 0 where
  pub before : List Query
  pub fraction : Fraction
  pub after : List Query
  pub whole : queries ≡ before ++ for_expression fraction ∷ after
  pub number : k ≡ n + length before
  pub written : IsWritten s cs fraction e
  pub earlier : List Outcome
  pub later : List Outcome
  pub answers : outcomes ≡ earlier ++ Rewritten e ∷ later
  pub place : length earlier ≡ length before
  pub none_behind : list_any is_rewritten later ≡ false
