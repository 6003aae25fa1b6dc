-- What a script asks of a system.
use Rattle.std.specs.Prelude.{ℕ, List, Bool, true, false}
use Rattle.std.specs.List.{list_any}
use Rattle.rinv_algebra.specs.Fraction.{Fraction}
use Rattle.rinv_text.specs.Told.{Told}

-- whether the laws hold; for the generators; whether a fraction is invariant; for its expression in the generators
pub data Query : Type 0 where
  for_laws : Query
  for_generators : Query
  whether_invariant : Fraction ℕ → Query
  for_expression : Fraction ℕ → Query

-- a system with its budgets, and what is asked of it
pub record Script : Type 0 where
  pub told : Told
  pub queries : List Query

-- whether the generators are needed
abbrev pub needs_generators : Query → Bool
needs_generators for_laws = false
needs_generators for_generators = true
needs_generators (whether_invariant f) = false
needs_generators (for_expression f) = true

abbrev pub need_generators : List Query → Bool
need_generators queries = list_any needs_generators queries
