-- What a query of a script is answered, and when that is true.
--   denies          whether the outcome denies what was asked
--   IsWritten       an invariant and its expression in the generators
--   Answers         the outcome is the answer to the query
use Rattle.std.specs.Prelude.{List, Bool, true, false}
use Rattle.std.specs.List.{AllZip}
use Rattle.rinv_defs.specs.System.{System, Poly}
use Rattle.rinv_defs.specs.Laws.{AllLawsHold}
use Rattle.rinv_defs.specs.Invariant.{Fraction, IsInvariant}
use Rattle.rinv_defs.specs.Generators.{Expression, Denotes}
use Rattle.rinv_defs.specs.Extended.{Vanishes}
use Rattle.rinv_change.specs.Changes.{IsStray}
use Rattle.rinv_rewrite.specs.Taken.{IsVanishing}
use Rattle.rinv_script.specs.Queries.{Query, for_laws, for_generators, whether_invariant, for_expression}
use Rattle.rinv_queries.specs.declared.outcome.Outcome.{Outcome}
use Rattle.rinv_queries.specs.declared.outcome.Outcome.TheVariants.{LawsHold, GeneratorsShown, Invariant, NotInvariant, Rewritten, NotRewritten, Vanishing}

-- the outcome denies what was asked
abbrev pub denies : Outcome → Bool
denies LawsHold = false
denies GeneratorsShown = false
denies Invariant = false
denies (NotInvariant rest) = true
denies (Rewritten e) = false
denies (NotRewritten rest) = true
denies Vanishing = true

-- f is invariant, its denominator does not vanish on the section, and it is the expression e in the fractions cs
pub record IsWritten (s : System) (cs : List Fraction) (f : Fraction) (e : Expression) : Type 0 where
  pub is_invariant : IsInvariant s f
  pub lasts : ¬ (Vanishes s f.1)
  pub denotes : Denotes s.p cs e f

-- The outcome is the answer to the query, with cs for the generators. A fraction is not invariant, or its denominator vanishes, or neither:
-- so each outcome comes exactly where it is true.
pub data Answers (s : System) (cs : List Fraction) : Query → Outcome → Type 0 where
  they_hold : AllLawsHold s → Answers s cs for_laws LawsHold
  they_are_shown : Answers s cs for_generators GeneratorsShown
  it_is_invariant : {f : Fraction} → IsInvariant s f → Answers s cs (whether_invariant f) Invariant
  it_is_not : {f : Fraction} {rest : Poly} → IsStray s f rest → Answers s cs (whether_invariant f) (NotInvariant rest)
  it_is_written : {f : Fraction} {e : Expression} → IsWritten s cs f e → Answers s cs (for_expression f) (Rewritten e)
  it_is_not_written : {f : Fraction} {rest : Poly} → IsStray s f rest → Answers s cs (for_expression f) (NotRewritten rest)
  it_vanishes : {f : Fraction} → IsVanishing s f → Answers s cs (for_expression f) Vanishing

-- each query has its answer, in their order
abbrev pub AreAnswered : System → List Fraction → List Query → List Outcome → Type 0
AreAnswered s cs qs os = AllZip (Answers s cs) qs os
