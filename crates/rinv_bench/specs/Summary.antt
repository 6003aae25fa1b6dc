-- The summary of a workload: how many of its outcomes there are of each kind, and the last expression.
use Rattle.std.specs.Prelude.{ℕ, ◌+◌, List, [], ◌∷◌, ◌++◌, codes, decimal, Bool, true, false, Option, Some, None}
use Rattle.std.specs.Option.{option_or}
use Rattle.std.specs.List.{count_by}
use Rattle.rinv_defs.specs.System.{System}
use Rattle.rinv_defs.specs.Generators.{Expression}
use Rattle.rinv_defs.specs.Text.{fraction_text}
use Rattle.rinv_text.specs.Names.{symbols}
use Rattle.rinv_answers.specs.GeneratorLines.{complete_line}
use Rattle.rinv_queries.specs.declared.outcome.Outcome.{Outcome}
use Rattle.rinv_queries.specs.declared.outcome.Outcome.TheVariants.{LawsHold, GeneratorsShown, Invariant, NotInvariant, Rewritten, NotRewritten, Vanishing}

-- ---- the outcomes

-- the fraction is invariant, and this is its expression
abbrev pub is_rewritten : Outcome → Bool
is_rewritten LawsHold = false
is_rewritten GeneratorsShown = false
is_rewritten Invariant = false
is_rewritten (NotInvariant rest) = false
is_rewritten (Rewritten e) = true
is_rewritten (NotRewritten rest) = false
is_rewritten Vanishing = false

-- the fraction was to be rewritten, and is not invariant
abbrev pub is_not_invariant : Outcome → Bool
is_not_invariant LawsHold = false
is_not_invariant GeneratorsShown = false
is_not_invariant Invariant = false
is_not_invariant (NotInvariant rest) = false
is_not_invariant (Rewritten e) = false
is_not_invariant (NotRewritten rest) = true
is_not_invariant Vanishing = false

-- the expression that the outcome with this number is
abbrev pub expression_at : ℕ → Outcome → Option (ℕ × Expression)
expression_at k LawsHold = None
expression_at k GeneratorsShown = None
expression_at k Invariant = None
expression_at k (NotInvariant rest) = None
expression_at k (Rewritten e) = Some (k, e)
expression_at k (NotRewritten rest) = None
expression_at k Vanishing = None

-- the last expression, and its number, where the outcomes are numbered from k on
unfoldable pub last_expression : ℕ → List Outcome → Option (ℕ × Expression)
last_expression k [] = None
last_expression k (o ∷ os) = option_or (last_expression (k + 1) os) (expression_at k o)

-- ---- the text

-- a number behind its words
abbrev pub number_line : List ℕ → ℕ → List ℕ
number_line words n = words ++ decimal n ++ codes "\n"

-- the last expression, where there is one, with names for the generators
abbrev pub last_line : System → List (List ℕ) → Option (ℕ × Expression) → List ℕ
last_line s names None = []
last_line s names (Some (k, e)) = codes "last " ++ decimal k ++ codes " = " ++ fraction_text s.p names e ++ codes "\n"

-- the lines for so many queries and generators, without the last one
unfoldable pub summary_lines : ℕ → System → ℕ → List Outcome → List ℕ
summary_lines k s count os =
    number_line (codes "bench ") k ++ number_line (codes "generators ") count
    ++ number_line (codes "rewritten ") (count_by is_rewritten os)
    ++ number_line (codes "not invariant ") (count_by is_not_invariant os)
    ++ last_line s (symbols count) (last_expression 1 os)

abbrev pub summary_text : ℕ → System → ℕ → List Outcome → List ℕ
summary_text k s count os = summary_lines k s count os ++ complete_line s
