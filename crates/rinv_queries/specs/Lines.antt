-- The lines that are printed of queries, and the texts of the commands.
use Rattle.std.specs.Prelude.{ℕ, ◌+◌, List, [], ◌∷◌, ◌++◌, length, codes, decimal, Bool, true, false, ◌||◌, if◌then◌else◌}
use Rattle.std.specs.List.{list_any}
use Rattle.rinv_defs.specs.System.{System, Poly}
use Rattle.rinv_defs.specs.Invariant.{Fraction}
use Rattle.rinv_defs.specs.Text.{poly_text, fraction_text}
use Rattle.rinv_text.specs.Names.{symbols}
use Rattle.rinv_script.specs.Queries.{Query, for_laws, for_generators, whether_invariant, for_expression, needs_generators, need_generators}
use Rattle.rinv_lines.specs.declared.ending.Ending.{Ending}
use Rattle.rinv_lines.specs.declared.ending.Ending.TheVariants.{Done, Denied}
use Rattle.rinv_answers.specs.GeneratorLines.{generator_lines, complete_line}
use Rattle.rinv_queries.specs.declared.outcome.Outcome.{Outcome}
use Rattle.rinv_queries.specs.declared.outcome.Outcome.TheVariants.{LawsHold, GeneratorsShown, Invariant, NotInvariant, Rewritten, NotRewritten, Vanishing}
use Rattle.rinv_queries.specs.Outcomes.{denies}

-- ---- the lines of a query

-- the normal form of a change, in the names of the group's and the space's variables
abbrev pub rest_text : System → Poly → List ℕ
rest_text s rest = poly_text s.p (s.group ++ s.space) rest

-- the line of a query's outcome, by its number, with names for the generators; these have lines of their own
unfoldable pub outcome_line : System → List (List ℕ) → ℕ → Outcome → List ℕ
outcome_line s names k LawsHold = codes "laws " ++ decimal k ++ codes " hold\n"
outcome_line s names k GeneratorsShown = []
outcome_line s names k Invariant = codes "invariant " ++ decimal k ++ codes " yes\n"
outcome_line s names k (NotInvariant rest) = codes "invariant " ++ decimal k ++ codes " no rest " ++ rest_text s rest ++ codes "\n"
outcome_line s names k (Rewritten e) = codes "rewrite " ++ decimal k ++ codes " = " ++ fraction_text s.p names e ++ codes "\n"
outcome_line s names k (NotRewritten rest) = codes "rewrite " ++ decimal k ++ codes " not invariant rest " ++ rest_text s rest ++ codes "\n"
outcome_line s names k Vanishing = codes "rewrite " ++ decimal k ++ codes " vanishing denominator\n"

-- the generators, where they were not shown before
abbrev pub unless_shown : Bool → List ℕ → List ℕ
unless_shown shown lines = if shown then [] else lines

-- what stands before a query's line: the generators under a heading where they are asked for, and before the first expression where none
-- were shown
abbrev pub lines_before : System → List Fraction → (shown : Bool) → ℕ → Query → List ℕ
lines_before s cs shown k for_laws = []
lines_before s cs shown k for_generators = codes "generators " ++ decimal k ++ codes "\n" ++ generator_lines s cs
lines_before s cs shown k (whether_invariant f) = []
lines_before s cs shown k (for_expression f) = unless_shown shown (generator_lines s cs)

-- the lines of a query
abbrev pub query_text : System → List Fraction → (shown : Bool) → ℕ → Query → Outcome → List ℕ
query_text s cs shown k q o = lines_before s cs shown k q ++ outcome_line s (symbols (length cs)) k o

-- those of queries from number k on
unfoldable pub query_lines : System → List Fraction → (shown : Bool) → ℕ → List Query → List Outcome → List ℕ
query_lines s cs shown k [] os = []
query_lines s cs shown k (q ∷ qs) [] = []
query_lines s cs shown k (q ∷ qs) (o ∷ os) = query_text s cs shown k q o ++ query_lines s cs (shown || needs_generators q) (k + 1) qs os

-- ---- the texts

-- the last line of a script's answer: `done` where no generators are needed
abbrev pub last_line_of : Bool → System → List ℕ
last_line_of needed s = if needed then complete_line s else codes "done\n"

-- what `rewrite` prints: the generators, then the queries
abbrev pub rewrite_text : System → List Fraction → List Query → List Outcome → List ℕ
rewrite_text s cs qs os = generator_lines s cs ++ query_lines s cs true 1 qs os ++ complete_line s

-- what `run` prints: the queries
abbrev pub run_text : System → List Fraction → List Query → List Outcome → List ℕ
run_text s cs qs os = query_lines s cs false 1 qs os ++ last_line_of (need_generators qs) s

-- how answered queries end
abbrev pub ending_of : List Outcome → Ending
ending_of os = if list_any denies os then Denied else Done
