-- The degrees that the answer to a query meets, and the line that tells so.
use Rattle.std.specs.Prelude.{◌≡◌, ℕ, ◌+◌, List, ◌∷◌, ◌++◌, length, ⊤}
use Rattle.rinv_defs.specs.System.{Poly}
use Rattle.rinv_defs.specs.Laws.{AllLawsHold}
use Rattle.rinv_text.specs.Told.{Told}
use Rattle.rinv_buch.specs.Kinds.{Found}
use Rattle.rinv_laws.specs.Group.{IsGroupBasis}
use Rattle.rinv_change.specs.Changes.{ChangeMeets}
use Rattle.rinv_gens.specs.declared.kinds.Findings.{Findings}
use Rattle.rinv_gens.specs.Found.{ArePieces}
use Rattle.rinv_rewrite.specs.Prepared.{symbol_relations}
use Rattle.rinv_rewrite.specs.Needed.{RewritingMeets}
use Rattle.rinv_script.specs.Queries.{Query, for_laws, for_generators, whether_invariant, for_expression}
use Rattle.rinv_lines.specs.declared.ending.Ending.{Ending}
use Rattle.rinv_lines.specs.declared.ending.Ending.TheVariants.{Done, Denied, Refused, Incomplete}
use Rattle.rinv_answers.specs.declared.incomplete.Phase.TheVariants.{Query as AtQuery}
use Rattle.rinv_answers.specs.declared.incomplete.Cause.TheVariants.{Degree}
use Rattle.rinv_answers.specs.Budgets.{IsWithin}
use Rattle.rinv_answers.specs.Incomplete.{incomplete_line}
use Rattle.rinv_queries.specs.declared.answering.QueryStop.{QueryStop}
use Rattle.rinv_queries.specs.declared.answering.QueryStop.TheVariants as stop

-- the test of an invariant by a basis of the group's ideal, made within the budget, meets these degrees
pub record TestMeets (told : Told) (test : Found ℕ → ℕ → ℕ → Type 0) (x y : ℕ) : Type 0 where
  pub group : Found ℕ
  pub reduced : List Poly
  pub basis : IsGroupBasis told.system group reduced
  pub within : IsWithin told group.journal
  pub meets : test group x y

-- so does rewriting by what is found for the system
pub record RewriteMeets (told : Told) (rewriting : Findings → ℕ → ℕ → Type 0) (x y : ℕ) : Type 0 where
  pub found : Findings
  pub pieces : ArePieces told found
  pub meets : rewriting found x y

-- the answer to a query meets these degrees
abbrev pub QueryMeets : Told → Query → ℕ → ℕ → Type 0
QueryMeets told for_laws x y = ⊥
QueryMeets told for_generators x y = ⊥
QueryMeets told (whether_invariant f) x y = TestMeets told (λ group. ChangeMeets told.system group f) x y
QueryMeets told (for_expression f) x y = RewriteMeets told (λ found. RewritingMeets told.system found.group.basis found.fractions.items (symbol_relations told.system.p found.relations.items) f) x y

-- the answer to the query with the number k, counted from 1, meets them
pub record IsMetAt (told : Told) (queries : List Query) (k x y : ℕ) : Type 0 where
  pub before : List Query
  pub query : Query
  pub after : List Query
  pub whole : queries ≡ before ++ query ∷ after
  pub number : k ≡ length before + 1
  pub meets : QueryMeets told query x y

-- a stop tells the query and the degrees; want of memory says nothing
abbrev pub MeetsAt : Told → List Query → QueryStop → Type 0
MeetsAt told queries (stop.Degree k x y) = IsMetAt told queries k x y
MeetsAt told queries stop.NoMemory = ⊤

-- the laws hold, the answer to one of the queries meets degrees, and the text says to which
pub record IsQueryCut (told : Told) (queries : List Query) (text : List ℕ) : Type 0 where
  pub laws : AllLawsHold told.system
  pub number : ℕ
  pub x : ℕ
  pub y : ℕ
  pub meets : IsMetAt told queries number x y
  pub printed : text ≡ incomplete_line (AtQuery number) (Degree x y)

-- the answer to a query that is cut
abbrev pub IsUnanswered : Told → List Query → List ℕ → Ending → Type 0
IsUnanswered told queries text Done = ⊥
IsUnanswered told queries text Denied = ⊥
IsUnanswered told queries text Refused = ⊥
IsUnanswered told queries text Incomplete = IsQueryCut told queries text
