-- What holds of a draft after lines that were taken, and what calls on it say.
use Rattle.std.specs.Prelude.{◌≡◌, ℕ, List, [], ◌∷◌, ◌++◌, length, map, All, false, Option, None, unwrap_or}
use Rattle.rinv_algebra.specs.Fraction.{Fraction}
use Rattle.rinv_frac.specs.Fractions.{IsStored}
use Rattle.rinv_text.specs.declared.fault.TextCode.{TextCode}
use Rattle.rinv_text.specs.declared.fault.TextCode.TheVariants.{Expression}
use Rattle.rinv_text.specs.declared.formal.Formal.{Formal}
use Rattle.rinv_text.specs.Names.{meet}
use Rattle.rinv_system.specs.declared.refused.Code.{Code}
use Rattle.rinv_system.specs.Drafts.{modulus, space_names}
use Rattle.rinv_system.specs.Stops.{IsReached}
use Rattle.rinv_script.specs.Scripts.{ScriptDraft, name_fault, IsFractionExpression, IsFraction, IsFault, IsRefusedInTurn, IsScriptRestRefused, IsScriptRestTaken}
use Rattle.rinv_script.specs.Stored.{IsStoredQuery}
use Rattle.rinv_script.specs.Words.{AsksAlone, AsksOf}
use Rattle.rinv_script.specs.Queries.{Query}
use Rattle.rinv_script.specs.declared.words.ScriptWord.{ScriptWord}

-- the lines of the system made its draft; no abbreviation has the name of a variable; all fractions are in the space's variables, and stored
pub record IsKept (d : ScriptDraft) : Type 0 where
  pub system : IsReached d.system
  pub apart : meet (space_names d.system) (map (λ a. a.name) d.defs) ≡ false
  pub values : All (λ a. IsStored (modulus d.system) (length (space_names d.system)) a.value) d.defs
  pub queries : All (IsStoredQuery (modulus d.system) (length (space_names d.system))) d.queries

-- the code of a fault of a text, where the next code, if there is one, comes behind the grammar
abbrev pub code_behind : Option TextCode → TextCode → TextCode
code_behind next Expression = Expression
code_behind next code = unwrap_or next code

-- how the text of a fraction is refused then
abbrev pub IsValueRefused : ScriptDraft → List ℕ → Option TextCode → Code → Type 0
IsValueRefused d text next code = IsRefusedInTurn (IsFractionExpression text) next (IsFault d text) code

-- the abbreviation of a new name by the value of a text is added
pub record Defines (d : ScriptDraft) (name text : List ℕ) (next : ScriptDraft) : Type 0 where
  pub value : Fraction ℕ
  pub formal : Formal
  pub new : name_fault d name ≡ None
  pub denotes : IsFraction d text value formal
  pub is : next ≡ record d { defs = d.defs ++ record { name = name; value = value; formal = formal } ∷ [] }

-- the draft with an abbreviation more
abbrev pub with_definition : ScriptDraft → (name : List ℕ) → Fraction ℕ → Formal → ScriptDraft
with_definition d name value formal = record d { defs = d.defs ++ record { name = name; value = value; formal = formal } ∷ [] }

-- whichever word asks a query alone, this rest of its line is taken; or it is refused with a code
abbrev pub TakesAlone : ScriptDraft → List ℕ → Type 0
TakesAlone d rest = (w : ScriptWord) (q : Query) → AsksAlone w q → IsScriptRestTaken d rest w (record d { queries = d.queries ++ q ∷ [] })

abbrev pub RefusesAlone : ScriptDraft → List ℕ → Code → Type 0
RefusesAlone d rest code = (w : ScriptWord) (q : Query) → AsksAlone w q → IsScriptRestRefused d rest w code

-- whichever word asks one of a fraction, the rest is taken with this one; or it is refused with a code
abbrev pub TakesAsked : ScriptDraft → List ℕ → Fraction ℕ → Type 0
TakesAsked d rest f = (w : ScriptWord) (ask : Fraction ℕ → Query) → AsksOf w ask → IsScriptRestTaken d rest w (record d { queries = d.queries ++ ask f ∷ [] })

abbrev pub RefusesAsked : ScriptDraft → List ℕ → Code → Type 0
RefusesAsked d rest code = (w : ScriptWord) (ask : Fraction ℕ → Query) → AsksOf w ask → IsScriptRestRefused d rest w code
