-- What the lines of a script told so far, and what follows the word of a script line.
use Rattle.std.specs.Prelude.{◌≡◌, ℕ, ◌+◌, List, [], ◌∷◌, ◌++◌, length, drop, map, Bool, not, ◌||◌, ◌==◌, nat_lt, nat_le, if◌then◌else◌, IsTrue, Option, Some, None}
use Rattle.std.specs.List.{list_any, take_while, position_or_len}
use Rattle.rinv_algebra.specs.Fraction.{Fraction}
use Rattle.rinv_frac.specs.Fractions.{IsStored}
use Rattle.rinv_text.specs.declared.fault.TextFault.{TextFault}
use Rattle.rinv_text.specs.declared.fault.TextCode.{TextCode}
use Rattle.rinv_text.specs.declared.fault.TextCode.TheVariants.{Expression, Name, Limit}
use Rattle.rinv_text.specs.declared.formal.Formal.{Formal}
use Rattle.rinv_text.specs.Tokens.{fraction_tokens}
use Rattle.rinv_text.specs.Grammar.{Tree}
use Rattle.rinv_text.specs.Names.{is_new_name}
use Rattle.rinv_text.specs.Reading.{Definition}
use Rattle.rinv_text.specs.Stops.{AreExpression, DenotesFraction, IsRefusedFraction}
use Rattle.rinv_system.specs.declared.refused.Code.{Code}
use Rattle.rinv_system.specs.declared.refused.Code.TheVariants.{Text}
use Rattle.rinv_system.specs.Lines.{to_last_word}
use Rattle.rinv_system.specs.Entries.{is_name_word}
use Rattle.rinv_system.specs.Drafts.{Draft, blank, modulus, group_names, space_names}
use Rattle.rinv_script.specs.declared.form.Form.{Form}
use Rattle.rinv_script.specs.declared.words.ScriptWord.{ScriptWord}
use Rattle.rinv_script.specs.declared.words.ScriptWord.TheVariants.{Def}
use Rattle.rinv_script.specs.Queries.{Query}
use Rattle.rinv_script.specs.Words.{AsksAlone, AsksOf}

-- the form that is read, the lines of the system, the abbreviations and the queries
pub record ScriptDraft : Type 0 where
  pub form : Form
  pub system : Draft
  pub defs : List Definition
  pub queries : List Query

-- before the first line
abbrev pub blank_script : Form → ScriptDraft
blank_script form = record { form = form; system = blank; defs = []; queries = [] }

-- whether a script line has come
abbrev pub has_script : ScriptDraft → Bool
has_script d = nat_lt 0 (length d.defs) || nat_lt 0 (length d.queries)

-- the greatest number of queries
abbrev pub max_queries : ℕ
max_queries = 10000

-- ---- abbreviations

-- what stands before the first `=`, without blanks at its end, and what stands behind
abbrev pub defined_name : List ℕ → List ℕ
defined_name rest = to_last_word (take_while (λ b. not (b == 61)) rest)

abbrev pub defined_value : List ℕ → List ℕ
defined_value rest = drop (position_or_len (λ b. b == 61) rest + 1) rest

-- the text is an expression in which `/` may stand
abbrev pub IsFractionExpression : List ℕ → Type 0
IsFractionExpression text = (t : Tree) × AreExpression (fraction_tokens text) t

-- a name, `=` and a fraction
pub record IsDefinition (rest : List ℕ) : Type 0 where
  pub equals : IsTrue (list_any (λ b. b == 61) rest)
  pub name : IsTrue (is_name_word (defined_name rest))
  pub value : IsFractionExpression (defined_value rest)

-- ---- refusals

-- in turn: by the grammar, by a code that comes behind it, where there is one, and by a fault
pub data IsRefusedInTurn (IsWellFormed : Type 0) (next : Option TextCode) (HasFault : TextFault → Type 0) : Code → Type 0 where
  by_grammar : ¬ IsWellFormed → IsRefusedInTurn IsWellFormed next HasFault (Text Expression)
  by_code : {code : TextCode} → IsWellFormed → next ≡ Some code → IsRefusedInTurn IsWellFormed next HasFault (Text code)
  by_fault : {fault : TextFault} → IsWellFormed → next ≡ None → HasFault fault → IsRefusedInTurn IsWellFormed next HasFault (Text fault.code)

module _ (d : ScriptDraft) where
  -- the names that a new one may not be
  abbrev pub given_names : List (List ℕ)
  given_names = group_names d.system ++ space_names d.system ++ map (λ a. a.name) d.defs

  -- how a new name is refused
  abbrev pub name_fault : List ℕ → Option TextCode
  name_fault name = if is_new_name given_names name then None else Some Name

  -- how one query more is refused
  abbrev pub query_fault : Option TextCode
  query_fault = if nat_le max_queries (length d.queries) then Some Limit else None

  -- a fraction in its stored form that the text denotes, and its formal numbers
  pub record IsFraction (text : List ℕ) (f : Fraction ℕ) (formal : Formal) : Type 0 where
    pub denotes : DenotesFraction (modulus d.system) (space_names d.system) d.defs text f formal
    pub stored : IsStored (modulus d.system) (length (space_names d.system)) f

  -- the first fault of the text
  abbrev pub IsFault : List ℕ → TextFault → Type 0
  IsFault text fault = IsRefusedFraction (modulus d.system) (space_names d.system) d.defs text fault

  -- the rest of a script line is refused: in a definition the name comes behind the grammar, in a query their number
  pub data IsScriptRestRefused (rest : List ℕ) : ScriptWord → Code → Type 0 where
    no_definition : {code : Code} → IsRefusedInTurn (IsDefinition rest) (name_fault (defined_name rest)) (IsFault (defined_value rest)) code → IsScriptRestRefused rest Def code
    no_word : {w : ScriptWord} {q : Query} {code : Code} → AsksAlone w q → IsRefusedInTurn (rest ≡ []) query_fault (λ _. ⊥) code → IsScriptRestRefused rest w code
    no_fraction : {w : ScriptWord} {ask : Fraction ℕ → Query} {code : Code} → AsksOf w ask → IsRefusedInTurn (IsFractionExpression rest) query_fault (IsFault rest) code → IsScriptRestRefused rest w code

  -- the rest of a script line is not refused, and tells this
  pub data IsScriptRestTaken (rest : List ℕ) : ScriptWord → ScriptDraft → Type 0 where
    a_definition : (f : Fraction ℕ) (formal : Formal) → IsDefinition rest → name_fault (defined_name rest) ≡ None → IsFraction (defined_value rest) f formal
        → IsScriptRestTaken rest Def (record d { defs = d.defs ++ record { name = defined_name rest; value = f; formal = formal } ∷ [] })
    a_word : {w : ScriptWord} {q : Query} → AsksAlone w q → rest ≡ [] → query_fault ≡ None → IsScriptRestTaken rest w (record d { queries = d.queries ++ q ∷ [] })
    a_fraction : {w : ScriptWord} {ask : Fraction ℕ → Query} (f : Fraction ℕ) (formal : Formal) → AsksOf w ask → query_fault ≡ None → IsFraction rest f formal
        → IsScriptRestTaken rest w (record d { queries = d.queries ++ ask f ∷ [] })
