-- What a line of a script tells, step by step.
use Rattle.std.proofs.Common.{◌≡◌, ℕ, true, false, List, [], ◌∷◌, ◌++◌, ◌==◌, IsTrue, IsFalse, Option, Some, None, refl, sym, ap, subst, ◌∙◌, true≢false}
use Rattle.std.specs.List.{list_any}
use Rattle.rinv_algebra.specs.Fraction.{Fraction}
use Rattle.rinv_text.specs.declared.fault.TextFault.{TextFault}
use Rattle.rinv_text.specs.declared.fault.TextCode.{TextCode}
use Rattle.rinv_text.specs.declared.fault.TextCode.TheVariants.{Expression}
use Rattle.rinv_text.specs.declared.formal.Formal.{Formal}
use Rattle.rinv_text.specs.Reading.{Definition}
use Rattle.rinv_text.specs.Stops.{IsRefusedFraction}
use Rattle.rinv_system.specs.declared.keyword.Keyword.{Keyword}
use Rattle.rinv_system.specs.declared.refused.Code.{Code}
use Rattle.rinv_system.specs.declared.refused.Code.TheVariants.{Word, Missing, Text}
use Rattle.rinv_system.specs.Words.{head_of}
use Rattle.rinv_system.specs.Entries.{is_name_word}
use Rattle.rinv_system.specs.Drafts.{modulus, space_names, is_whole}
use Rattle.rinv_system.specs.Texts.{IsLineRefused, IsLineTaken}
use Rattle.rinv_script.specs.declared.form.Form.{Form}
use Rattle.rinv_script.specs.declared.words.ScriptWord.{ScriptWord}
use Rattle.rinv_script.specs.declared.words.ScriptWord.TheVariants.{Def}
use Rattle.rinv_script.specs.Queries.{Query}
use Rattle.rinv_script.specs.Words.{AsksOf, script_head}
use Rattle.rinv_script.specs.Scripts.{ScriptDraft, has_script, name_fault, query_fault, defined_name, defined_value, IsDefinition, IsFraction, IsFault, IsRefusedInTurn, IsScriptRestRefused, IsScriptRestTaken}
use Rattle.rinv_script.specs.ScriptTexts.{IsScriptLineRefused, IsScriptLineTaken}
use Rattle.rinv_script.specs.Kept.{IsValueRefused, Defines}

-- a fault of the text, by what the reader was given
pub fault-as : (d : ScriptDraft) (text : List ℕ) (p : ℕ) (names : List (List ℕ)) (defs : List Definition) (fault : TextFault) → p ≡ modulus d.system → names ≡ space_names d.system → defs ≡ d.defs → IsRefusedFraction p names defs text fault → IsFault d text fault
fault-as d text p names defs fault a b c h =
    subst (λ (ds : List Definition). IsRefusedFraction (modulus d.system) (space_names d.system) ds text fault) c
    (subst (λ (ns : List (List ℕ)). IsRefusedFraction (modulus d.system) ns defs text fault) b (subst (λ (q : ℕ). IsRefusedFraction q names defs text fault) a h))

-- ---- lines of the system

some-head : (o : Option (Keyword × List ℕ)) → ¬ (o ≡ None) → (k : Keyword) × (rest : List ℕ) × (o ≡ Some (k, rest))
some-head None h = absurd (h refl)
some-head (Some (k, rest)) h = (k, rest, refl)

module _ (d : ScriptDraft) (line : List ℕ) (some : ¬ (line ≡ [])) where
  module _ (head : ¬ (head_of line ≡ None)) where
    pub late-word : has_script d ≡ true → IsScriptLineRefused d line Word
    late-word late = let (k, rest, is) = some-head (head_of line) head in IsScriptLineRefused.late_word some is late

    pub system-refused : has_script d ≡ false → (code : Code) → IsLineRefused d.system line code → IsScriptLineRefused d line code
    system-refused none code h = let (k, rest, is) = some-head (head_of line) head in IsScriptLineRefused.of_system is none h

  pub system-taken : (next : ScriptDraft) → has_script d ≡ false → next ≡ record d { system = next.system } → IsLineTaken d.system line next.system → IsScriptLineTaken d line next
  system-taken next none is made = subst (IsScriptLineTaken d line) (sym is) (IsScriptLineTaken.of_system some none made)

  -- ---- script lines

  module _ (none : head_of line ≡ None) (form : Form) (same : form ≡ d.form) where
    pub no-word : script_head form line ≡ None → IsScriptLineRefused d line Word
    no-word h = IsScriptLineRefused.no_word some none (ap (λ f. script_head f line) (sym same) ∙ h)

    module _ (w : ScriptWord) (rest : List ℕ) (head : script_head form line ≡ Some (w, rest)) where
      here : script_head d.form line ≡ Some (w, rest)
      here = ap (λ f. script_head f line) (sym same) ∙ head

      pub early-word : is_whole d.system ≡ false → IsScriptLineRefused d line Missing
      early-word missing = IsScriptLineRefused.early_word some none here missing

      pub script-refused : is_whole d.system ≡ true → (code : Code) → IsScriptRestRefused d rest w code → IsScriptLineRefused d line code
      script-refused whole code h = IsScriptLineRefused.no_rest some none here whole h

      pub script-taken : is_whole d.system ≡ true → (next : ScriptDraft) → IsScriptRestTaken d rest w next → IsScriptLineTaken d line next
      script-taken whole next h = IsScriptLineTaken.of_script some none here whole h

-- ---- definitions

module _ (d : ScriptDraft) (rest : List ℕ) where
  pub no-definition : ¬ (IsDefinition rest) → IsScriptRestRefused d rest Def (Text Expression)
  no-definition n = IsScriptRestRefused.no_definition (IsRefusedInTurn.by_grammar n)

  pub no-equals : IsFalse (list_any (λ b. b == 61) rest) → IsScriptRestRefused d rest Def (Text Expression)
  no-equals off = no-definition (λ h. true≢false (sym h.equals ∙ off))

  pub no-name : (name : List ℕ) → name ≡ defined_name rest → is_name_word name ≡ false → IsScriptRestRefused d rest Def (Text Expression)
  no-name name is off = no-definition (λ h. true≢false (sym h.name ∙ ap is_name_word (sym is) ∙ off))

  module _ (name value : List ℕ) (name_is : name ≡ defined_name rest) (value_is : value ≡ defined_value rest) (equals : IsTrue (list_any (λ b. b == 61) rest)) (word : is_name_word name ≡ true) where
    word_there : IsTrue (is_name_word (defined_name rest))
    word_there = ap is_name_word (sym name_is) ∙ word

    in-turn : (code : Code) → IsValueRefused d (defined_value rest) (name_fault d (defined_name rest)) code → IsScriptRestRefused d rest Def code
    in-turn _ (IsRefusedInTurn.by_grammar n) = no-definition (λ h. n h.value)
    in-turn _ (IsRefusedInTurn.by_code g e) = IsScriptRestRefused.no_definition (IsRefusedInTurn.by_code (record { equals = equals; name = word_there; value = g }) e)
    in-turn _ (IsRefusedInTurn.by_fault g e f) = IsScriptRestRefused.no_definition (IsRefusedInTurn.by_fault (record { equals = equals; name = word_there; value = g }) e f)

    pub definition-refused : (code : Code) → IsValueRefused d value (name_fault d name) code → IsScriptRestRefused d rest Def code
    definition-refused code h = in-turn code (subst (λ n. IsValueRefused d (defined_value rest) (name_fault d n) code) name_is (subst (λ v. IsValueRefused d v (name_fault d name) code) value_is h))

    defined : (next : ScriptDraft) → Defines d (defined_name rest) (defined_value rest) next → IsScriptRestTaken d rest Def next
    defined next h = subst (IsScriptRestTaken d rest Def) (sym h.is) (IsScriptRestTaken.a_definition h.value h.formal (record { equals = equals; name = word_there; value = (h.denotes.denotes.tree, h.denotes.denotes.derived) }) h.new h.denotes)

    pub definition-taken : (next : ScriptDraft) → Defines d name value next → IsScriptRestTaken d rest Def next
    definition-taken next h = defined next (subst (λ n. Defines d n (defined_value rest) next) name_is (subst (λ v. Defines d name v next) value_is h))

  -- ---- queries

  pub query-refused : (text : List ℕ) (next : Option TextCode) → text ≡ rest → next ≡ query_fault d → (code : Code) → IsValueRefused d text next code
      → (w : ScriptWord) (ask : Fraction ℕ → Query) → AsksOf w ask → IsScriptRestRefused d rest w code
  query-refused text next is turn code h w ask asks = IsScriptRestRefused.no_fraction asks (subst (λ n. IsValueRefused d rest n code) turn (subst (λ t. IsValueRefused d t next code) is h))

  pub query-taken : (text : List ℕ) (next : Option TextCode) → text ≡ rest → next ≡ query_fault d → (f : Fraction ℕ) (formal : Formal) → (next ≡ None) × IsFraction d text f formal
      → (w : ScriptWord) (ask : Fraction ℕ → Query) → AsksOf w ask → IsScriptRestTaken d rest w (record d { queries = d.queries ++ ask f ∷ [] })
  query-taken text next is turn f formal (few, h) w ask asks = IsScriptRestTaken.a_fraction f formal asks (sym turn ∙ few) (subst (λ t. IsFraction d t f formal) is h)
