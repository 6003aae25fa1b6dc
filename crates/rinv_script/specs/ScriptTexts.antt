-- The script that a text denotes, or the line at which it is refused and the code, by the form that is asked for.
use Rattle.std.specs.Prelude.{◌≡◌, ℕ, List, [], Bool, IsTrue, IsFalse, Some, None}
use Rattle.rinv_system.specs.declared.keyword.Keyword.{Keyword}
use Rattle.rinv_system.specs.declared.refused.Code.{Code}
use Rattle.rinv_system.specs.declared.refused.Code.TheVariants.{Word, Missing}
use Rattle.rinv_system.specs.declared.refused.Refused.{Refused}
use Rattle.rinv_system.specs.Words.{head_of}
use Rattle.rinv_system.specs.Drafts.{Draft, is_whole}
use Rattle.rinv_system.specs.Texts.{IsLineRefused, IsLineTaken, told_by}
use Rattle.rinv_system.specs.LineTexts as lines
use Rattle.rinv_script.specs.declared.form.Form.{Form}
use Rattle.rinv_script.specs.declared.words.ScriptWord.{ScriptWord}
use Rattle.rinv_script.specs.Queries.{Script}
use Rattle.rinv_script.specs.Words.{script_head}
use Rattle.rinv_script.specs.Scripts.{ScriptDraft, blank_script, has_script, IsScriptRestRefused, IsScriptRestTaken}

-- a line is refused: it has no word, or one of the system after a script line; it is refused as a line of the system; a script line comes
-- before the system is whole; or its rest is refused
pub data IsScriptLineRefused (d : ScriptDraft) (line : List ℕ) : Code → Type 0 where
  no_word : ¬ (line ≡ []) → head_of line ≡ None → script_head d.form line ≡ None → IsScriptLineRefused d line Word
  late_word : {k : Keyword} {rest : List ℕ} → ¬ (line ≡ []) → head_of line ≡ Some (k, rest) → IsTrue (has_script d) → IsScriptLineRefused d line Word
  of_system : {k : Keyword} {rest : List ℕ} {code : Code} → head_of line ≡ Some (k, rest) → IsFalse (has_script d) → IsLineRefused d.system line code → IsScriptLineRefused d line code
  early_word : {w : ScriptWord} {rest : List ℕ} → ¬ (line ≡ []) → head_of line ≡ None → script_head d.form line ≡ Some (w, rest) → IsFalse (is_whole d.system) → IsScriptLineRefused d line Missing
  no_rest : {w : ScriptWord} {rest : List ℕ} {code : Code} → ¬ (line ≡ []) → head_of line ≡ None → script_head d.form line ≡ Some (w, rest) → IsTrue (is_whole d.system) → IsScriptRestRefused d rest w code → IsScriptLineRefused d line code

-- a line is empty, is a line of the system before the first script line, or is a script line after the system
pub data IsScriptLineTaken (d : ScriptDraft) (line : List ℕ) : ScriptDraft → Type 0 where
  empty : line ≡ [] → IsScriptLineTaken d line d
  of_system : {next : Draft} → ¬ (line ≡ []) → IsFalse (has_script d) → IsLineTaken d.system line next → IsScriptLineTaken d line (record d { system = next })
  of_script : {w : ScriptWord} {rest : List ℕ} {next : ScriptDraft} → ¬ (line ≡ []) → head_of line ≡ None → script_head d.form line ≡ Some (w, rest) → IsTrue (is_whole d.system) → IsScriptRestTaken d rest w next → IsScriptLineTaken d line next

-- all lines that are needed have come
abbrev pub is_whole_script : ScriptDraft → Bool
is_whole_script d = is_whole d.system

-- the text tells the script
pub record IsScriptText (form : Form) (text : List ℕ) (script : Script) : Type 0 where
  pub draft : ScriptDraft
  pub is_text : lines.IsText IsScriptLineTaken (blank_script form) is_whole_script text draft
  pub is : script ≡ record { told = told_by draft.system; queries = draft.queries }

-- the text is refused at a line
abbrev pub IsRefusedScript : Form → List ℕ → Refused → Type 0
IsRefusedScript form text refused = lines.IsRefusedText IsScriptLineRefused IsScriptLineTaken (blank_script form) is_whole_script text refused

-- a text has one script at most, or one refusal, and not both
pub record HasOneScript (form : Form) (text : List ℕ) : Type 0 where
  pub one_script : (a b : Script) → IsScriptText form text a → IsScriptText form text b → a ≡ b
  pub one_refusal : (a b : Refused) → IsRefusedScript form text a → IsRefusedScript form text b → a ≡ b
  pub not_both : (a : Script) (b : Refused) → IsScriptText form text a → ¬ (IsRefusedScript form text b)
