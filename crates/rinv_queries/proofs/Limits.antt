-- A script asks for no more pairs and steps than it may.
--   script-limited
use Rattle.std.proofs.Common.{◌≡◌, ℕ, List, sym, subst}
use Rattle.rinv_system.specs.LineTexts.{AreTaken}
use Rattle.rinv_script.specs.declared.form.Form.{Form}
use Rattle.rinv_script.specs.Queries.{Script}
use Rattle.rinv_script.specs.Scripts.{ScriptDraft, IsScriptRestTaken, blank_script}
use Rattle.rinv_script.specs.ScriptTexts.{IsScriptLineTaken, IsScriptText}
use Rattle.rinv_answers.specs.Budgets.{IsLimited}
use Rattle.rinv_answers.proofs.TextLimits.{AreLow, blank-low, line-low, low-limited}

script-line-low : {d : ScriptDraft} (line : List ℕ) (next : ScriptDraft) → AreLow d.system → IsScriptLineTaken d line next → AreLow next.system
script-line-low line next h (IsScriptLineTaken.empty e) = h
script-line-low line next h (IsScriptLineTaken.of_system some first taken) = line-low line _ h taken
script-line-low line next h (IsScriptLineTaken.of_script some none head whole (IsScriptRestTaken.a_definition f formal is new value)) = h
script-line-low line next h (IsScriptLineTaken.of_script some none head whole (IsScriptRestTaken.a_word asks alone few)) = h
script-line-low line next h (IsScriptLineTaken.of_script some none head whole (IsScriptRestTaken.a_fraction f formal asks few is)) = h

script-lines-low : {form : Form} {ls : List (List ℕ)} {d : ScriptDraft} → AreTaken IsScriptLineTaken (blank_script form) ls d → AreLow d.system
script-lines-low AreTaken.none = blank-low
script-lines-low (AreTaken.one_more line before taken) = script-line-low line _ (script-lines-low before) taken

pub script-limited : (form : Form) (bytes : List ℕ) (script : Script) → IsScriptText form bytes script → IsLimited script.told
script-limited form bytes script h = subst (λ (s : Script). IsLimited s.told) (sym h.is) (low-limited h.draft.system (script-lines-low h.is_text.taken))
