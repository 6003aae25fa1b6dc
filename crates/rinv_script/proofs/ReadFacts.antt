-- The script that a text tells.
use Rattle.std.proofs.Common.{◌≡◌, ℕ, List, sym, subst}
use Rattle.rinv_system.specs.LineTexts.{IsText}
use Rattle.rinv_system.specs.Texts.{told_by}
use Rattle.rinv_system.proofs.OneReading.{all_good}
use Rattle.rinv_system.proofs.Good.{AreTaken-good}
use Rattle.rinv_system.proofs.Formed.{good-formed}
use Rattle.rinv_script.specs.declared.form.Form.{Form}
use Rattle.rinv_script.specs.Queries.{Script}
use Rattle.rinv_script.specs.Scripts.{ScriptDraft, blank_script}
use Rattle.rinv_script.specs.ScriptTexts.{IsScriptLineTaken, is_whole_script}
use Rattle.rinv_script.specs.Stored.{IsStoredScript}
use Rattle.rinv_script.specs.Kept.{IsKept}
use Rattle.rinv_script.proofs.KeptFacts.{kept-blank, kept-more}

module _ (form : Form) (text : List ℕ) (d : ScriptDraft) (h : IsText IsScriptLineTaken (blank_script form) is_whole_script text d) where
  kept-text : IsKept d
  kept-text = all_good IsScriptLineTaken IsKept kept-more (blank_script form) (kept-blank form) h.taken

  -- its system has its form, and its fractions theirs
  pub stored-script : (script : Script) → script ≡ record { told = told_by d.system; queries = d.queries } → IsStoredScript script
  stored-script script is = subst IsStoredScript (sym is) (record { form = good-formed (AreTaken-good kept-text.system.1) h.whole; queries = kept-text.queries })
