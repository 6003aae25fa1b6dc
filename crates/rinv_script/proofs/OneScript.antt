-- A text has one script at most, or one refusal, and not both.
use Rattle.std.proofs.Common.{ℕ, List, sym, ap, ◌∙◌}
use Rattle.rinv_system.specs.Texts.{told_by}
use Rattle.rinv_system.proofs.OneReading.{one_text, one_refusal, never_both}
use Rattle.rinv_script.specs.declared.form.Form.{Form}
use Rattle.rinv_script.specs.Scripts.{ScriptDraft, blank_script}
use Rattle.rinv_script.specs.ScriptTexts.{IsScriptLineRefused, IsScriptLineTaken, is_whole_script, HasOneScript}
use Rattle.rinv_script.specs.Kept.{IsKept}
use Rattle.rinv_script.proofs.KeptFacts.{kept-blank}
use Rattle.rinv_script.proofs.OneLine.{script_lines-apart}

pub one_script_at_most : (form : Form) (text : List ℕ) → HasOneScript form text
one_script_at_most form text = record {
  one_script = λ a b h g.
      h.is ∙ ap (λ (d : ScriptDraft). record { told = told_by d.system; queries = d.queries }) (one_text IsScriptLineRefused IsScriptLineTaken IsKept script_lines-apart (blank_script form) (kept-blank form) is_whole_script text h.draft g.draft h.is_text g.is_text) ∙ sym g.is;
  one_refusal = one_refusal IsScriptLineRefused IsScriptLineTaken IsKept script_lines-apart (blank_script form) (kept-blank form) is_whole_script text;
  not_both = λ a b h r. never_both IsScriptLineRefused IsScriptLineTaken IsKept script_lines-apart (blank_script form) (kept-blank form) is_whole_script text h.draft b h.is_text r;
}
