-- Answers to the text of a script: to what it tells, or to its refusal.
use Rattle.std.specs.Prelude.{ℕ, List}
use Rattle.rinv_script.specs.declared.form.Form.{Form}
use Rattle.rinv_text.specs.Told.{Told}
use Rattle.rinv_script.specs.Queries.{Query, Script}
use Rattle.rinv_script.specs.ScriptTexts.{IsScriptText, IsRefusedScript}
use Rattle.rinv_lines.specs.declared.ending.Ending.{Ending}
use Rattle.rinv_answers.specs.Told.{AnswersTold}

-- what is asked of a system
abbrev pub asking : Told → List Query → Script
asking told queries = record { told = told; queries = queries }

-- the bytes are the text of a script in this form
abbrev pub AnswersScript : Form → (Script → List ℕ → Ending → Type 0) → List ℕ → List ℕ → Ending → Type 0
AnswersScript form Answers bytes text ending = AnswersTold (IsScriptText form bytes) (IsRefusedScript form bytes) Answers text ending
