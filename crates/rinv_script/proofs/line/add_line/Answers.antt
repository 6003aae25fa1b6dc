use Rattle.std.proofs.Common.{sym, ◌∙◌}
use Rattle.rinv_system.proofs.LineSteps.{is_nil}
use Rattle.rinv_script.specs.ScriptTexts.{IsScriptLineTaken}
use Rattle.rinv_script.proofs.line.add_line.Goals as goal

pub returns-then-is_empty-clause-ok : goal.returns-then-is_empty-clause-ok
returns-then-is_empty-clause-ok c = IsScriptLineTaken.empty (is_nil _ (sym c.is_empty.ensures ∙ c.if-is_empty.true))
