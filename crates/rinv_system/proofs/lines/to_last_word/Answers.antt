use Rattle.std.proofs.Common.{ap, sym, ◌∙◌}
use Rattle.rinv_system.specs.Lines.{to_last_word}
use Rattle.rinv_system.proofs.LineFacts.{to_last_word-blank}
use Rattle.rinv_system.proofs.lines.to_last_word.Goals as goal

pub loop-last-preserved : goal.loop-last-preserved
loop-last-preserved c = c.loop-last.invariant ∙ ap to_last_word c.in-Some.ensures.cases.0 ∙ to_last_word-blank c.in-Some.rest.now c.in-Some.last.now (sym c.is_blank.ensures ∙ c.if-not-is_blank.false)
