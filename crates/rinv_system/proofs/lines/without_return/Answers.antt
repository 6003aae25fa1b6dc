use Rattle.std.proofs.Common.{ap, sym, ◌∙◌}
use Rattle.rinv_system.specs.Lines.{without_return}
use Rattle.rinv_system.proofs.LineFacts.{without_return-other, without_return-ends, without_return-empty}
use Rattle.rinv_system.proofs.lines.without_return.Goals as goal

pub returns-in_default : goal.returns-in_default
returns-in_default c = without_return-empty _ c.in_default.ensures.cases

pub returns-then-last-eq13 : goal.returns-then-last-eq13
returns-then-last-eq13 c = without_return-ends _ _ _ c.in-Some.ensures.cases.0 c.if-last-eq13.true

pub returns-else-last-eq13 : goal.returns-else-last-eq13
returns-else-last-eq13 c = c.in-Some.ensures.cases.0 ∙ sym (ap without_return c.in-Some.ensures.cases.0 ∙ without_return-other _ _ c.if-last-eq13.false)
