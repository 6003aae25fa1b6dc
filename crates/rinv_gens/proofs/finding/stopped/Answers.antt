use Rattle.std.proofs.Common.{subst}
use Rattle.rinv_gens.specs.Stopped.{RelationsStopSo}
use Rattle.rinv_gens.proofs.Halted.{at-elimination, at-tails, stop-missed}
use Rattle.rinv_gens.proofs.finding.stopped.Goals as goal

pub returns-in-Missed : goal.returns-in-Missed
returns-in-Missed c told ends hold h = stop-missed told c.args.runs ends hold c.in-Missed.element (subst (RelationsStopSo told.system c.args.runs.action) c.in-Missed.is h)

pub returns-in-InElimination : goal.returns-in-InElimination
returns-in-InElimination c told ends hold h =
    at-elimination told c.args.runs ends hold c.in-InElimination.left c.in-InElimination.right c.halted.result (subst (RelationsStopSo told.system c.args.runs.action) c.in-InElimination.is h) c.halted.ensures

pub returns-in-InTails : goal.returns-in-InTails
returns-in-InTails c told ends hold h =
    at-tails told c.args.runs ends hold c.in-InTails.left c.in-InTails.right c.halted-in-InTails.result (subst (RelationsStopSo told.system c.args.runs.action) c.in-InTails.is h) c.halted-in-InTails.ensures
