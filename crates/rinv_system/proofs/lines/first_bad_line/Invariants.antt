use Rattle.std.proofs.Common.{◌≤◌, ◌+◌, length}
use Rattle.rinv_system.proofs.LineFacts.{HasPassed}
use Rattle.rinv_system.proofs.lines.first_bad_line.Given as goal

abbrev pub invariant-loop-rest : goal.invariant-loop-rest
invariant-loop-rest l = HasPassed l.fn.text l.rest l.number × (l.number + length l.rest ≤ length l.fn.text + 1)

abbrev pub decreases-loop-rest : goal.decreases-loop-rest
decreases-loop-rest l = length l.rest
