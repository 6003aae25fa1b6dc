use Rattle.std.proofs.Common.{◌≡◌, length}
use Rattle.rinv_system.specs.Lines.{to_last_word}
use Rattle.rinv_system.proofs.lines.to_last_word.Given as goal

abbrev pub invariant-loop-last : goal.invariant-loop-last
invariant-loop-last l = to_last_word l.fn.bytes ≡ to_last_word l.front

abbrev pub decreases-loop-last : goal.decreases-loop-last
decreases-loop-last l = length l.front
