use Rattle.std.proofs.Common.{◌+◌, ◌≤◌, length}
use Rattle.rinv_system.proofs.ReadFacts.{HasTaken}
use Rattle.rinv_system.proofs.reader.read_lines.Given as goal

abbrev pub invariant-lines : goal.invariant-lines
invariant-lines g l = HasTaken (g.R.LineReader.takes) l.fn.blank l.fn.text l.rest l.reader l.count × g.R.LineReader.is_reached l.reader × (l.count + length l.rest ≤ length l.fn.text)

abbrev pub decreases-lines : goal.decreases-lines
decreases-lines g l = length l.rest
