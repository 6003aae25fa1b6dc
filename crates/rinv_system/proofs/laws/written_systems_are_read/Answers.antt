use Rattle.rinv_system.proofs.WrittenSystems.{written-read}
use Rattle.rinv_system.proofs.laws.written_systems_are_read.Goals as goal

pub returns : goal.returns
returns c = written-read
