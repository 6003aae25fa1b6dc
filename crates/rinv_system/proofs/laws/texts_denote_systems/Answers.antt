use Rattle.rinv_system.proofs.Formed.{IsSystemText-formed}
use Rattle.rinv_system.proofs.laws.texts_denote_systems.Goals as goal

pub returns : goal.returns
returns c = IsSystemText-formed
