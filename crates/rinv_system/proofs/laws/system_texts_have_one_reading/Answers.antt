use Rattle.rinv_system.proofs.OneOutcome.{has_one_system}
use Rattle.rinv_system.proofs.laws.system_texts_have_one_reading.Goals as goal

pub returns : goal.returns
returns c = has_one_system
