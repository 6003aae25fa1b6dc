use Rattle.rinv_soundness.proofs.Expressed.{accepted_sound}
use Rattle.rinv_soundness.proofs.accepted_is_sound.Goals as goal

pub returns : goal.returns
returns c = accepted_sound
