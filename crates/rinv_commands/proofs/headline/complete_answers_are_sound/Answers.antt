use Rattle.rinv_commands.proofs.Headlines.{headline}
use Rattle.rinv_commands.proofs.headline.complete_answers_are_sound.Goals as goal

pub returns : goal.returns
returns c = headline
