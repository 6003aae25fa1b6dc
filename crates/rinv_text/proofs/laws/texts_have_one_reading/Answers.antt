use Rattle.rinv_text.proofs.OneReading.{has_one_reading}
use Rattle.rinv_text.proofs.laws.texts_have_one_reading.Goals as goal

pub returns : goal.returns
returns c = has_one_reading
