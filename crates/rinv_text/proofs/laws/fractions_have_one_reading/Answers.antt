use Rattle.std.specs.Prelude.{length}
use Rattle.rinv_text.specs.Tokens.{fraction_tokens}
use Rattle.rinv_text.specs.Stops.{fraction_refusal}
use Rattle.rinv_text.proofs.OneReading.{have_one_reading}
use Rattle.rinv_text.proofs.laws.fractions_have_one_reading.Goals as goal

pub returns : goal.returns
returns c = λ p names defs text. have_one_reading (fraction_refusal p names defs (fraction_tokens text)) (fraction_tokens text) (length text)
