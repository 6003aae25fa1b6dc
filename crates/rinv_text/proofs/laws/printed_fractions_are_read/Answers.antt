use Rattle.rinv_text.proofs.PrintedFractions.{fraction-denoted}
use Rattle.rinv_text.proofs.laws.printed_fractions_are_read.Goals as goal

pub returns : goal.returns
returns c = λ p names defs f r listed words stored above below cancelled. fraction-denoted p names defs listed words f r stored above below cancelled
