use Rattle.rinv_text.proofs.laws.printed_polynomials_are_read.Goals as goal
use Rattle.rinv_text.proofs.PrintedSums.{printed-denoted}

pub returns : goal.returns
returns c = printed-denoted
