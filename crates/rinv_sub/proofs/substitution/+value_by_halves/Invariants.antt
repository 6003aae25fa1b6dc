use Rattle.std.proofs.Common.{length}
use Rattle.rinv_sub.proofs.substitution.+value_by_halves.Given as goal

abbrev pub decreases-value_by_halves : goal.decreases-value_by_halves
decreases-value_by_halves g l = length l.terms.now
