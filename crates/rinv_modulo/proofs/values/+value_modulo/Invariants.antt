use Rattle.std.proofs.Common.{length}
use Rattle.rinv_modulo.proofs.values.+value_modulo.Given as goal

abbrev pub decreases-value_modulo : goal.decreases-value_modulo
decreases-value_modulo l = length l.terms.now
