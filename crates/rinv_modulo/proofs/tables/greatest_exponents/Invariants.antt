use Rattle.std.proofs.Common.{◌≡◌, length}
use Rattle.rinv_modulo.proofs.tables.greatest_exponents.Given as goal

abbrev pub invariant-variables : goal.invariant-variables
invariant-variables l = length l.greatest.items ≡ l.i
