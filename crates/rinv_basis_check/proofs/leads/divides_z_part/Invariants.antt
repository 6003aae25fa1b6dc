use Rattle.std.proofs.Common.{◌≡◌, length, take, drop}
use Rattle.rinv_algebra.specs.Monomial.{divides}
use Rattle.rinv_basis_check.proofs.leads.divides_z_part.Given as goal

abbrev pub invariant-variables : goal.invariant-variables
invariant-variables l = divides (drop l.k l.exponents) (drop l.k (take (length l.exponents) (drop l.group l.mono))) ≡ divides l.exponents (take (length l.exponents) (drop l.group l.mono))
