use Rattle.rinv_rewrite.proofs.DownMonomials.{IsPassed}
use Rattle.rinv_rewrite.proofs.choosing.greatest_with_value.Given as goal

abbrev pub invariant-places : goal.invariant-places
invariant-places l = IsPassed l.ring.coeffs.coeffs l.fractions l.rest l.monomials.items l.k
