use Rattle.std.proofs.Common.{All, nat_lt}
use Rattle.rinv_poly.specs.Terms.{IsTerm}
use Rattle.rinv_poly_tests.proofs.tables.polynomial.Given as goal

abbrev pub invariant-loop-c : goal.invariant-loop-c
invariant-loop-c l = All (IsTerm (λ c. nat_lt c l.ring.coeffs) l.ring.vars) l.terms.items
