use Rattle.std.proofs.Common.{All, nat_lt}
use Rattle.rinv_poly.specs.Terms.{IsTerm}
use Rattle.rinv_frac_tests.proofs.values.power_and_one.Given as goal

abbrev pub invariant-loop-e : goal.invariant-loop-e
invariant-loop-e l = All (IsTerm (λ c. nat_lt c l.field) 1) l.terms.items
