use Rattle.std.proofs.Common.{arith}
use Rattle.rinv_sub.proofs.Placed.{two-places}
use Rattle.rinv_poly_tests.proofs.substitutions.renames_two.Goals as goal

pub rename-requires-clause-places : goal.rename-requires-clause-places
rename-requires-clause-places c = rw c.requires.three (two-places 3 2 0 (omega arith) (omega arith) (λ e. omega (arith, e)))
