use Rattle.std.proofs.Common.{arith}
use Rattle.rinv_sub.proofs.Placed.{one-place}
use Rattle.rinv_poly_tests.proofs.substitutions.renames_one.Goals as goal

pub rename-requires-clause-places : goal.rename-requires-clause-places
rename-requires-clause-places c = rw c.requires.two (one-place 2 1 (omega arith))
