use Rattle.std.proofs.Common.{◌*◌, map}
use Rattle.std.specs.Prelude.{flat_map}
use Rattle.std.specs.List.{range_with_len}
use Rattle.rinv_algebra.specs.Polynomial.{past}
use Rattle.rinv_parts.specs.Points.{AreStored}
use Rattle.rinv_identities.proofs.ideals.copied_ideal.Given as goal

abbrev pub invariant-copies : goal.invariant-copies
invariant-copies l = AreStored l.to.coeffs l.to.vars (flat_map (λ j. map (past (j * l.from.vars)) l.fs) (range_with_len 0 l.j)) l.copies.items
