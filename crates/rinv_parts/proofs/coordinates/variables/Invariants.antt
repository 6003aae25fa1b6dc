use Rattle.std.proofs.Common.{map}
use Rattle.std.specs.List.{range_with_len}
use Rattle.rinv_algebra.specs.Residue.{residue_ops}
use Rattle.rinv_algebra.specs.Polynomial.{variable}
use Rattle.rinv_parts.specs.Points.{AreStored}
use Rattle.rinv_parts.proofs.coordinates.variables.Given as goal

abbrev pub invariant-places : goal.invariant-places
invariant-places l = AreStored l.ring.coeffs l.ring.vars (map (variable (residue_ops l.ring.coeffs)) (range_with_len l.place l.k)) l.point.items
