use Rattle.std.proofs.Common.{map, take}
use Rattle.rinv_algebra.specs.Residue.{residue_ops}
use Rattle.rinv_algebra.specs.Polynomial.{constant}
use Rattle.rinv_parts.specs.Points.{AreStored}
use Rattle.rinv_parts.proofs.coordinates.constants.Given as goal

abbrev pub invariant-numbers : goal.invariant-numbers
invariant-numbers l = AreStored l.ring.coeffs l.ring.vars (map (constant (residue_ops l.ring.coeffs)) (take l.k l.numbers)) l.point.items
