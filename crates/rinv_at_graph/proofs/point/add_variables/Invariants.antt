use Rattle.std.proofs.Common.{List, ◌++◌, map}
use Rattle.std.specs.List.{range_with_len}
use Rattle.rinv_algebra.specs.Residue.{residue_ops}
use Rattle.rinv_algebra.specs.Polynomial.{variable}
use Rattle.rinv_defs.specs.System.{Poly}
use Rattle.rinv_parts.specs.Points.{AreStored}
use Rattle.rinv_at_graph.proofs.point.add_variables.Given as goal

abbrev pub invariant-places : goal.invariant-places
invariant-places l =
    (xs : List Poly) → AreStored l.ring.coeffs l.ring.vars xs l.initial.point.items
    → AreStored l.ring.coeffs l.ring.vars (xs ++ map (variable (residue_ops l.ring.coeffs)) (range_with_len l.place l.k)) l.point.items
