use Rattle.std.proofs.Common.{List, ◌++◌, map, take}
use Rattle.rinv_algebra.specs.Polynomial.{past}
use Rattle.rinv_defs.specs.System.{Poly}
use Rattle.rinv_parts.specs.Points.{AreStored}
use Rattle.rinv_identities.proofs.ideals.add_copy.Given as goal

abbrev pub invariant-polynomials : goal.invariant-polynomials
invariant-polynomials l =
    (gs : List Poly) → AreStored l.to.coeffs l.to.vars gs l.initial.copies.items
    → AreStored l.to.coeffs l.to.vars (gs ++ map (past l.place) (take l.k l.fs)) l.copies.items
