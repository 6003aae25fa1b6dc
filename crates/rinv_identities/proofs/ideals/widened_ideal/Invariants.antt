use Rattle.std.proofs.Common.{take}
use Rattle.rinv_parts.specs.Points.{AreStored}
use Rattle.rinv_identities.proofs.ideals.widened_ideal.Given as goal

abbrev pub invariant-polynomials : goal.invariant-polynomials
invariant-polynomials l = AreStored l.to.coeffs l.to.vars (take l.k l.fs) l.wide.items
