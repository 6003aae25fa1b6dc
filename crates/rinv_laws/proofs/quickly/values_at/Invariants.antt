use Rattle.rinv_laws.proofs.LawsModulo.{SoFar}
use Rattle.rinv_laws.proofs.quickly.values_at.Given as goal

abbrev pub invariant-polynomials : goal.invariant-polynomials
invariant-polynomials l = SoFar l.ring.coeffs l.ring.vars l.basis.polys.items l.point l.fs l.k l.values.items
