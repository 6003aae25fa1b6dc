use Rattle.std.proofs.Common.{◌*◌, map, take}
use Rattle.rinv_algebra.specs.Residue.{residue_ops}
use Rattle.rinv_algebra.specs.Polynomial.{past}
use Rattle.rinv_groebner.specs.Division.{AreSame}
use Rattle.rinv_parts.specs.Points.{ArePolynomials}
use Rattle.rinv_laws.proofs.cofactors.list_in_copy.Given as goal

abbrev pub invariant-polynomials : goal.invariant-polynomials
invariant-polynomials l = record {
  normal : ArePolynomials l.to.coeffs l.to.vars l.copies.items;
  value : AreSame (residue_ops l.to.coeffs) l.copies.items (map (past (l.copy * l.from.vars)) (take l.k l.list));
}
