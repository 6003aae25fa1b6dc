use Rattle.std.proofs.Common.{take}
use Rattle.rinv_algebra.specs.Residue.{residue_ops}
use Rattle.rinv_groebner.specs.Division.{AreSame}
use Rattle.rinv_parts.specs.Points.{ArePolynomials}
use Rattle.rinv_change.proofs.cofactors.widened_list.Given as goal

abbrev pub invariant-polynomials : goal.invariant-polynomials
invariant-polynomials l = record {
  normal : ArePolynomials l.to.coeffs l.to.vars l.wide.items;
  value : AreSame (residue_ops l.to.coeffs) l.wide.items (take l.k l.list);
}
