use Rattle.std.proofs.Common.{map, take, All}
use Rattle.std.specs.List.{AllZip}
use Rattle.rinv_algebra.specs.Residue.{residue_ops}
use Rattle.rinv_groebner.specs.Division.{AreSame}
use Rattle.rinv_parts.specs.Points.{ArePolynomials}
use Rattle.rinv_laws.specs.Proofs.{chosen}
use Rattle.rinv_change.proofs.cofactors.widened_lists.Given as goal

abbrev pub invariant-places : goal.invariant-places
invariant-places l = record {
  normal : All (λ us. ArePolynomials l.to.coeffs l.to.vars us.items) l.wide.items;
  value : AllZip (AreSame (residue_ops l.to.coeffs)) (map (λ us. us.items) l.wide.items) (chosen (map (λ us. us.items) l.lists) (take l.k l.places));
}
