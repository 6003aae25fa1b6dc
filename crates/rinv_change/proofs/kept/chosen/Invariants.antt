use Rattle.std.proofs.Common.{[], map, take, get_or}
use Rattle.rinv_algebra.specs.Residue.{residue_ops}
use Rattle.rinv_groebner.specs.Division.{AreSame}
use Rattle.rinv_parts.specs.Points.{ArePolynomials}
use Rattle.rinv_change.proofs.kept.chosen.Given as goal

abbrev pub invariant-places : goal.invariant-places
invariant-places l = record {
  normal : ArePolynomials l.ring.coeffs l.ring.vars l.list.items;
  value : AreSame (residue_ops l.ring.coeffs) l.list.items (map (λ i. get_or l.polys i []) (take l.k l.places));
}
