use Rattle.std.proofs.Common.{[], map, get_or}
use Rattle.rinv_algebra.specs.Residue.{residue_ops}
use Rattle.rinv_groebner.specs.Division.{AreSame}
use Rattle.rinv_groebner.specs.Copies.{copies as copied}
use Rattle.rinv_parts.specs.Points.{ArePolynomials}
use Rattle.rinv_laws.proofs.copied.chosen_in_copies.Given as goal

abbrev pub invariant-copies : goal.invariant-copies
invariant-copies l = record {
  normal : ArePolynomials l.ring.coeffs l.ring.vars l.list.items;
  value : AreSame (residue_ops l.ring.coeffs) l.list.items (copied l.copy l.from.vars (map (λ k. get_or l.polys k []) l.places));
}
