use Rattle.std.proofs.Common.{◌≤◌, ◌-◌, length, All, [], vec_len}
use Rattle.rinv_algebra.specs.Ring.{IsSame}
use Rattle.rinv_algebra.specs.Polynomial.{poly_ops}
use Rattle.rinv_algebra.specs.Normal.{IsNormal}
use Rattle.rinv_cofactors.proofs.units.zeros.Given as goal

abbrev pub invariant-zeros : goal.invariant-zeros
invariant-zeros g l = record {
  few : length l.list.items ≤ l.count;
  normal : All (IsNormal (g.F.Ring.ops l.ring.coeffs) (g.F.Ring.is_element l.ring.coeffs) l.ring.vars) l.list.items;
  zero : All (λ u. IsSame (poly_ops (g.F.Ring.ops l.ring.coeffs)) u []) l.list.items;
}

abbrev pub decreases-zeros : goal.decreases-zeros
decreases-zeros g l = l.count - vec_len l.list
