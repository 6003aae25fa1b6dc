use Rattle.std.proofs.Common.{◌≡◌, ◌<◌, ℕ, length, map, get_or, [], All}
use Rattle.rinv_algebra.specs.Ring.{IsSame}
use Rattle.rinv_algebra.specs.Polynomial.{poly_ops}
use Rattle.rinv_algebra.specs.Normal.{IsNormal}
use Rattle.rinv_cofactors.specs.Combining.{combined}
use Rattle.rinv_cofactors.proofs.combining.rest_cofactors.Given as goal

abbrev pub invariant-places : goal.invariant-places
invariant-places g l = let o = g.F.Ring.ops l.ring.coeffs in record {
  normal : All (IsNormal o (g.F.Ring.is_element l.ring.coeffs) l.ring.vars) l.cofactors.items;
  number : length l.cofactors.items ≡ l.place;
  each : (m : ℕ) → m < l.place → IsSame (poly_ops o) (get_or l.cofactors.items m []) (combined o (g.O.MonoOrder.cmp l.order) l.polys (map (λ us. us.items) l.lists) l.entry.first l.entry.second l.division.quotients.items m);
}
