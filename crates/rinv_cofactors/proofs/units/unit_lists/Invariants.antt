use Rattle.std.proofs.Common.{◌≡◌, length, map, All}
use Rattle.std.specs.List.{AllZip}
use Rattle.rinv_algebra.specs.Normal.{IsNormal}
use Rattle.rinv_groebner.specs.Division.{AreSame}
use Rattle.rinv_cofactors.specs.Combining.{nonzero_places, unit}
use Rattle.rinv_cofactors.proofs.units.unit_lists.Given as goal

abbrev pub invariant-places : goal.invariant-places
invariant-places g l = let o = g.F.Ring.ops l.ring.coeffs in record {
  lengths : All (λ us. length us.items ≡ length l.given) l.lists.items;
  normal : All (λ us. All (IsNormal o (g.F.Ring.is_element l.ring.coeffs) l.ring.vars) us.items) l.lists.items;
  units : AllZip (AreSame o) (map (λ us. us.items) l.lists.items) (map (unit o (length l.given)) (nonzero_places o l.given l.place));
}
