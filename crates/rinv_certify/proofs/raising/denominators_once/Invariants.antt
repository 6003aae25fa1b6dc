use Rattle.std.proofs.Common.{◌≡◌, map, take}
use Rattle.rinv_defs.specs.System.{space_count}
use Rattle.rinv_parts.specs.Points.{ArePolynomials}
use Rattle.rinv_acceptance.specs.Denominators.{once}
use Rattle.rinv_certify.proofs.raising.denominators_once.Given as goal

abbrev pub invariant-tail : goal.invariant-tail
invariant-tail l = let s = l.system.system in record {
  normal : ArePolynomials s.p (space_count s) l.list.items;
  value : l.list.items ≡ once s (map (λ t. t.1.1) (take l.k l.tail));
}
