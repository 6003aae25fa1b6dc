use Rattle.std.proofs.Common.{◌≡◌, [], map, take, get_or}
use Rattle.rinv_buch.specs.Elements.{ArePrepared}
use Rattle.rinv_buch.proofs.reducing.kept_elements.Given as goal

abbrev pub invariant-places : goal.invariant-places
invariant-places g l = record {
  prepared : ArePrepared (g.F.Ring.ops l.ring.coeffs) (g.F.Ring.is_element l.ring.coeffs) l.ring.vars (g.O.MonoOrder.cmp l.order) l.kept;
  so_far : l.kept.polys.items ≡ map (λ k. get_or l.polys k []) (take l.k l.places.items);
}
