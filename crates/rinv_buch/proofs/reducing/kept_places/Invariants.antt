use Rattle.std.proofs.Common.{◌≡◌, length, map, take, filter, All}
use Rattle.std.specs.List.{range_with_len}
use Rattle.rinv_algebra.specs.Leading.{leading_monomial}
use Rattle.rinv_buch.specs.Reducing.{is_kept_place}
use Rattle.rinv_buch.proofs.reducing.kept_places.Given as goal

abbrev pub invariant-loop-h : goal.invariant-loop-h
invariant-loop-h g l = record {
  leads : l.leads.items ≡ map (leading_monomial (g.F.Ring.ops l.ring.coeffs) (g.O.MonoOrder.cmp l.order)) (take l.h-index l.polys);
  vars : All (λ m. length m ≡ l.ring.vars) l.leads.items;
}

abbrev pub invariant-elements : goal.invariant-elements
invariant-elements g l = l.places.items ≡ filter (is_kept_place (map (leading_monomial (g.F.Ring.ops l.ring.coeffs) (g.O.MonoOrder.cmp l.order)) l.polys)) (range_with_len 0 l.place)
