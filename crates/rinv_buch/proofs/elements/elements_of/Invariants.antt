use Rattle.std.proofs.Common.{◌≡◌, take}
use Rattle.rinv_groebner.specs.Journal.{nonzeros}
use Rattle.rinv_buch.specs.Elements.{ArePrepared}
use Rattle.rinv_buch.proofs.elements.elements_of.Given as goal

abbrev pub invariant-loop-f : goal.invariant-loop-f
invariant-loop-f g l = record {
  prepared : ArePrepared {R = g.row.F.Denot} {E = g.row.F-Elem.Denot} (g.F.Ring.ops l.ring.coeffs) (g.F.Ring.is_element l.ring.coeffs) l.ring.vars (g.O.MonoOrder.cmp l.order) l.elements;
  polys : l.elements.polys.items ≡ nonzeros (g.F.Ring.ops l.ring.coeffs) (take l.f-index l.given);
}
