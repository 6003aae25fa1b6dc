use Rattle.std.proofs.Common.{◌≡◌, All}
use Rattle.rinv_algebra.specs.Normal.{IsNormal}
use Rattle.rinv_groebner.specs.Reduced.{kept, Ascend}
use Rattle.rinv_buch.specs.Elements.{ArePrepared}
use Rattle.rinv_buch.proofs.MadeSoFar.{AreMadeUpTo}
use Rattle.rinv_buch.proofs.reducing.interreduce.Given as goal

abbrev pub invariant-places : goal.invariant-places
invariant-places g l = record {
  prepared : ArePrepared (g.F.Ring.ops l.ring.coeffs) (g.F.Ring.is_element l.ring.coeffs) l.ring.vars (g.O.MonoOrder.cmp l.order) l.kept;
  same : l.kept.polys.items ≡ kept (g.F.Ring.ops l.ring.coeffs) (g.O.MonoOrder.cmp l.order) l.basis.polys;
  made : AreMadeUpTo (g.F.Ring.ops l.ring.coeffs) (g.O.MonoOrder.cmp l.order) (kept (g.F.Ring.ops l.ring.coeffs) (g.O.MonoOrder.cmp l.order) l.basis.polys) l.place l.made.items;
  ascending : Ascend (g.F.Ring.ops l.ring.coeffs) (g.O.MonoOrder.cmp l.order) l.made.items;
  normal : All (IsNormal (g.F.Ring.ops l.ring.coeffs) (g.F.Ring.is_element l.ring.coeffs) l.ring.vars) l.made.items;
}
