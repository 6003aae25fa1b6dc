use Rattle.std.proofs.Common.{◌≡◌, take, All}
use Rattle.std.specs.declared.cmp.Ordering.TheVariants.{Less}
use Rattle.rinv_algebra.specs.Leading.{leading_monomial}
use Rattle.rinv_buch.proofs.reducing.place_of.Given as goal

abbrev pub invariant-places : goal.invariant-places
invariant-places g l = All (λ h. g.O.MonoOrder.cmp l.order (leading_monomial (g.F.Ring.ops l.ring.coeffs) (g.O.MonoOrder.cmp l.order) h) l.mono ≡ Less) (take l.place l.list)
