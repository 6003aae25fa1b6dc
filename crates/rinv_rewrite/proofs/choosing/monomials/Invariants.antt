use Rattle.std.proofs.Common.{◌≡◌, map, take}
use Rattle.rinv_rewrite.proofs.choosing.monomials.Given as goal

abbrev pub invariant-places : goal.invariant-places
invariant-places l = l.monomials.items ≡ map (λ t. t.0) (take l.k l.f)
