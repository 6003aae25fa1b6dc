use Rattle.std.proofs.Common.{◌≡◌, length, map, take, All}
use Rattle.rinv_algebra.specs.Normal.{IsNormal}
use Rattle.rinv_div.specs.Divisors.{AreDivisors}
use Rattle.rinv_cofactors.proofs.JournalSteps.{IsCombined}
use Rattle.rinv_cofactors.proofs.combining.combinations.Given as goal

abbrev pub invariant-entries : goal.invariant-entries
invariant-entries g l = let o = g.F.Ring.ops l.ring.coeffs in let e = g.F.Ring.is_element l.ring.coeffs in record {
  combined : IsCombined o (g.O.MonoOrder.cmp l.order) l.given l.basis.journal l.basis.polys l.entry-index (map (λ us. us.items) l.lists.items);
  divisors : AreDivisors o e l.ring.vars (g.O.MonoOrder.cmp l.order) (take (length l.lists.items) l.basis.polys) l.divisors.list.items;
  lengths : All (λ us. length us.items ≡ length l.given) l.lists.items;
  normal : All (λ us. All (IsNormal o e l.ring.vars) us.items) l.lists.items;
}
