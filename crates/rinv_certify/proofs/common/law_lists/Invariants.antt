use Rattle.std.proofs.Common.{◌≡◌, map, take}
use Rattle.rinv_certify.proofs.common.law_lists.Given as goal

abbrev pub invariant-laws : goal.invariant-laws
invariant-laws l = l.list.items ≡ map (λ e. map (λ us. us.items) e.1.items) (take l.k l.laws)
