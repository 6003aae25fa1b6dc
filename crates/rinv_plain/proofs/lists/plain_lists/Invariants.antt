use Rattle.std.proofs.Common.{◌≡◌, map, take}
use Rattle.rinv_plain.proofs.lists.plain_lists.Given as goal

abbrev pub invariant-lists : goal.invariant-lists
invariant-lists l = l.list.items ≡ map (λ us. us.items) (take l.k l.lists)
