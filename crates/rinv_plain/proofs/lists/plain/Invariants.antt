use Rattle.std.proofs.Common.{◌≡◌, take}
use Rattle.rinv_plain.proofs.lists.plain.Given as goal

abbrev pub invariant-terms : goal.invariant-terms
invariant-terms l = l.list.items ≡ take l.k l.terms
