use Rattle.std.proofs.Common.{◌≡◌, take}
use Rattle.rinv_plain.proofs.lists.plain_list.Given as goal

abbrev pub invariant-polynomials : goal.invariant-polynomials
invariant-polynomials l = l.list.items ≡ take l.k l.fs
