use Rattle.std.proofs.Common.{◌≡◌, take, sum}
use Rattle.rinv_elim.proofs.eliminating.is_free.Given as goal

abbrev pub invariant-group : goal.invariant-group
invariant-group l = sum (take l.k l.mono) ≡ 0
