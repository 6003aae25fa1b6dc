use Rattle.std.proofs.Common.{◌≡◌, take}
use Rattle.rinv_certify.proofs.common.names.Given as goal

abbrev pub invariant-names : goal.invariant-names
invariant-names l = l.list.items ≡ take l.k l.names
