use Rattle.std.proofs.Common.{◌≡◌, take}
use Rattle.rinv_certify.proofs.common.fraction_list.Given as goal

abbrev pub invariant-fractions : goal.invariant-fractions
invariant-fractions l = l.list.items ≡ take l.k l.fractions
