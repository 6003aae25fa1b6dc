use Rattle.std.proofs.Common.{map, take}
use Rattle.std.specs.List.{AllZip}
use Rattle.rinv_change.specs.Cofactors.{ProvesInvariance}
use Rattle.rinv_generators.proofs.proving.invariance_proofs.Given as goal

abbrev pub invariant-fractions : goal.invariant-fractions
invariant-fractions l = AllZip (ProvesInvariance l.system.system l.group.basis) (take l.k l.fractions) (map (λ us. us.items) l.proofs.items)
