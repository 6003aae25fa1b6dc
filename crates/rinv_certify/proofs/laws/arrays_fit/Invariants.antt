use Rattle.std.proofs.Common.{◌≡◌, true, map, take}
use Rattle.std.specs.List.{list_all}
use Rattle.rinv_algebra.specs.Residue.{residue_ops}
use Rattle.rinv_algebra.specs.Fits.{combination_fits}
use Rattle.rinv_certify.proofs.laws.arrays_fit.Given as goal

abbrev pub invariant-arrays : goal.invariant-arrays
invariant-arrays l = list_all (λ us. combination_fits (residue_ops l.ring.coeffs) us l.generators.items) (map (λ us. us.items) (take l.k l.arrays)) ≡ true
