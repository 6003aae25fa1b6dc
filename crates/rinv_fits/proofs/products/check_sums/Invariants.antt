use Rattle.std.proofs.Common.{◌≡◌, true, take}
use Rattle.rinv_algebra.specs.Residue.{residue_ops}
use Rattle.rinv_algebra.specs.Fits.{combination_fits}
use Rattle.rinv_fits.proofs.products.check_sums.Given as goal

abbrev pub invariant-products : goal.invariant-products
invariant-products l = combination_fits (residue_ops l.ring.coeffs) (take l.k l.cofactors) (take l.k l.generators) ≡ true
