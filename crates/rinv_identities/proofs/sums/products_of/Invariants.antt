use Rattle.std.proofs.Common.{◌≡◌, true, take}
use Rattle.rinv_algebra.specs.Ring.{IsSame}
use Rattle.rinv_algebra.specs.Residue.{residue_ops}
use Rattle.rinv_algebra.specs.Polynomial.{poly_ops}
use Rattle.rinv_algebra.specs.Ideal.{combination}
use Rattle.rinv_algebra.specs.Fits.{combination_fits}
use Rattle.rinv_poly.specs.Sums.{sum_of}
use Rattle.rinv_parts.specs.Points.{ArePolynomials}
use Rattle.rinv_identities.proofs.sums.products_of.Given as goal

abbrev pub invariant-products : goal.invariant-products
invariant-products l = let o = residue_ops l.ring.coeffs in record {
  normal : ArePolynomials l.ring.coeffs l.ring.vars l.products.items;
  sum : IsSame (poly_ops o) (sum_of l.products.items) (combination o (take l.k l.cofactors) (take l.k l.generators));
  fits : combination_fits o (take l.k l.cofactors) (take l.k l.generators) ≡ true;
}
