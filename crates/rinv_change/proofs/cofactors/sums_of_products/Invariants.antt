use Rattle.std.proofs.Common.{◌≡◌, ◌<◌, ℕ, [], length, get_or, map}
use Rattle.rinv_algebra.specs.Ring.{IsSame}
use Rattle.rinv_algebra.specs.Residue.{residue_ops}
use Rattle.rinv_algebra.specs.Polynomial.{poly_ops}
use Rattle.rinv_algebra.specs.Ideal.{combination}
use Rattle.rinv_cofactors.specs.Combining.{column}
use Rattle.rinv_parts.specs.Points.{ArePolynomials}
use Rattle.rinv_change.proofs.cofactors.sums_of_products.Given as goal

abbrev pub invariant-places : goal.invariant-places
invariant-places l = let o = residue_ops l.ring.coeffs in record {
  number : length l.sums.items ≡ l.place;
  normal : ArePolynomials l.ring.coeffs l.ring.vars l.sums.items;
  rule : (m : ℕ) → m < l.place → IsSame (poly_ops o) (get_or l.sums.items m []) (combination o l.quotients (column (map (λ us. us.items) l.lists) m));
}
