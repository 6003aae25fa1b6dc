use Rattle.std.proofs.Common.{take, map, All}
use Rattle.std.specs.List.{AllZip}
use Rattle.rinv_algebra.specs.Ring.{IsSame}
use Rattle.rinv_algebra.specs.Polynomial.{poly_ops}
use Rattle.rinv_algebra.specs.Normal.{IsNormal}
use Rattle.rinv_algebra.specs.Ideal.{combination}
use Rattle.rinv_poly.specs.Sums.{sum_of}
use Rattle.rinv_poly.specs.Stored.{IsStored, products}
use Rattle.rinv_cofactors.specs.Combining.{column}
use Rattle.rinv_cofactors.proofs.columns.sum_of_products.Given as goal

abbrev pub invariant-products : goal.invariant-products
invariant-products g l = let o = g.F.Ring.ops l.ring.coeffs in record {
  normal : All (IsNormal o (g.F.Ring.is_element l.ring.coeffs) l.ring.vars) l.products.items;
  stored : AllZip (IsStored o (g.F.Ring.is_element l.ring.coeffs) l.ring.vars) (products o (take l.k l.quotients) (take l.k (column (map (λ us. us.items) l.lists) l.place))) l.products.items;
  value : IsSame (poly_ops o) (sum_of l.products.items) (combination o (take l.k l.quotients) (take l.k (column (map (λ us. us.items) l.lists) l.place)));
}
