use Rattle.std.proofs.Common.{take, nat_lt}
use Rattle.rinv_algebra.specs.Ring.{IsSame}
use Rattle.rinv_algebra.specs.Residue.{residue_ops}
use Rattle.rinv_algebra.specs.Polynomial.{poly_ops}
use Rattle.rinv_algebra.specs.Normal.{IsNormal}
use Rattle.rinv_defs.specs.System.{space_count}
use Rattle.rinv_acceptance.specs.Denominators.{product_from}
use Rattle.rinv_certify.proofs.raising.times_factors.Given as goal

abbrev pub invariant-factors : goal.invariant-factors
invariant-factors l = let s = l.system.system in record {
  normal : IsNormal (residue_ops s.p) (λ c. nat_lt c s.p) (space_count s) l.product;
  value : IsSame (poly_ops (residue_ops s.p)) l.product (product_from s l.fn.f (take l.k l.factors));
}
