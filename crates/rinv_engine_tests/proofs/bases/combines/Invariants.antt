use Rattle.std.proofs.Common.{nat_lt, All}
use Rattle.rinv_algebra.specs.Normal.{IsNormal}
use Rattle.rinv_algebra.specs.Residue.{residue_ops}
use Rattle.rinv_engine_tests.proofs.bases.combines.Given as goal

abbrev pub invariant-products : goal.invariant-products
invariant-products l = All (IsNormal (residue_ops l.ring.coeffs) (λ c. nat_lt c l.ring.coeffs) l.ring.vars) l.products.items
