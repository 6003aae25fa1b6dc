use Rattle.std.proofs.Common.{◌≡◌, false, nat_lt, All}
use Rattle.rinv_algebra.specs.Polynomial.{is_zero}
use Rattle.rinv_algebra.specs.Normal.{IsNormal}
use Rattle.rinv_algebra.specs.Residue.{residue_ops}
use Rattle.rinv_engine_tests.proofs.tables.nonzero.Given as goal

abbrev pub invariant-loop-list : goal.invariant-loop-list
invariant-loop-list l = record {
  elements : All (IsNormal (residue_ops l.ring.coeffs) (λ c. nat_lt c l.ring.coeffs) l.ring.vars) l.found.items;
  nonzero : All (λ h. is_zero (residue_ops l.ring.coeffs) h ≡ false) l.found.items;
}
