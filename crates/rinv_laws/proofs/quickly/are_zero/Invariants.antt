use Rattle.std.proofs.Common.{ℕ, ◌<◌, [], get_or}
use Rattle.rinv_algebra.specs.Residue.{residue_ops}
use Rattle.rinv_algebra.specs.Ideal.{IsMember}
use Rattle.rinv_laws.proofs.quickly.are_zero.Given as goal

abbrev pub invariant-polynomials : goal.invariant-polynomials
invariant-polynomials l = (j : ℕ) → j < l.k → IsMember (residue_ops l.ring.coeffs) l.basis.polys.items (get_or l.fs j [])
