use Rattle.std.proofs.Common.{ℕ, ◌<◌, [], get_or}
use Rattle.rinv_algebra.specs.Residue.{residue_ops}
use Rattle.rinv_algebra.specs.Polynomial.{difference}
use Rattle.rinv_algebra.specs.Ideal.{IsMember}
use Rattle.rinv_laws.proofs.quickly.are_same.Given as goal

abbrev pub invariant-places : goal.invariant-places
invariant-places l = (j : ℕ) → j < l.k → IsMember (residue_ops l.ring.coeffs) l.basis.polys.items (difference (residue_ops l.ring.coeffs) (get_or l.left j []) (get_or l.right j []))
