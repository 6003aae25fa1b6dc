use Rattle.std.proofs.Common.{◌≡◌, take, filter}
use Rattle.rinv_algebra.specs.BlockEnds.{sizes_from}
use Rattle.rinv_algebra.specs.Leading.{leading_monomial}
use Rattle.rinv_algebra.specs.Order.{block_order}
use Rattle.rinv_algebra.specs.Residue.{residue_ops}
use Rattle.rinv_groebner.specs.Elimination.{is_free}
use Rattle.rinv_defs.specs.System.{group_count}
use Rattle.rinv_elim.proofs.eliminating.free_elements.Given as goal

abbrev pub invariant-elements : goal.invariant-elements
invariant-elements l = l.free.items ≡ filter (λ h. is_free (group_count l.system.system) (leading_monomial (residue_ops l.ring.coeffs) (block_order (sizes_from 0 l.order)) h)) (take l.k l.polys)
