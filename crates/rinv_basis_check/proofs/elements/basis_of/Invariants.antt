use Rattle.std.proofs.Common.{◌≡◌, map, take}
use Rattle.rinv_algebra.specs.Residue.{residue_ops}
use Rattle.rinv_algebra.specs.Order.{block_order}
use Rattle.rinv_algebra.specs.BlockEnds.{sizes_from}
use Rattle.rinv_algebra.specs.Leading.{leading_monomial}
use Rattle.rinv_basis_check.proofs.elements.basis_of.Given as goal

abbrev pub invariant-elements : goal.invariant-elements
invariant-elements l = l.leads.items ≡ map (leading_monomial (residue_ops l.ring.coeffs) (block_order (sizes_from 0 l.order-inside.ends.items))) (take l.k l.elements.items)
