use Rattle.std.proofs.Common.{◌≡◌, [], map, take}
use Rattle.rinv_algebra.specs.Residue.{residue_ops}
use Rattle.rinv_algebra.specs.Polynomial.{coefficient}
use Rattle.rinv_system.proofs.listing.constants.Given as goal

abbrev pub invariant-list : goal.invariant-list
invariant-list l = l.found.items ≡ map (λ f. coefficient (residue_ops l.fn.field) f []) (take l.polynomial-index l.list)
