use Rattle.std.proofs.Common.{◌≡◌, List, map, take}
use Rattle.rinv_defs.specs.System.{Poly}
use Rattle.rinv_identities.proofs.elements.copied_elements.Given as goal

abbrev pub invariant-elements : goal.invariant-elements
invariant-elements l = l.elements.items ≡ map (λ (b : Poly × List Poly). b.0) (take l.k l.basis)
