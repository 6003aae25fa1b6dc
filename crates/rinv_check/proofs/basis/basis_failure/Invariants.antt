use Rattle.std.proofs.Common.{not, List, Bool}
use Rattle.rinv_defs.specs.System.{Poly}
use Rattle.rinv_defs.specs.Conditions.{vanishes_on_graph}
use Rattle.rinv_cert.specs.Seen.{plain}
use Rattle.rinv_identities.proofs.Walks.{Walks}
use Rattle.rinv_check.proofs.basis.basis_failure.Given as goal

abbrev pub invariant-elements : goal.invariant-elements
invariant-elements l =
    let test : Poly × List Poly → Bool = λ b. not (vanishes_on_graph (plain l.stored).system b.0 b.1) in
    Walks test l.basis l.k
