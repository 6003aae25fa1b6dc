use Rattle.std.proofs.Common.{◌≡◌, ◌+◌, drop, not, Bool}
use Rattle.std.specs.List.{position_from}
use Rattle.rinv_defs.specs.System.{Poly}
use Rattle.rinv_defs.specs.RelationConditions.{is_covered}
use Rattle.rinv_cert.specs.Seen.{plain}
use Rattle.rinv_basis_check.proofs.leads.leads_failure.Given as goal

abbrev pub invariant-elements : goal.invariant-elements
invariant-elements l =
    let test : Poly → Bool = λ h. not (is_covered (plain l.stored) h) in
    position_from test 1 l.basis.elements.items ≡ position_from test (l.k + 1) (drop l.k l.basis.elements.items)
