use Rattle.std.proofs.Common.{◌≡◌, ℕ, ◌+◌, drop, not, List, Bool}
use Rattle.std.specs.List.{position_from}
use Rattle.rinv_defs.specs.System.{Poly}
use Rattle.rinv_defs.specs.RelationConditions.{relation_is_shown}
use Rattle.rinv_cert.specs.declared.certificate.Tied.{Tied}
use Rattle.rinv_cert.specs.Seen.{plain, relation_item_by}
use Rattle.rinv_basis_check.proofs.relations.relations_failure.Given as goal

abbrev pub invariant-relations : goal.invariant-relations
invariant-relations l =
    let test : List ℕ × Poly × List (List ℕ × Poly × Tied) × List Poly → Bool = λ r. not (relation_is_shown (plain l.stored) (relation_item_by (λ f. f) r)) in
    position_from test 1 l.relations ≡ position_from test (l.k + 1) (drop l.k l.relations)
