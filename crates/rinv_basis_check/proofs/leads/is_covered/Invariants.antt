use Rattle.std.proofs.Common.{◌≡◌, ℕ, List, Bool, take, drop}
use Rattle.std.specs.List.{list_any}
use Rattle.rinv_algebra.specs.Monomial.{divides}
use Rattle.rinv_defs.specs.System.{Poly}
use Rattle.rinv_cert.specs.declared.certificate.Tied.{Tied}
use Rattle.rinv_basis_check.proofs.leads.is_covered.Given as goal

abbrev pub invariant-relations : goal.invariant-relations
invariant-relations l =
    let test : List ℕ × Poly × List (List ℕ × Poly × Tied) × List Poly → Bool = λ r. divides r.0 (take l.space (drop l.group l.mono)) in
    list_any test (drop l.k l.relations) ≡ list_any test l.relations
