use Rattle.std.proofs.Common.{◌≡◌, take, drop, ◌==◌, map, List, ℕ}
use Rattle.std.specs.List.{list_all}
use Rattle.rinv_algebra.specs.Monomial.{total_degree}
use Rattle.rinv_basis_check.proofs.leads.is_free_of_group.Given as goal

abbrev pub invariant-terms : goal.invariant-terms
invariant-terms l =
    let monomials : List (List ℕ) = map (λ t. t.0) l.f in
    list_all (λ m. total_degree (take l.group m) == 0) (drop l.k monomials) ≡ list_all (λ m. total_degree (take l.group m) == 0) monomials
