use Rattle.std.proofs.Common.{◌≡◌, ◌≤◌, ◌∷◌, [], All, map, take}
use Rattle.rinv_algebra.specs.Monomial.{total_degree, max_degree}
use Rattle.rinv_elim.proofs.localising.kept_in_z.Given as goal

abbrev pub invariant-each : goal.invariant-each
invariant-each l = record {
  made : l.monomials.items ≡ map (λ m. (m, 1) ∷ []) (take l.lead-index l.leads);
  low : All (λ m. total_degree m ≤ max_degree) (take l.lead-index l.leads);
}
