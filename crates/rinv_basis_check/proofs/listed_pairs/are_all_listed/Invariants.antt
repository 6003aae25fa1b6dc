use Rattle.std.proofs.Common.{◌≡◌, ℕ}
use Rattle.std.specs.List.{list_all}
use Rattle.rinv_defs.specs.PairConditions.{all_pairs}
use Rattle.rinv_basis_check.specs.Listed.{is_listed}
use Rattle.rinv_basis_check.proofs.Ranges.{pairs_from}
use Rattle.rinv_basis_check.proofs.listed_pairs.are_all_listed.Given as goal

abbrev pub invariant-seconds : goal.invariant-seconds
invariant-seconds l = list_all (λ (p : ℕ × ℕ). is_listed l.listed p.0 p.1) (pairs_from l.j l.count) ≡ list_all (λ (p : ℕ × ℕ). is_listed l.listed p.0 p.1) (all_pairs l.count)
