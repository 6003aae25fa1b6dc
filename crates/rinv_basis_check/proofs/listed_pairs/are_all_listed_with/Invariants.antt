use Rattle.std.proofs.Common.{◌≡◌, ◌-◌}
use Rattle.std.specs.List.{list_all, range_with_len}
use Rattle.rinv_basis_check.specs.Listed.{is_listed}
use Rattle.rinv_basis_check.proofs.listed_pairs.are_all_listed_with.Given as goal

abbrev pub invariant-firsts : goal.invariant-firsts
invariant-firsts l = list_all (λ i. is_listed l.listed i l.j) (range_with_len l.i (l.j - l.i)) ≡ list_all (λ i. is_listed l.listed i l.j) (range_with_len 1 (l.j - 1))
