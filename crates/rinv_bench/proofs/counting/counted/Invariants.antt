use Rattle.std.proofs.Common.{◌≡◌, take}
use Rattle.std.specs.List.{count_by}
use Rattle.rinv_bench.specs.Summary.{is_rewritten, is_not_invariant}
use Rattle.rinv_bench.proofs.counting.counted.Given as goal

abbrev pub invariant-outcomes : goal.invariant-outcomes
invariant-outcomes l = (l.rewritten ≡ count_by is_rewritten (take l.k l.outcomes)) × (l.not_invariant ≡ count_by is_not_invariant (take l.k l.outcomes))
