use Rattle.std.proofs.Common.{◌≡◌, ◌-◌, false, length, drop}
use Rattle.std.specs.List.{list_any}
use Rattle.rinv_bench.specs.Summary.{is_rewritten}
use Rattle.rinv_bench.proofs.summary.write_last.Given as goal

abbrev pub invariant-outcomes : goal.invariant-outcomes
invariant-outcomes l = (l.out.items ≡ l.fn.out.items) × (list_any is_rewritten (drop (length l.outcomes - l.i) l.outcomes) ≡ false)
