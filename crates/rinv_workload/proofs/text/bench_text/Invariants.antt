use Rattle.std.proofs.Common.{◌≡◌}
use Rattle.rinv_workload.proofs.Texts.{so_far}
use Rattle.rinv_workload.proofs.text.bench_text.Given as goal

abbrev pub invariant-queries : goal.invariant-queries
invariant-queries l = l.text.items ≡ so_far l.k l.i
