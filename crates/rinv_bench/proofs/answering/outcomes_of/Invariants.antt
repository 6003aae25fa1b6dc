use Rattle.rinv_queries.specs.Known.{fractions_of}
use Rattle.rinv_bench.proofs.Outcomes.{AreOutcomes}
use Rattle.rinv_bench.proofs.answering.outcomes_of.Given as goal

abbrev pub invariant-queries : goal.invariant-queries
invariant-queries l = AreOutcomes l.system.system (fractions_of l.known) l.queries l.k l.outcomes.items
