use Rattle.std.proofs.Common.{◌∙◌, ◌++◌, List, ℕ, ap, length, codes, refl}
use Rattle.rinv_text.specs.Names.{symbols}
use Rattle.rinv_queries.proofs.Pieces.{symbols-number}
use Rattle.rinv_bench.specs.Summary.{number_line}
use Rattle.rinv_bench.proofs.Measures.{stored-in}
use Rattle.rinv_bench.proofs.Summaries.{summed-up}
use Rattle.rinv_bench.proofs.summary.summary.Goals as goal

pub write_last-requires-clause-outcomes : goal.write_last-requires-clause-outcomes
write_last-requires-clause-outcomes c =
    stored-in c.args.system.now.system _ c.args.count c.args.outcomes.now c.args.outcomes.now
    (ap (λ (ns : List (List ℕ)). length ns) (c.in_ok-symbols.ensures ∙ ap symbols c.in-Ok.ensures.1) ∙ symbols-number c.args.count) refl c.requires.outcomes

pub returns : goal.returns
returns c =
    summed-up c.args.k c.args.system.now.system c.args.count c.counted-counts.result.rewritten c.counted-counts.result.not_invariant c.args.outcomes.now _ _ _ _ _ _ _
    c.counted-counts.ensures.rewritten c.counted-counts.ensures.not_invariant (c.in_ok-symbols.ensures ∙ ap symbols c.in-Ok.ensures.1)
    (c.in_ok-write_head.ensures ∙ ap (λ (r : List ℕ). r ++ number_line (codes "bench ") c.args.k) c.new-out.ensures.items)
    c.in_ok-write_head-2.ensures c.in_ok-write_head-3.ensures c.in_ok-write_head-4.ensures c.in_ok-write_last.ensures
    (c.in_ok-extend_from_slice.ensures.items ∙ ap (λ (l : List ℕ). c.write_last.new.out.items ++ l) c.complete_line.ensures)
