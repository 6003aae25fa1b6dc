use Rattle.std.proofs.Common.{◌≡◌, ◌∙◌, ◌≤◌, ◌-◌, ◌+◌, ◌++◌, ℕ, List, get_or, drop, take, ap, arith}
use Rattle.rinv_algebra.specs.BlockEnds.{sizes_from}
use Rattle.rinv_algebra.specs.Ranks.{block_rank, graded_rank}
use Rattle.rinv_mono.proofs.BlockLoop.{begins-le, rises-on, last-on, ends-le}
use Rattle.rinv_mono.proofs.RankLoops.{block-place}
use Rattle.rinv_mono.proofs.block_order.push_blocks.Goals as goal

pub push_graded-requires-clause-order : goal.push_graded-requires-clause-order
push_graded-requires-clause-order c = begins-le c.args.ends.now c.loop-k.k c.loop-k.start (omega arith) c.loop-k.invariant.0

pub push_graded-requires-clause-inside : goal.push_graded-requires-clause-inside
push_graded-requires-clause-inside c = omega (arith, ends-le c.args.ends.now c.loop-k.k c.loop-k.start (omega arith) c.loop-k.invariant.0, c.loop-k.invariant.1)

pub loop-k-preserved : goal.loop-k-preserved
loop-k-preserved c =
    let end = get_or c.args.ends.now c.loop-k.k 0 in
    let exponents = sizes_from 0 c.args.sums.now in
    let wrote : c.push_graded.new.out.items ≡ c.loop-k.rank.items ++ graded_rank (take (end - c.loop-k.start) (drop c.loop-k.start exponents)) = c.in_ok-push_graded.ensures in (
      rises-on c.args.ends.now c.loop-k.k c.loop-k.start (omega arith) c.loop-k.invariant.0,
      c.loop-k.invariant.1 ∙ last-on c.args.ends.now c.loop-k.k c.loop-k.start (omega arith) c.loop-k.invariant.0,
      ap (λ (r : List ℕ). r ++ block_rank (sizes_from end (drop (c.loop-k.k + 1) c.args.ends.now)) (drop end exponents)) wrote
          ∙ block-place c.args.ends.now exponents c.loop-k.rank.items _ c.loop-k.k c.loop-k.start (omega arith) c.loop-k.invariant.0 c.loop-k.invariant.2,
    )
