use Rattle.std.proofs.Common.{◌≡◌, ◌++◌, drop, length, IsTrue}
use Rattle.rinv_algebra.specs.Ranks.{block_rank}
use Rattle.rinv_algebra.specs.BlockEnds.{sizes_from, rises_from, last_from}
use Rattle.rinv_mono.proofs.block_order.push_blocks.Given as goal

-- the blocks from here on are still to be ranked
abbrev pub invariant-loop-k : goal.invariant-loop-k
invariant-loop-k l =
    IsTrue (rises_from l.start (drop l.k l.ends)) × (length l.sums ≡ last_from l.start (drop l.k l.ends))
    × (l.rank.items ++ block_rank (sizes_from l.start (drop l.k l.ends)) (drop l.start (sizes_from 0 l.sums)) ≡ l.initial.rank.items ++ block_rank (sizes_from 0 l.ends) (sizes_from 0 l.sums))
