use Rattle.std.proofs.Common.{length, refl}
use Rattle.rinv_mono.proofs.RankLoops.{rank-made}
use Rattle.rinv_mono.proofs.graded.GrevlexMonoOrder.rank.Goals as goal

pub returns : goal.returns
returns c = rank-made c.sums-sums.result.now c.args.a.now c.in_ok-rank.rank.items c.push_graded.new.out.items (length c.sums-sums.result.now) c.in_ok-rank.ensures.items c.in_ok-push_graded.ensures c.sums-sums.ensures.value refl
