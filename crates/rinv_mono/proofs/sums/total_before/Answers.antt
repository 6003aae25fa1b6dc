use Rattle.std.proofs.Common.{arith}
use Rattle.rinv_mono.proofs.Degrees.{before-place}
use Rattle.rinv_mono.proofs.sums.total_before.Goals as goal

pub returns-else-place-eq0 : goal.returns-else-place-eq0
returns-else-place-eq0 c = before-place c.args.sums.now c.args.place (omega (arith, c.if-place-eq0.false)) c.requires
