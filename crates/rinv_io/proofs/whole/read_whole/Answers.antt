use Rattle.std.proofs.Common.{◌+◌, length-take, arith}
use Rattle.rinv_io.proofs.Known.{most-behind}
use Rattle.rinv_io.proofs.whole.read_whole.Goals as goal

pub returns-in_err-count-clause-most : goal.returns-in_err-count-clause-most
returns-in_err-count-clause-most g c =
    most-behind (g.I.Source.left c.args.input.now) (g.I.Source.left c.loop-bytes.input) (g.I.Source.left c.read_more.new.input) c.loop-bytes.bytes.items _ (c.args.limit + 1)
    c.loop-bytes.invariant.2 c.read_more.ensures.most
    (omega (arith, length-take c.min-room.result c.deref_mut.result.now, c.min-room.ensures, c.len-in-loop-bytes.ensures, c.loop-bytes.invariant.1, c.loop-bytes.bytes.small, c.loop-bytes.bytes.ok))
