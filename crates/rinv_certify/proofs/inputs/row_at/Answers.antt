use Rattle.std.proofs.Common.{◌++◌, arith}
use Rattle.rinv_defs.specs.Extended.{graph}
use Rattle.rinv_certify.proofs.Rows.{count-more, given-length}
use Rattle.rinv_certify.proofs.inputs.row_at.Goals as goal

pub returns-clause-next : goal.returns-clause-next
returns-clause-next c at =
    let s = c.args.system.now.system in
    let many = given-length s c.requires.system in
    count-more s c.args.count (s.ideal ++ graph s) c.args.k c.args.place c.is_zero_at-is_nothing.result (omega (arith, many, c.requires.inside)) c.is_zero_at-is_nothing.ensures c.if-is_nothing.false at
