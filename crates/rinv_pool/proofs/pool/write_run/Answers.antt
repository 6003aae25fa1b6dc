use Rattle.std.proofs.Common.{◌≤◌, ◌<◌, ◌∙◌, Some, sym, arith, length}
use Rattle.rinv_pool.specs.Runs.{empty_chain}
use Rattle.rinv_pool.proofs.Written.{with_item-next, with_item-set}
use Rattle.rinv_pool.proofs.pool.write_run.Goals as goal

pub returns-then-number-len-clause-written : goal.returns-then-number-len-clause-written
returns-then-number-len-clause-written c =
    let low : c.args.number < length c.args.runs.now.items = omega (arith, c.len.ensures, c.if-number-len.true) in
    sym (with_item-set c.args.runs.now.items c.args.number (Some empty_chain) low)

pub returns-clause-written : goal.returns-clause-written
returns-clause-written c =
    let high : length c.args.runs.now.items ≤ c.args.number = omega (arith, c.len.ensures, c.if-number-len.false) in
    c.in_ok-push.ensures.items ∙ sym (with_item-next c.args.runs.now.items c.args.number (Some empty_chain) c.requires high)
