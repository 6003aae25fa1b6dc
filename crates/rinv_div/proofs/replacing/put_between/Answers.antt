use Rattle.std.proofs.Common.{◌∙◌, sym}
use Rattle.rinv_div.proofs.Placed.{insert-between, same-between}
use Rattle.rinv_div.proofs.replacing.put_between.Goals as goal

pub returns-then-is_zero : goal.returns-then-is_zero
returns-then-is_zero g c = same-between (g.R.Ring.ops c.args.coeffs.now) c.args.left.now.items c.args.k (c.args.mono, c.args.c) (sym c.is_zero.ensures ∙ c.if-is_zero.true)

pub returns : goal.returns
returns g c = c.in_ok-insert.ensures.items ∙ insert-between (g.R.Ring.ops c.args.coeffs.now) c.args.left.now.items c.args.k (c.args.mono, c.args.c) (sym c.is_zero.ensures ∙ c.if-is_zero.false)
