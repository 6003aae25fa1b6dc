use Rattle.std.proofs.Common.{◌≡◌, ◌≤◌, ◌-◌, ◌∙◌, ap₂, take, arith}
use Rattle.rinv_algebra.specs.BlockEnds.{last_from}
use Rattle.rinv_mono.proofs.Degrees.{part-le, part-degree}
use Rattle.rinv_mono.proofs.sums.degree_between.Goals as goal

pub overflow_sub-after : goal.overflow_sub-after
overflow_sub-after c = omega (arith, part-le c.args.sums.now c.args.start c.args.end c.requires.order c.requires.rising, c.total_before-before.ensures, c.total_before-after.ensures)

pub returns : goal.returns
returns c =
    let is : c.from.result ≡ last_from 0 (take c.args.end c.args.sums.now) - last_from 0 (take c.args.start c.args.sums.now) = c.from.ensures ∙ ap₂ ◌-◌ c.total_before-after.ensures c.total_before-before.ensures in
    part-degree c.args.sums.now c.args.start c.args.end c.from.result c.requires.order c.requires.rising is
