use Rattle.std.proofs.Common.{◌∙◌, ap}
use Rattle.rinv_pairs.specs.Packing.{after, after_four}
use Rattle.rinv_pairs.proofs.packing.after_four.Goals as goal

pub returns : goal.returns
unfolding after_four
returns c = c.after-4.ensures ∙ ap after (c.after-3.ensures ∙ ap after (c.after-2.ensures ∙ ap after c.after.ensures))
