use Rattle.std.proofs.Common.{◌∙◌, sym, ap}
use Rattle.rinv_pool.proofs.Places.{next-here}
use Rattle.rinv_pool.proofs.slots.next_of.Goals as goal

pub returns : goal.returns
returns g c = ap (λ s. s.next) c.index-slot.ensures ∙ sym (next-here c.args.slots.now.items c.args.place c.index-slot.result.now c.requires)
