use Rattle.std.proofs.Common.{◌∙◌, sym, ap}
use Rattle.rinv_pool.proofs.Places.{next-same, next-other, term-kept, term-here}
use Rattle.rinv_pool.proofs.slots.link.Goals as goal

pub returns-clause-terms : goal.returns-clause-terms
returns-clause-terms g c =
    term-kept c.args.slots.now.items c.args.place _ c.requires (ap (λ s. s.term) c.index_mut-slot.ensures.value ∙ sym (term-here c.args.slots.now.items c.args.place c.index_mut-slot.result.now c.requires))

pub returns-clause-next_here : goal.returns-clause-next_here
returns-clause-next_here g c = next-same c.args.slots.now.items c.args.place _ c.requires

pub returns-clause-next_others : goal.returns-clause-next_others
returns-clause-next_others g c = λ at other. next-other c.args.slots.now.items c.args.place at _ other
