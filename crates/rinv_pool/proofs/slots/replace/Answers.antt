use Rattle.std.proofs.Common.{◌∙◌, sym, ap}
use Rattle.rinv_pool.proofs.Places.{next-same, next-other, term-same, term-other, term-here}
use Rattle.rinv_pool.proofs.slots.replace.Goals as goal

pub returns-clause-term_here : goal.returns-clause-term_here
returns-clause-term_here g c = rw c.replace-before.ensures.after (term-same c.args.slots.now.items c.args.place _ c.requires)

pub returns-clause-term_others : goal.returns-clause-term_others
returns-clause-term_others g c = λ at other. term-other c.args.slots.now.items c.args.place at _ other

pub returns-clause-next_here : goal.returns-clause-next_here
returns-clause-next_here g c = rw c.replace-before.ensures.after (next-same c.args.slots.now.items c.args.place _ c.requires)

pub returns-clause-next_others : goal.returns-clause-next_others
returns-clause-next_others g c = λ at other. next-other c.args.slots.now.items c.args.place at _ other

pub returns-clause-before : goal.returns-clause-before
returns-clause-before g c =
    ap (λ s. s.term) (c.replace-before.ensures.value ∙ c.index_mut-slot.ensures.value) ∙ sym (term-here c.args.slots.now.items c.args.place c.index_mut-slot.result.now c.requires)
