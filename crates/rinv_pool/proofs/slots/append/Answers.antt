use Rattle.std.proofs.Common.{◌∙◌}
use Rattle.rinv_pool.proofs.slots.append.Goals as goal

pub returns-clause-term_here : goal.returns-clause-term_here
returns-clause-term_here g c = c.link.ensures.terms c.args.place ∙ c.replace-before.ensures.term_here

pub returns-clause-term_others : goal.returns-clause-term_others
returns-clause-term_others g c = λ at other. c.link.ensures.terms at ∙ c.replace-before.ensures.term_others at other

pub returns-clause-next_others : goal.returns-clause-next_others
returns-clause-next_others g c = λ at other apart. c.link.ensures.next_others at apart ∙ c.replace-before.ensures.next_others at other
