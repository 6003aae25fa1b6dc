use Rattle.rinv_gens.proofs.Ordered.{ordered-basis}
use Rattle.rinv_gens.proofs.relations.reduced.Goals as goal

pub returns-in-Ok-clause-ordered : goal.returns-in-Ok-clause-ordered
returns-in-Ok-clause-ordered c = ordered-basis c.args.system.now.system c.in-Ok.monic c.in-Ok.ensures.reduced c.in-Ok.ensures.ascending c.in-Ok.ensures.stored
