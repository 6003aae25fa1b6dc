use Rattle.rinv_elim.proofs.Solving.{IsSolving}
use Rattle.rinv_elim.proofs.relating.relation_of.Given as goal

abbrev pub invariant-each : goal.invariant-each
invariant-each l = IsSolving l.system.system l.h l.lead l.mono-index l.tail.items
