use Rattle.rinv_elim.proofs.LocalisedSoFar.{AreLocalising}
use Rattle.rinv_elim.proofs.localising.kept_relations.Given as goal

abbrev pub invariant-places : goal.invariant-places
invariant-places l = AreLocalising l.system.system l.cut l.places.items l.k l.relations.items
