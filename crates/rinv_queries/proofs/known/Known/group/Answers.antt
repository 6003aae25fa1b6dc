use Rattle.std.proofs.Common.{subst}
use Rattle.rinv_queries.specs.declared.known.Known.{Known}
use Rattle.rinv_queries.specs.Known.{IsKnown}
use Rattle.rinv_queries.proofs.KnownFacts.{generated-group}
use Rattle.rinv_queries.proofs.known.Known.group.Goals as goal

pub returns-in-Generated : goal.returns-in-Generated
returns-in-Generated c told known = let facts = subst (λ (k : Known). IsKnown told k) c.in-Generated.is known in generated-group told c.in-Generated.found facts.0 facts.1
