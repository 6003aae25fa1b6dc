use Rattle.rinv_queries.proofs.FromPieces.{pieces-complete}
use Rattle.rinv_queries.proofs.known.known_of.Goals as goal

pub returns-in_ok-basis-clause-complete : goal.returns-in_ok-basis-clause-complete
returns-in_ok-basis-clause-complete c = rw c.if-needed.true (pieces-complete c.args.system.now c.in_ok-found.found c.requires.system c.in_ok-found.ensures.pieces)
