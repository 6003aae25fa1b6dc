use Rattle.rinv_queries.proofs.Pieces.{none-shown}
use Rattle.rinv_queries.proofs.known.Known.write_generators.Goals as goal

pub returns-in-Lawful : goal.returns-in-Lawful
returns-in-Lawful c = rw c.in-Lawful.is (none-shown c.args.system.now.system c.args.out.now.items)
