use Rattle.std.proofs.Common.{map}
use Rattle.rinv_buch.specs.Kinds.{journal_of}
use Rattle.rinv_generators.specs.Made.{laws_of}
use Rattle.rinv_generators.proofs.Together.{put-together}
use Rattle.rinv_generators.proofs.making.put_together.Goals as goal

pub returns-clause-generated : goal.returns-clause-generated
returns-clause-generated c = λ told h. put-together told c.args.found (laws_of c.args.laws) (map (λ us. us.items) c.args.proofs.items) (journal_of c.args.journal.items) h
