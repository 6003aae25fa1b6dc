use Rattle.std.proofs.Common.{◌++◌, ◌∷◌, []}
use Rattle.rinv_system.specs.LineTexts.{AreTaken}
use Rattle.rinv_system.proofs.line.DraftLineReader.add_line.Goals as goal

pub returns-clause-reached : goal.returns-clause-reached
returns-clause-reached c = (c.requires.reached.0 ++ c.args.line.now ∷ [], AreTaken.one_more c.args.line.now c.requires.reached.1 c.in_ok-add_line.ensures.ok)
