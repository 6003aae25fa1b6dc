use Rattle.rinv_script.proofs.KeptFacts.{kept-more}
use Rattle.rinv_script.proofs.line.ScriptDraftLineReader.add_line.Goals as goal

pub returns-clause-reached : goal.returns-clause-reached
returns-clause-reached c = kept-more c.args.self.now _ c.args.line.now c.requires.reached c.in_ok-add_line.ensures.ok
