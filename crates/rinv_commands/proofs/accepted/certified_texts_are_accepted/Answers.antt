use Rattle.rinv_commands.proofs.Acceptance.{short, accepted}
use Rattle.rinv_commands.proofs.accepted.certified_texts_are_accepted.Goals as goal

pub returns-clause-short : goal.returns-clause-short
returns-clause-short c = short

pub returns-clause-accepted : goal.returns-clause-accepted
returns-clause-accepted c = accepted
