use Rattle.rinv_system.proofs.LineFacts.{lines_of-split, lines_of-whole}
use Rattle.rinv_system.proofs.lines.first_line.Goals as goal

pub returns-in-Some-clause-lines : goal.returns-in-Some-clause-lines
returns-in-Some-clause-lines c = lines_of-split _ _ _ _ _ _ c.len_before.ensures.before c.split_at.ensures.front c.split_at.ensures.back c.in-Some.ensures.cases.0

pub returns-in-None-clause-lines : goal.returns-in-None-clause-lines
returns-in-None-clause-lines c = lines_of-whole _ _ _ _ c.requires c.len_before.ensures.before c.split_at.ensures.front c.split_at.ensures.back c.in-None.ensures.cases
