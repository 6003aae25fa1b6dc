use Rattle.rinv_system.proofs.EntryFacts.{entries_of-split, entries_of-whole}
use Rattle.rinv_system.proofs.entries.first_entry.Goals as goal

pub returns-in-Some-clause-entries : goal.returns-in-Some-clause-entries
returns-in-Some-clause-entries c = entries_of-split _ _ _ _ _ _ c.len_before.ensures.before c.split_at.ensures.front c.split_at.ensures.back c.in-Some.ensures.cases.0

pub returns-in-None-clause-entries : goal.returns-in-None-clause-entries
returns-in-None-clause-entries c = entries_of-whole _ _ _ _ c.len_before.ensures.before c.split_at.ensures.front c.split_at.ensures.back c.in-None.ensures.cases
