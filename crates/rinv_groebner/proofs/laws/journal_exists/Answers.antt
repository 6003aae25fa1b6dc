use Rattle.rinv_groebner.proofs.ListElements.{all_first}
use Rattle.rinv_groebner.proofs.JournalExists.{journal_exists}
use Rattle.rinv_groebner.proofs.laws.journal_exists.Goals as goal

pub returns : goal.returns
returns g c = λ o cmp v given l field order in_v. journal_exists o l field cmp v order given (all_first o l v given in_v)
