use Rattle.rinv_groebner.proofs.ListElements.{all_first}
use Rattle.rinv_groebner.proofs.JournalBasis.{journal-basis, journal-nonzero}
use Rattle.rinv_groebner.proofs.JournalUnique.{journal_unique}
use Rattle.rinv_groebner.proofs.laws.complete_journal.Goals as goal

pub returns : goal.returns
returns g c = record {
  basis = λ o cmp v given journal list l field order in_v j complete. journal-basis o l field cmp v order given (all_first o l v given in_v) j complete;
  nonzero = λ o cmp v given journal list l field order in_v j. journal-nonzero o l field cmp v order given (all_first o l v given in_v) j;
  determined = λ o cmp v given others journal list other l field order in_v alike j k. journal_unique o l cmp v order field given others (all_first o l v given in_v) alike journal list other j k;
}
