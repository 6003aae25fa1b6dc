use Rattle.rinv_groebner.proofs.ListElements.{all_first}
use Rattle.rinv_groebner.proofs.SettledLists.{settled_basis}
use Rattle.rinv_groebner.proofs.laws.buchberger_criterion.Goals as goal

pub returns : goal.returns
returns g c = λ o cmp v hs pairs l field order in_v nonzero settled all. settled_basis o l field cmp v order hs (all_first o l v hs in_v) nonzero settled all
