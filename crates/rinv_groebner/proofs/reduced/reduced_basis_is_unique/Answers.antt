use Rattle.rinv_groebner.proofs.ListElements.{all_first}
use Rattle.rinv_groebner.proofs.ReducedLists.{reduced-same}
use Rattle.rinv_groebner.proofs.reduced.reduced_basis_is_unique.Goals as goal

pub returns : goal.returns
returns g c = λ o cmp v fs es gs hs l field order gs_in hs_in same r r' a a'. reduced-same o l field cmp v order fs es gs hs same (all_first o l v gs gs_in) (all_first o l v hs hs_in) r r' a a'
