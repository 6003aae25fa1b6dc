use Rattle.rinv_groebner.proofs.ListElements.{all_first}
use Rattle.rinv_cut.proofs.FreeBasis.{free-basis}
use Rattle.rinv_cut.proofs.free_part_is_a_basis.Goals as goal

pub returns : goal.returns
returns g c = λ o cmp v k fs hs l field order eliminates hs_in nonzero basis. free-basis o l field cmp v k order eliminates fs hs (all_first o l v hs hs_in) nonzero basis
