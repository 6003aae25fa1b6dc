use Rattle.rinv_cut.proofs.Joined.{joined-basis}
use Rattle.rinv_cut.proofs.reduced_part_is_of_a_basis.Goals as goal

pub returns : goal.returns
returns g c = λ o cmp v k fs hs gs l field order eliminates hs_in nonzero basis gs_in reduced up. joined-basis o l field cmp v k order eliminates fs hs gs hs_in nonzero basis gs_in reduced up
