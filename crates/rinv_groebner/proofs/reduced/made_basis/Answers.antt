use Rattle.rinv_groebner.proofs.ListElements.{all_first}
use Rattle.rinv_groebner.proofs.IdealBases.{nonzero_has}
use Rattle.rinv_groebner.proofs.MadeLists.{made_list, made_reduced, made-same}
use Rattle.rinv_groebner.proofs.Permuted.{reduced-permuted}
use Rattle.rinv_groebner.proofs.reduced.made_basis.Goals as goal

pub returns : goal.returns
returns g c = record {
  exists = λ o cmp v fs hs l field order hs_in nonzero b. made_list o l field cmp v order fs hs (all_first o l v hs hs_in) (nonzero_has o hs nonzero) b;
  reduced = λ o cmp v fs hs gs l field order hs_in nonzero b made. made_reduced o l field cmp v order fs hs (all_first o l v hs hs_in) (nonzero_has o hs nonzero) b gs made;
  determined = λ o cmp v fs hs gs others l field order hs_in nonzero b made made'. made-same o l field cmp v order fs hs (all_first o l v hs hs_in) (nonzero_has o hs nonzero) b gs others made made';
  in_any_order = λ o cmp v fs gs hs l p r. reduced-permuted o l cmp v fs gs hs p r;
}
