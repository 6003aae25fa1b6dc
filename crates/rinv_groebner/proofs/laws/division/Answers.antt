use Rattle.rinv_theory.proofs.Variables.{in_variables-of}
use Rattle.rinv_groebner.proofs.ListElements.{all_first}
use Rattle.rinv_groebner.proofs.NextSteps.{division_exists}
use Rattle.rinv_groebner.proofs.UniqueSteps.{division_unique}
use Rattle.rinv_groebner.proofs.DivisionLaws.{division-identity, division-bounded, left-bounded}
use Rattle.rinv_groebner.proofs.laws.division.Goals as goal

pub returns : goal.returns
returns g c = record {
  ends = λ o cmp v hs f l field order in_v f_in. division_exists o l field cmp v order hs (all_first o l v hs in_v) f (in_variables-of o l v f f_in);
  identity = λ o cmp hs f steps left l r. division-identity o l cmp hs f left steps r;
  bounded = λ o cmp v hs f steps left k m l order in_v f_in r h. division-bounded o l cmp hs v order (all_first o l v hs in_v) f (in_variables-of o l v f f_in) left steps r k m h;
  rest_bounded = λ o cmp v hs f steps left m l order in_v f_in r h. left-bounded o l cmp hs v order (all_first o l v hs in_v) f (in_variables-of o l v f f_in) left steps r m h;
  determined = λ o cmp v hs gs f g steps others rest other l field order in_v f_in alike e x y.
      division_unique o l field cmp v order hs gs (all_first o l v hs in_v) alike f g rest other steps others (in_variables-of o l v f f_in) e x y;
}
