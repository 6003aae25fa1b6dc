use Rattle.rinv_theory.proofs.Variables.{in_variables-of}
use Rattle.rinv_groebner.proofs.IdealBases.{list_basis}
use Rattle.rinv_groebner.proofs.ListElements.{all_first}
use Rattle.rinv_groebner.proofs.NormalForms.{normal_form-unique, normal_form-add, normal_form-scale, normal_form-zero, zero-member, division-normal_form}
use Rattle.rinv_groebner.proofs.reduced.normal_forms.Goals as goal

pub returns : goal.returns
returns g c = record {
  of_division = λ o cmp fs hs f rest steps l members d. division-normal_form o l cmp fs hs members f steps rest d;
  unique = λ o cmp v fs hs others f g r s l field order hs_in others_in r_in s_in b b' m p q.
      normal_form-unique o l cmp v order fs hs others (list_basis o l v cmp order fs hs field (all_first o l v hs hs_in) b.ideal.0 b.divided) (list_basis o l v cmp order fs others field (all_first o l v others others_in) b'.ideal.0 b'.divided)
      f g r s (in_variables-of o l v r r_in) (in_variables-of o l v s s_in) m p q;
  sums = λ o cmp fs hs f g r s l p q. normal_form-add o l cmp fs hs f g r s p q;
  multiples = λ o cmp fs hs c f r l p. normal_form-scale o l cmp fs hs c f r p;
  members = λ o cmp v fs hs f r l field order hs_in r_in b p.
      (normal_form-zero o l cmp v order fs hs (list_basis o l v cmp order fs hs field (all_first o l v hs hs_in) b.ideal.0 b.divided) f r (in_variables-of o l v r r_in) p, zero-member o l cmp fs hs f r p);
}
