use Rattle.rinv_algebra.specs.Order.{grevlex}
use Rattle.rinv_groebner.proofs.FurtherVariables.{further-basis, division-reduced}
use Rattle.rinv_groebner.proofs.NormalForms.{division-normal_form}
use Rattle.rinv_groebner.proofs.copies.rests_are_reduced.Goals as goal

pub returns : goal.returns
returns g c = record {
  basis = λ o v n fs hs l field in_v b. further-basis o l field v fs hs in_v b n;
  rest = λ o v fs hs f r steps l field in_v b d. ((division-normal_form o l grevlex fs hs b.ideal.0 f steps r d).congruent, division-reduced o l field v fs hs in_v b r d.irreducible);
}
