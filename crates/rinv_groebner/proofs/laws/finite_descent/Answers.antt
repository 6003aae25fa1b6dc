use Rattle.rinv_theory.proofs.Variables.{in_variables-of}
use Rattle.rinv_groebner.proofs.ListElements.{all_first}
use Rattle.rinv_groebner.proofs.DivisionLaws.{step-descends}
use Rattle.rinv_groebner.proofs.Ascents.{descents_end}
use Rattle.rinv_groebner.proofs.Falls.{reaches-less}
use Rattle.rinv_groebner.proofs.laws.finite_descent.Goals as goal

pub returns : goal.returns
returns g c = record {
  well_founded = descents_end;
  falls = λ o cmp v hs f left s step e l order in_v f_in has red. step-descends o l cmp v order (all_first o l v hs in_v) (in_variables-of o l v f f_in) step e has red;
  measured = λ cmp v d f g m laws len low h below. reaches-less cmp laws.total v d f g m len low h below;
}
