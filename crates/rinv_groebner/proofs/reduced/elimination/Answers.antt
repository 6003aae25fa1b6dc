use Rattle.rinv_groebner.proofs.BlockElimination.{blocks_eliminate}
use Rattle.rinv_groebner.proofs.EliminationLists.{free_lead, part_basis, part-monic, part-apart, part-ascends}
use Rattle.rinv_groebner.proofs.IdealBases.{list_basis}
use Rattle.rinv_groebner.proofs.ListElements.{all_first}
use Rattle.rinv_groebner.proofs.reduced.elimination.Goals as goal

pub returns : goal.returns
returns g c = record {
  blocks = blocks_eliminate;
  leading = λ o cmp v k f l order eliminates n q. free_lead o l cmp v order k eliminates f n q;
  basis = λ o cmp v k fs hs l field order eliminates hs_in b. part_basis o l cmp v order k eliminates field fs hs (all_first o l v hs hs_in) (list_basis o l v cmp order fs hs field (all_first o l v hs hs_in) b.ideal.0 b.divided) b.ideal.0;
  monic = λ o cmp k hs. part-monic o cmp k hs;
  apart = λ o cmp k hs. part-apart o cmp k hs;
  ascends = λ o cmp k hs. part-ascends o cmp k hs;
}
