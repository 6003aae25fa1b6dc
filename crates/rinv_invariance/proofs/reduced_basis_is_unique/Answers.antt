use Rattle.rinv_invariance.proofs.SameBases.{basis_same}
use Rattle.rinv_invariance.proofs.InOrder.{basis_in_order}
use Rattle.rinv_invariance.proofs.reduced_basis_is_unique.Goals as goal

pub returns : goal.returns
returns c = record {
  up_to_order = λ s rs qs basis other. basis_same s rs qs basis other;
  in_order = λ s rs qs basis other up up'. basis_in_order s rs qs basis other up up';
}
