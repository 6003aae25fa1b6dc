use Rattle.rinv_invariance.proofs.Coefficients.{all_invariant}
use Rattle.rinv_invariance.proofs.reduced_coefficients_are_invariant.Goals as goal

pub returns : goal.returns
returns c = λ s rs system laws basis. all_invariant s rs system laws basis
