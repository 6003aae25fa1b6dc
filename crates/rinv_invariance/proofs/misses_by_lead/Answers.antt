use Rattle.rinv_invariance.proofs.SpaceLeads.{misses-element, element-misses}
use Rattle.rinv_invariance.proofs.misses_by_lead.Goals as goal

pub returns : goal.returns
returns c = λ s hs basis inside. (misses-element s hs basis, element-misses s hs basis inside)
