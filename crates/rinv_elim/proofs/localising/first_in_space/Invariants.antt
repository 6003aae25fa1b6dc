use Rattle.std.proofs.Common.{◌<◌, All, take}
use Rattle.rinv_algebra.specs.Monomial.{total_degree}
use Rattle.rinv_elim.proofs.localising.first_in_space.Given as goal

abbrev pub invariant-leads : goal.invariant-leads
invariant-leads l = All (λ m. 0 < total_degree m) (take l.place l.leads)
