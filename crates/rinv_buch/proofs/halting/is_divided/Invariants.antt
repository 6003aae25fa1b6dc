use Rattle.std.proofs.Common.{◌≡◌, All, take, false}
use Rattle.rinv_algebra.specs.Monomial.{divides}
use Rattle.rinv_buch.proofs.halting.is_divided.Given as goal

abbrev pub invariant-leads : goal.invariant-leads
invariant-leads l = All (λ lead. divides lead l.mono ≡ false) (take l.lead-index l.leads)
