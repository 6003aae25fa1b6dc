use Rattle.std.proofs.Common.{◌≡◌, take}
use Rattle.rinv_algebra.specs.Monomial.{total_degree}
use Rattle.rinv_basis_check.proofs.leads.has_none_of_first.Given as goal

abbrev pub invariant-variables : goal.invariant-variables
invariant-variables l = total_degree (take l.k l.mono) ≡ 0
