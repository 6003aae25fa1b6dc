use Rattle.std.proofs.Common.{◌≡◌, All, take, false}
use Rattle.std.specs.List.{list_any}
use Rattle.rinv_algebra.specs.Monomial.{divides}
use Rattle.rinv_buch.proofs.halting.reducible_monomial.Given as goal

abbrev pub invariant-terms : goal.invariant-terms
invariant-terms g l = All (λ t. list_any (λ lead. divides lead t.0) l.elements.leads.items ≡ false) (take l.mono-index l.mono-items)
