use Rattle.std.proofs.Common.{◌≡◌, false, take}
use Rattle.std.specs.List.{list_any}
use Rattle.rinv_algebra.specs.Monomial.{same_monomial}
use Rattle.rinv_elim.proofs.relating.has_monomial.Given as goal

abbrev pub invariant-terms : goal.invariant-terms
invariant-terms l = list_any (λ t. same_monomial t.0 l.mono) (take l.k l.terms) ≡ false
