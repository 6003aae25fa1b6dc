use Rattle.std.proofs.Common.{◌≡◌, All, take, false}
use Rattle.rinv_algebra.specs.Monomial.{divides}
use Rattle.rinv_tails.proofs.reducing.first_divisor.Given as goal

abbrev pub invariant-relations : goal.invariant-relations
invariant-relations l = All (λ r. divides r.lead l.mono ≡ false) (take l.k l.relations)
