use Rattle.std.proofs.Common.{◌≡◌, take, All}
use Rattle.std.specs.declared.cmp.Ordering.TheVariants.{Less}
use Rattle.rinv_algebra.specs.Order.{grevlex}
use Rattle.rinv_tails.proofs.adding.place_of.Given as goal

abbrev pub invariant-terms : goal.invariant-terms
invariant-terms l = All (λ t. grevlex l.mono t.0 ≡ Less) (take l.k l.terms)
