-- Lists of relations, compared.
use Rattle.std.specs.Prelude.{◌≡◌, List, AllPairs, IsTrue}
use Rattle.std.specs.declared.cmp.Ordering.TheVariants.{Less}
use Rattle.rinv_algebra.specs.Ring.{IsSame}
use Rattle.rinv_algebra.specs.Monomial.{same_monomial}
use Rattle.rinv_algebra.specs.Order.{grevlex}
use Rattle.rinv_algebra.specs.Polynomial.{poly_ops}
use Rattle.rinv_defs.specs.System.{System}
use Rattle.rinv_defs.specs.Generators.{rational_ops}
use Rattle.rinv_defs.specs.Extended.{Relation}

-- two relations have one lead, and the coefficients of their tails have the same values
abbrev pub IsTwin : System → Relation → Relation → Type 0
IsTwin s r q = IsTrue (same_monomial r.lead q.lead) × IsSame (poly_ops (rational_ops s.p)) r.tail q.tail

-- the leads ascend
abbrev pub AreAscending : List Relation → Type 0
AreAscending rs = AllPairs (λ r q. grevlex r.lead q.lead ≡ Less) rs
