-- Laws of what division makes, over any ring whose elements are of a type, and in any order of monomials.
use Rattle.std.specs.Prelude.{◌<◌, ℕ, List, [], ◌++◌, length, get_or, IsTrue}
use Rattle.std.specs.Ordering.{is_ge}
use Rattle.std.specs.declared.cmp.Ordering.{Ordering}
use Rattle.rinv_algebra.specs.Ring.{RingOps, RingLaws, IsSame}
use Rattle.rinv_algebra.specs.Polynomial.{Polynomial, poly_ops, has_monomial, product}
use Rattle.rinv_algebra.specs.Normal.{is_in_variables}
use Rattle.rinv_algebra.specs.Ideal.{combination}
use Rattle.rinv_algebra.specs.Leading.{leading_monomial}
use Rattle.rinv_groebner.specs.Orders.{OrdersMonomials, AreInVariables}
use Rattle.rinv_groebner.specs.Division.{Step, IsIrreducible}
use Rattle.rinv_div.specs.Stops.{Divides}

-- the polynomial is the sum of the quotients times the elements, and of the rest
abbrev pub DividendIsSum : Type 0 → Type 0
DividendIsSum E =
    (o : RingOps E) (cmp : List ℕ → List ℕ → Ordering) (hs qs : List (Polynomial E)) (f rest : Polynomial E) (steps : List (Step E))
    → RingLaws o → Divides o cmp hs f qs rest steps → IsSame (poly_ops o) f (combination o qs hs ++ rest)

-- no monomial of the rest can be cancelled
abbrev pub RestIsIrreducible : Type 0 → Type 0
RestIsIrreducible E =
    (o : RingOps E) (cmp : List ℕ → List ℕ → Ordering) (hs qs : List (Polynomial E)) (f rest : Polynomial E) (steps : List (Step E))
    → Divides o cmp hs f qs rest steps → IsIrreducible o cmp hs rest

-- no product of a quotient and its element has a monomial above the greatest of the polynomial
abbrev pub ProductsAreBounded : Type 0 → Type 0
ProductsAreBounded E =
    (o : RingOps E) (cmp : List ℕ → List ℕ → Ordering) (v : ℕ) (hs qs : List (Polynomial E)) (f rest : Polynomial E) (steps : List (Step E)) (k : ℕ) (m : List ℕ)
    → RingLaws o → OrdersMonomials cmp v → AreInVariables v hs → IsTrue (is_in_variables v f) → Divides o cmp hs f qs rest steps → k < length hs
    → IsTrue (has_monomial o (product o (get_or qs k []) (get_or hs k [])) m) → IsTrue (is_ge (cmp (leading_monomial o cmp f) m))
