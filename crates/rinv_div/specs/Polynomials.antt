-- Polynomials of a ring and lists of terms, as contracts name them: `ops`, `is_element`, `too_high` and `cmp` are those of the ring of the
-- coefficients and of the order.
use Rattle.std.specs.Prelude.{◌≡◌, ℕ, Bool, false, List, ◌++◌, reverse, All, IsTrue}
use Rattle.std.specs.Global.{Vec}
use Rattle.std.specs.declared.cmp.Ordering.{Ordering}
use Rattle.rinv_algebra.specs.Ring.{RingOps, IsSame}
use Rattle.rinv_algebra.specs.Polynomial.{Polynomial, Term, poly_ops, is_zero}
use Rattle.rinv_algebra.specs.Normal.{IsNormal, is_normal_term}
use Rattle.rinv_algebra.specs.Leading.{leading_coefficient}
use Rattle.rinv_poly.specs.declared.polynomial_ring.PolyRing.{PolyRing}
use Rattle.rinv_div.specs.Arranged.{IsArranged, AreChanges, AreChanged}

-- none of the polynomials is zero
abbrev pub NoneIsZero : {R E : Type 0} → (R → RingOps E) → PolyRing R E → List (Polynomial E) → Type 0
NoneIsZero ops ring hs = All (λ h. is_zero (ops ring.coeffs) h ≡ false) hs

-- the leading coefficient is one: of a polynomial,
abbrev pub LeadIsOne : {R E O : Type 0} → (R → RingOps E) → (O → List ℕ → List ℕ → Ordering) → PolyRing R E → O → Polynomial E → Type 0
LeadIsOne ops cmp ring order h = IsSame (ops ring.coeffs) (leading_coefficient (ops ring.coeffs) (cmp order) h) (ops ring.coeffs).one

-- and of each of a list
abbrev pub LeadsAreOne : {R E O : Type 0} → (R → RingOps E) → (O → List ℕ → List ℕ → Ordering) → PolyRing R E → O → List (Polynomial E) → Type 0
LeadsAreOne ops cmp ring order hs = All (λ h. IsSame (ops ring.coeffs) (leading_coefficient (ops ring.coeffs) (cmp order) h) (ops ring.coeffs).one) hs

-- the terms of f are those of a polynomial of the ring, and descend in the order
abbrev pub IsOrdered : {R E O : Type 0} → (R → RingOps E) → (R → E → Bool) → (O → List ℕ → List ℕ → Ordering) → PolyRing R E → O → Polynomial E → Type 0
IsOrdered ops is_element cmp ring order f = IsArranged (ops ring.coeffs) (is_element ring.coeffs) ring.vars (cmp order) f

-- the same of each of the lists
abbrev pub AreOrdered : {R E O : Type 0} → (R → RingOps E) → (R → E → Bool) → (O → List ℕ → List ℕ → Ordering) → PolyRing R E → O → List (Vec (Term E)) → Type 0
AreOrdered ops is_element cmp ring order lists = All (λ w. IsArranged (ops ring.coeffs) (is_element ring.coeffs) ring.vars (cmp order) w.items) lists

-- the terms are those of a polynomial of the ring, and stand in the order, the greatest last
abbrev pub AscendsIn : {R E O : Type 0} → (R → RingOps E) → (R → E → Bool) → (O → List ℕ → List ℕ → Ordering) → PolyRing R E → O → Vec (Term E) → Type 0
AscendsIn ops is_element cmp ring order terms = IsArranged (ops ring.coeffs) (is_element ring.coeffs) ring.vars (cmp order) (reverse terms.items)

-- the same over the coefficients, in v variables: of a vector,
abbrev pub Ascends : {R E O : Type 0} → (R → RingOps E) → (R → E → Bool) → (O → List ℕ → List ℕ → Ordering) → R → O → ℕ → Vec (Term E) → Type 0
Ascends ops is_element cmp coeffs order v terms = IsArranged (ops coeffs) (is_element coeffs) v (cmp order) (reverse terms.items)

-- of a list,
abbrev pub AreAscending : {R E O : Type 0} → (R → RingOps E) → (R → E → Bool) → (O → List ℕ → List ℕ → Ordering) → R → O → ℕ → Polynomial E → Type 0
AreAscending ops is_element cmp coeffs order v f = IsArranged (ops coeffs) (is_element coeffs) v (cmp order) (reverse f)

-- and of changed terms, whose coefficients may be zero
abbrev pub InOrder : {R E O : Type 0} → (R → E → Bool) → (O → List ℕ → List ℕ → Ordering) → R → O → ℕ → Vec (Term E) → Type 0
InOrder is_element cmp coeffs order v changes = AreChanges (is_element coeffs) v (cmp order) (reverse changes.items)

-- the terms are normal, in v variables
abbrev pub AreNormal : {R E : Type 0} → (R → RingOps E) → (R → E → Bool) → R → ℕ → Vec (Term E) → Type 0
AreNormal ops is_element coeffs v terms = All (λ t. IsTrue (is_normal_term (ops coeffs) (is_element coeffs) v t)) terms.items

-- what is left after the changes is the sum of what was left before and of what was added, whatever that was
abbrev pub TakesIn : {R E : Type 0} → (R → RingOps E) → R → Vec (Term E) → Vec (Term E) → Vec (Term E) → Type 0
TakesIn {E = E} ops coeffs changes before after =
    (added : Polynomial E) → AreChanged (ops coeffs) (reverse before.items) added (reverse changes.items) → IsSame (poly_ops (ops coeffs)) (reverse after.items) (reverse before.items ++ added)
