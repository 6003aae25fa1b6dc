-- What is made of lists of cofactors, and of one column of them, as contracts name it: `ops`, `is_element`, `too_high` and `cmp` are those of
-- the ring of the coefficients and of the order.
use Rattle.std.specs.Prelude.{ℕ, ◌<◌, Bool, List, [], ◌∷◌, length, get_or, map, All, Result, IfErr}
use Rattle.std.specs.Global.{Vec}
use Rattle.std.specs.List.{AllZip}
use Rattle.std.specs.declared.cmp.Ordering.{Ordering}
use Rattle.rinv_algebra.specs.Ring.{RingOps, IsSame}
use Rattle.rinv_algebra.specs.Polynomial.{Polynomial, poly_ops, product, difference}
use Rattle.rinv_algebra.specs.Normal.{IsNormal}
use Rattle.rinv_algebra.specs.Ideal.{combination}
use Rattle.rinv_algebra.specs.Leading.{multiplier}
use Rattle.rinv_groebner.specs.Division.{AreSame}
use Rattle.rinv_ring.specs.declared.fault.RingFault.{RingFault}
use Rattle.rinv_ring.specs.Fault.{DegreesMeet}
use Rattle.rinv_ring.specs.Operation.{RingOp}
use Rattle.rinv_poly.specs.Combined.{TermMeets, ProductsSumMeet}
use Rattle.rinv_poly.specs.declared.polynomial_ring.PolyRing.{PolyRing}
use Rattle.rinv_buch.specs.Kinds.{Found}
use Rattle.rinv_buch.specs.declared.kinds.Entry.{Entry}
use Rattle.rinv_cofactors.specs.Combining.{unit, units, column, AreCofactors, Combines, CombinedMeets, CombiningMeets, RestMeets}

-- the lists have polynomials of the ring, as they are stored
abbrev pub AreListsOf : {R E : Type 0} → (R → RingOps E) → (R → E → Bool) → PolyRing R E → List (Vec (Polynomial E)) → Type 0
AreListsOf ops is_element ring lists = All (λ us. All (IsNormal (ops ring.coeffs) (is_element ring.coeffs) ring.vars) us.items) lists

-- each polynomial is zero
abbrev pub AreZeros : {R E : Type 0} → (R → RingOps E) → PolyRing R E → Vec (Polynomial E) → Type 0
AreZeros ops ring us = All (λ u. IsSame (poly_ops (ops ring.coeffs)) u []) us.items

-- one at a place, and zero at the others of n places
abbrev pub IsUnit : {R E : Type 0} → (R → RingOps E) → PolyRing R E → ℕ → ℕ → Vec (Polynomial E) → Type 0
IsUnit ops ring n place us = AreSame (ops ring.coeffs) us.items (unit (ops ring.coeffs) n place)

-- the unit lists of the polynomials given that are not zero
abbrev pub AreUnits : {R E : Type 0} → (R → RingOps E) → PolyRing R E → List (Polynomial E) → Vec (Vec (Polynomial E)) → Type 0
AreUnits ops ring given lists = AllZip (AreSame (ops ring.coeffs)) (map (λ us. us.items) lists.items) (units (ops ring.coeffs) given)

-- each element is the sum of its cofactors times the polynomials given
abbrev pub SumUp : {R E : Type 0} → (R → RingOps E) → PolyRing R E → List (Polynomial E) → List (Polynomial E) → Vec (Vec (Polynomial E)) → Type 0
SumUp ops ring given hs lists = (k : ℕ) → k < length hs → IsSame (poly_ops (ops ring.coeffs)) (get_or hs k []) (combination (ops ring.coeffs) (get_or (map (λ us. us.items) lists.items) k []) given)

-- the cofactors are combined by the entries of the journal
abbrev pub CombineBy : {R E O : Type 0} → (R → RingOps E) → (O → List ℕ → List ℕ → Ordering) → PolyRing R E → O → List (Polynomial E) → Found E → Vec (Vec (Polynomial E)) → Type 0
CombineBy ops cmp ring order given b lists = Combines (ops ring.coeffs) (cmp order) given b.journal b.polys (map (λ us. us.items) lists.items)

-- combining them meets the degrees of the fault
abbrev pub CombiningTooHigh : {R E O : Type 0} → (R → RingOps E) → (R → E → Bool) → (R → RingOp → E → E → ℕ → ℕ → Type 0) → (O → List ℕ → List ℕ → Ordering) → PolyRing R E → O → List (Polynomial E) → Found E → RingFault → Type 0
CombiningTooHigh ops is_element too_high cmp ring order given b fault = DegreesMeet (CombiningMeets (ops ring.coeffs) (is_element ring.coeffs) (too_high ring.coeffs) ring.vars (cmp order) given b.journal b.polys) fault

-- n cofactors of the rest of the pair of an entry
abbrev pub AreRestCofactors : {R E O : Type 0} → (R → RingOps E) → (O → List ℕ → List ℕ → Ordering) → PolyRing R E → O → ℕ → List (Polynomial E) → List (Vec (Polynomial E)) → Entry → Vec (Polynomial E) → Type 0
AreRestCofactors {E = E} ops cmp ring order n hs lists entry us = (rest : Polynomial E) × AreCofactors (ops ring.coeffs) (cmp order) n hs (map (λ us. us.items) lists) entry.first entry.second rest us.items

-- making them meets the degrees of the fault
abbrev pub RestTooHigh : {R E O : Type 0} → (R → RingOps E) → (R → E → Bool) → (R → RingOp → E → E → ℕ → ℕ → Type 0) → (O → List ℕ → List ℕ → Ordering) → PolyRing R E → O → List (Polynomial E) → List (Vec (Polynomial E)) → Entry → RingFault → Type 0
RestTooHigh ops is_element too_high cmp ring order hs lists entry fault = DegreesMeet (RestMeets (ops ring.coeffs) (is_element ring.coeffs) (too_high ring.coeffs) ring.vars (cmp order) hs (map (λ us. us.items) lists) entry.first entry.second) fault

-- u is the term by which f is multiplied in the S-polynomial with g
abbrev pub IsMultiplier : {R E O : Type 0} → (R → RingOps E) → (O → List ℕ → List ℕ → Ordering) → PolyRing R E → O → Polynomial E → Polynomial E → Polynomial E → Type 0
IsMultiplier ops cmp ring order f g u = IsSame (poly_ops (ops ring.coeffs)) u (multiplier (ops ring.coeffs) (cmp order) f g ∷ [])

-- the multiple meets the degrees of the fault
abbrev pub MultiplierTooHigh : {R E O : Type 0} → (R → RingOps E) → (R → E → Bool) → (R → RingOp → E → E → ℕ → ℕ → Type 0) → (O → List ℕ → List ℕ → Ordering) → PolyRing R E → O → Polynomial E → Polynomial E → RingFault → Type 0
MultiplierTooHigh ops is_element too_high cmp ring order f g fault = DegreesMeet (TermMeets (ops ring.coeffs) (is_element ring.coeffs) (too_high ring.coeffs) ring.vars (multiplier (ops ring.coeffs) (cmp order) f g) f) fault

-- u is the sum of the polynomials times the cofactors at a place
abbrev pub SumsColumn : {R E : Type 0} → (R → RingOps E) → PolyRing R E → List (Polynomial E) → List (Vec (Polynomial E)) → ℕ → Polynomial E → Type 0
SumsColumn ops ring qs lists place u = IsSame (poly_ops (ops ring.coeffs)) u (combination (ops ring.coeffs) qs (column (map (λ us. us.items) lists) place))

-- making it meets the degrees of the fault
abbrev pub ColumnTooHigh : {R E : Type 0} → (R → RingOps E) → (R → E → Bool) → (R → RingOp → E → E → ℕ → ℕ → Type 0) → PolyRing R E → List (Polynomial E) → List (Vec (Polynomial E)) → ℕ → RingFault → Type 0
ColumnTooHigh ops is_element too_high ring qs lists place fault = DegreesMeet (ProductsSumMeet (ops ring.coeffs) (is_element ring.coeffs) (too_high ring.coeffs) ring.vars qs (column (map (λ us. us.items) lists) place)) fault

-- u is left * a - right * b, less that sum
abbrev pub IsCombined : {R E : Type 0} → (R → RingOps E) → PolyRing R E → Polynomial E → Polynomial E → Polynomial E → Polynomial E → List (Polynomial E) → List (Vec (Polynomial E)) → ℕ → Polynomial E → Type 0
IsCombined ops ring left a right b qs lists place u = IsSame (poly_ops (ops ring.coeffs)) u (difference (ops ring.coeffs) (difference (ops ring.coeffs) (product (ops ring.coeffs) left a) (product (ops ring.coeffs) right b)) (combination (ops ring.coeffs) qs (column (map (λ us. us.items) lists) place)))

-- where making it stops, it meets the degrees of the fault
abbrev pub StopsHigh : {R E : Type 0} → (R → RingOps E) → (R → E → Bool) → (R → RingOp → E → E → ℕ → ℕ → Type 0) → PolyRing R E → Polynomial E → Polynomial E → Polynomial E → Polynomial E → List (Polynomial E) → List (Vec (Polynomial E)) → ℕ → Result (Polynomial E) RingFault → Type 0
StopsHigh ops is_element too_high ring left a right b qs lists place result = IfErr result (DegreesMeet (CombinedMeets (ops ring.coeffs) (is_element ring.coeffs) (too_high ring.coeffs) ring.vars left a right b qs (column (map (λ us. us.items) lists) place)))
