-- What the parts of a step make, and the degrees at which they stop, as contracts name them: `ops`, `is_element` and `too_high` are those
-- of the ring of the coefficients.
use Rattle.std.specs.Prelude.{◌≡◌, ℕ, ◌+◌, ◌<◌, ◌⊎◌, Bool, Option, List, [], ◌∷◌, reverse}
use Rattle.std.specs.Global.{Vec}
use Rattle.rinv_algebra.specs.Ring.{RingOps, IsSame}
use Rattle.rinv_algebra.specs.Monomial.{quotient, max_degree}
use Rattle.rinv_algebra.specs.Polynomial.{Term, Polynomial, term_product, coefficient}
use Rattle.rinv_mono.specs.declared.fault.MonoFault.{MonoFault}
use Rattle.rinv_mono.specs.Fault.{DegreesAre}
use Rattle.rinv_ring.specs.declared.fault.RingFault.{RingFault}
use Rattle.rinv_ring.specs.Fault.{DegreesMeet}
use Rattle.rinv_ring.specs.Operation.{RingOp}
use Rattle.rinv_poly.specs.Faults.{TermsMeet, OppositeMeets}
use Rattle.rinv_div.specs.Arranged.{AreChanged}
use Rattle.rinv_div.specs.Divisors.{IsInverse, IsPlanned, InverseMeets, AddedMeets, ChangesMeet, PlanMeets}
use Rattle.rinv_div.specs.Rounds.{Cancels}
use Rattle.rinv_div.specs.declared.divisors.Divisor.{Divisor}

-- q times what this is the inverse of is c
abbrev pub IsFactor : {R E : Type 0} → (R → RingOps E) → (R → E → Bool) → R → E → Option E → E → Type 0
IsFactor {E = E} ops is_element coeffs c inverse q = (d : E) → IsInverse (ops coeffs) (is_element coeffs) d inverse → IsSame (ops coeffs) ((ops coeffs).mul q d) c

-- the terms us are what is left where the multiple of the divisor by m and q has monomials, after that was taken away
abbrev pub Plans : {R E : Type 0} → (R → RingOps E) → R → Polynomial E → Divisor R E → List ℕ → E → Vec (Term E) → Type 0
Plans ops coeffs left divisor m q us = IsPlanned (ops coeffs) (reverse left) (reverse divisor.tail.items) m q (reverse us.items)

-- the multiple of the divisor by s cancels t, and was taken away from what is left
abbrev pub CancelsBy : {R E : Type 0} → (R → RingOps E) → (R → E → Bool) → R → ℕ → Divisor R E → Term E → Vec (Term E) → Vec (Term E) → Term E → Type 0
CancelsBy ops is_element coeffs v divisor t before after s = Cancels (ops coeffs) (is_element coeffs) v divisor t (reverse before.items) (reverse after.items) s

-- the terms us are what is left where the multiple of the terms by m and c has monomials, after that was added
abbrev pub AddsMultiple : {R E : Type 0} → (R → RingOps E) → R → Polynomial E → List ℕ → E → Polynomial E → Vec (Term E) → Type 0
AddsMultiple ops coeffs left m c terms us = AreChanged (ops coeffs) (reverse left) (term_product (ops coeffs) (m, c) (reverse terms)) (reverse us.items)

-- the sum of c * d and the coefficient of what is left at m
abbrev pub IsSumAt : {R E : Type 0} → (R → RingOps E) → R → Polynomial E → List ℕ → E → E → E → Type 0
IsSumAt ops coeffs left m c d sum = IsSame (ops coeffs) sum ((ops coeffs).add (coefficient (ops coeffs) (reverse left) m) ((ops coeffs).mul c d))

-- the degrees at which each part stops: c times the inverse,
abbrev pub InverseTooHigh : {R E : Type 0} → (R → RingOps E) → (R → E → Bool) → (R → RingOp → E → E → ℕ → ℕ → Type 0) → R → E → Option E → RingFault → Type 0
InverseTooHigh ops is_element too_high coeffs c inverse fault = DegreesMeet (InverseMeets (ops coeffs) (is_element coeffs) (too_high coeffs) c inverse) fault

-- zero less c,
abbrev pub OppositeTooHigh : {R E : Type 0} → (R → RingOps E) → (R → E → Bool) → (R → RingOp → E → E → ℕ → ℕ → Type 0) → R → E → RingFault → Type 0
OppositeTooHigh ops is_element too_high coeffs c fault = DegreesMeet (OppositeMeets (ops coeffs) (is_element coeffs) (too_high coeffs) c) fault

-- c * d, or its sum with the coefficient of what is left at m,
abbrev pub SumTooHigh : {R E : Type 0} → (R → RingOps E) → (R → E → Bool) → (R → RingOp → E → E → ℕ → ℕ → Type 0) → R → Polynomial E → List ℕ → E → E → RingFault → Type 0
SumTooHigh ops is_element too_high coeffs left m c d fault = DegreesMeet (AddedMeets (ops coeffs) (is_element coeffs) (too_high coeffs) (reverse left) m c d) fault

-- the multiple of the terms by m and c, or its sum with what is left,
abbrev pub MultipleTooHigh : {R E : Type 0} → (R → RingOps E) → (R → E → Bool) → (R → RingOp → E → E → ℕ → ℕ → Type 0) → R → Polynomial E → Polynomial E → List ℕ → E → RingFault → Type 0
MultipleTooHigh ops is_element too_high coeffs left terms m c fault = DegreesMeet (λ x y. TermsMeet ((m, c) ∷ []) terms x y ⊎ ChangesMeet (ops coeffs) (is_element coeffs) (too_high coeffs) (reverse left) (reverse terms) m c x y) fault

-- and taking away the multiple of the divisor that cancels m and c
abbrev pub CancelTooHigh : {R E : Type 0} → (R → RingOps E) → (R → E → Bool) → (R → RingOp → E → E → ℕ → ℕ → Type 0) → R → Polynomial E → Divisor R E → List ℕ → E → RingFault → Type 0
CancelTooHigh ops is_element too_high coeffs left divisor m c fault = DegreesMeet (λ x y. TermsMeet ((quotient m divisor.lead, c) ∷ []) divisor.tail.items x y ⊎ PlanMeets (ops coeffs) (is_element coeffs) (too_high coeffs) (reverse left) (reverse divisor.tail.items) (quotient m divisor.lead) c divisor.inverse x y) fault

-- the fault of a ring carries the degrees of that of a monomial
abbrev pub IsFaultOf : MonoFault → RingFault → Type 0
IsFaultOf fault result = (x y : ℕ) → DegreesAre x y fault → DegreesMeet (λ left right. (left ≡ x) × (right ≡ y) × (max_degree < x + y)) result
