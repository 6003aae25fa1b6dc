-- The S-polynomial of two polynomials, and what it is made of, as contracts name it: `ops`, `is_element`, `too_high` and `cmp` are those of
-- the ring of the coefficients and of the order.
use Rattle.std.specs.Prelude.{◌≡◌, ℕ, ◌≤◌, Bool, false, List}
use Rattle.std.specs.declared.cmp.Ordering.{Ordering}
use Rattle.rinv_algebra.specs.Ring.{RingOps, IsSame}
use Rattle.rinv_algebra.specs.Monomial.{lcm, total_degree, max_degree}
use Rattle.rinv_algebra.specs.Polynomial.{Polynomial, poly_ops, term_product}
use Rattle.rinv_algebra.specs.Leading.{leading_monomial, leading_coefficient, s_polynomial}
use Rattle.rinv_ring.specs.declared.fault.RingFault.{RingFault}
use Rattle.rinv_ring.specs.Fault.{DegreesMeet}
use Rattle.rinv_ring.specs.Operation.{RingOp}
use Rattle.rinv_poly.specs.Combined.{TermMeets}
use Rattle.rinv_poly.specs.declared.polynomial_ring.PolyRing.{PolyRing}
use Rattle.rinv_buch.specs.Causes.{SPolynomialMeets}

-- the least common multiple of the leading monomials is within the limit on degrees
abbrev pub IsLowLcm : {R E O : Type 0} → (R → RingOps E) → (O → List ℕ → List ℕ → Ordering) → PolyRing R E → O → Polynomial E → Polynomial E → Type 0
IsLowLcm ops cmp ring order f g = total_degree (lcm (leading_monomial (ops ring.coeffs) (cmp order) f) (leading_monomial (ops ring.coeffs) (cmp order) g)) ≤ max_degree

-- s is the S-polynomial of f and g
abbrev pub IsSPolynomial : {R E O : Type 0} → (R → RingOps E) → (O → List ℕ → List ℕ → Ordering) → PolyRing R E → O → Polynomial E → Polynomial E → Polynomial E → Type 0
IsSPolynomial ops cmp ring order f g s = IsSame (poly_ops (ops ring.coeffs)) s (s_polynomial (ops ring.coeffs) (cmp order) f g)

-- making it meets the degrees of the fault
abbrev pub SPolynomialTooHigh : {R E O : Type 0} → (R → RingOps E) → (R → E → Bool) → (R → RingOp → E → E → ℕ → ℕ → Type 0) → (O → List ℕ → List ℕ → Ordering) → PolyRing R E → O → Polynomial E → Polynomial E → RingFault → Type 0
SPolynomialTooHigh ops is_element too_high cmp ring order f g fault = DegreesMeet (SPolynomialMeets (ops ring.coeffs) (is_element ring.coeffs) (too_high ring.coeffs) ring.vars (cmp order) f g) fault

-- m is the leading monomial of f
abbrev pub IsLead : {R E O : Type 0} → (R → RingOps E) → (O → List ℕ → List ℕ → Ordering) → PolyRing R E → O → Polynomial E → List ℕ → Type 0
IsLead ops cmp ring order f m = m ≡ leading_monomial (ops ring.coeffs) (cmp order) f

-- a is its leading coefficient
abbrev pub IsLeadCoefficient : {R E O : Type 0} → (R → RingOps E) → (O → List ℕ → List ℕ → Ordering) → PolyRing R E → O → Polynomial E → E → Type 0
IsLeadCoefficient ops cmp ring order f a = IsSame (ops ring.coeffs) a (leading_coefficient (ops ring.coeffs) (cmp order) f)

-- a is not zero
abbrev pub IsNonzero : {R E : Type 0} → (R → RingOps E) → PolyRing R E → E → Type 0
IsNonzero ops ring a = (ops ring.coeffs).same a (ops ring.coeffs).zero ≡ false

-- g is the multiple of f by m and a
abbrev pub IsMultiple : {R E : Type 0} → (R → RingOps E) → PolyRing R E → List ℕ → E → Polynomial E → Polynomial E → Type 0
IsMultiple ops ring m a f g = IsSame (poly_ops (ops ring.coeffs)) g (term_product (ops ring.coeffs) (m, a) f)

-- making it meets the degrees of the fault
abbrev pub ProductTooHigh : {R E : Type 0} → (R → RingOps E) → (R → E → Bool) → (R → RingOp → E → E → ℕ → ℕ → Type 0) → PolyRing R E → List ℕ → E → Polynomial E → RingFault → Type 0
ProductTooHigh ops is_element too_high ring m a f fault = DegreesMeet (TermMeets (ops ring.coeffs) (is_element ring.coeffs) (too_high ring.coeffs) ring.vars (m, a) f) fault
