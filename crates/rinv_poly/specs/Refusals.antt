-- The faults of operations on polynomials over a ring, each with the degrees that it may answer: `ops`, `is_element` and `too_high` are
-- those of the coefficients.
use Rattle.std.specs.Prelude.{◌≡◌, ◌<◌, ◌+◌, ℕ, Bool, List, [], ◌∷◌, ◌⊎◌}
use Rattle.std.specs.Global.{Vec}
use Rattle.rinv_algebra.specs.Monomial.{max_degree}
use Rattle.rinv_algebra.specs.Ring.{RingOps}
use Rattle.rinv_algebra.specs.Polynomial.{Polynomial, Term}
use Rattle.rinv_ring.specs.Operation.{RingOp}
use Rattle.rinv_ring.specs.Fault.{DegreesMeet}
use Rattle.rinv_ring.specs.declared.fault.RingFault.{RingFault}
use Rattle.rinv_poly.specs.Terms.{LastsMeet}
use Rattle.rinv_poly.specs.Faults.{TermsMeet, CoefficientsMeet, MultipleMeets, PartialSumMeets, FactorsMeet, TakingMeets, ExactMeets, polynomials_meet}
use Rattle.rinv_poly.specs.Signs.{sign_meets, operation}
use Rattle.rinv_poly.specs.declared.merge.Sign.{Sign}

-- of c times f
abbrev pub MultipleFaults : {R E : Type 0} → (R → RingOps E) → (R → E → Bool) → (R → RingOp → E → E → ℕ → ℕ → Type 0) → R → E → Polynomial E → RingFault → Type 0
MultipleFaults ops is_element too_high coeffs c f = DegreesMeet (MultipleMeets (ops coeffs) (is_element coeffs) (too_high coeffs) c f)

-- of the operation on coefficients of f and g
abbrev pub CoefficientFaults : {R E : Type 0} → (R → RingOps E) → (R → E → Bool) → (R → RingOp → E → E → ℕ → ℕ → Type 0) → R → RingOp → Polynomial E → Polynomial E → RingFault → Type 0
CoefficientFaults ops is_element too_high coeffs op f g = DegreesMeet (CoefficientsMeet (ops coeffs) (is_element coeffs) (too_high coeffs) op f g)

-- of adding up the terms
abbrev pub SumFaults : {R E : Type 0} → (R → RingOps E) → (R → E → Bool) → (R → RingOp → E → E → ℕ → ℕ → Type 0) → R → Polynomial E → RingFault → Type 0
SumFaults ops is_element too_high coeffs terms = DegreesMeet (PartialSumMeets (ops coeffs) (is_element coeffs) (too_high coeffs) terms)

-- of taking the multiple of g by m and q from f
abbrev pub TakingFaults : {R E : Type 0} → (R → RingOps E) → (R → E → Bool) → (R → RingOp → E → E → ℕ → ℕ → Type 0) → R → Polynomial E → Polynomial E → List ℕ → E → RingFault → Type 0
TakingFaults ops is_element too_high coeffs f g m q = DegreesMeet (TakingMeets (ops coeffs) (is_element coeffs) (too_high coeffs) f g m q)

-- of the exact division of f by d, in v variables
abbrev pub ExactFaults : {R E : Type 0} → (R → RingOps E) → (R → E → Bool) → (R → RingOp → E → E → ℕ → ℕ → Type 0) → R → ℕ → Polynomial E → Polynomial E → RingFault → Type 0
ExactFaults ops is_element too_high coeffs v f d = DegreesMeet (ExactMeets (ops coeffs) (is_element coeffs) (too_high coeffs) v f d)

-- of the operation on f and g
abbrev pub OperationFaults : {R E : Type 0} → (R → RingOps E) → (R → E → Bool) → (R → RingOp → E → E → ℕ → ℕ → Type 0) → R → RingOp → Polynomial E → Polynomial E → RingFault → Type 0
OperationFaults ops is_element too_high coeffs op f g = DegreesMeet (polynomials_meet (ops coeffs) (is_element coeffs) (too_high coeffs) op f g)

-- of giving c the sign
abbrev pub SignFaults : {R E : Type 0} → (R → RingOps E) → (R → E → Bool) → (R → RingOp → E → E → ℕ → ℕ → Type 0) → R → Sign → E → RingFault → Type 0
SignFaults ops is_element too_high coeffs sign c = DegreesMeet (sign_meets (ops coeffs) (is_element coeffs) (too_high coeffs) sign c)

-- of the products of each term of f and each of g
abbrev pub ProductFaults : {R E : Type 0} → (R → RingOps E) → (R → E → Bool) → (R → RingOp → E → E → ℕ → ℕ → Type 0) → R → Polynomial E → Polynomial E → RingFault → Type 0
ProductFaults ops is_element too_high coeffs f g = DegreesMeet (λ x y. TermsMeet f g x y ⊎ FactorsMeet (ops coeffs) (is_element coeffs) (too_high coeffs) f g x y)

-- of the products of a term and those of f
abbrev pub TermFaults : {R E : Type 0} → (R → RingOps E) → (R → E → Bool) → (R → RingOp → E → E → ℕ → ℕ → Type 0) → R → List ℕ → E → Polynomial E → RingFault → Type 0
TermFaults ops is_element too_high coeffs m c f = DegreesMeet (λ x y. TermsMeet ((m, c) ∷ []) f x y ⊎ MultipleMeets (ops coeffs) (is_element coeffs) (too_high coeffs) c f x y)

-- of adding c and d with the sign
abbrev pub ElementFaults : {R E : Type 0} → (R → RingOp → E → E → ℕ → ℕ → Type 0) → R → Sign → E → E → RingFault → Type 0
ElementFaults too_high coeffs sign c d = DegreesMeet (too_high coeffs (operation sign) c d)

-- of adding the coefficients of the last terms
abbrev pub LastFaults : {R E : Type 0} → (R → RingOp → E → E → ℕ → ℕ → Type 0) → R → Vec (Term E) → Vec (Term E) → RingFault → Type 0
LastFaults too_high coeffs a b = DegreesMeet (LastsMeet (too_high coeffs) a.items b.items)

-- the fault carries these degrees, which add up to more than the limit
abbrev pub ExceedsBy : ℕ → ℕ → RingFault → Type 0
ExceedsBy x y = DegreesMeet (λ left right. (left ≡ x) × (right ≡ y) × (max_degree < x + y))
