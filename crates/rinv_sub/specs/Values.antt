-- Values of polynomials and of their terms in a ring, as contracts name them: `ops`, `is_element` and `too_high` are those of the ring's
-- coefficients.
use Rattle.std.specs.Prelude.{◌≡◌, ◌<◌, ◌+◌, ◌*◌, ℕ, Bool, true, false, List, map, replicate}
use Rattle.std.specs.Global.{Vec}
use Rattle.rinv_algebra.specs.Ring.{RingOps, IsSame}
use Rattle.rinv_algebra.specs.Monomial.{max_degree}
use Rattle.rinv_algebra.specs.Polynomial.{Polynomial, poly_ops, constant}
use Rattle.rinv_algebra.specs.Value.{times_all, factors, substitute, rename}
use Rattle.rinv_algebra.specs.Ideal.{combination}
use Rattle.rinv_algebra.specs.Fits.{products_fit, combination_fits}
use Rattle.rinv_ring.specs.Operation.{RingOp}
use Rattle.rinv_ring.specs.Fault.{DegreesMeet}
use Rattle.rinv_ring.specs.declared.fault.RingFault.{RingFault}
use Rattle.rinv_poly.specs.declared.polynomial_ring.PolyRing.{PolyRing}
use Rattle.rinv_sub.specs.Powers.{ArePowers, AreTables}
use Rattle.rinv_sub.specs.Refusal.{ProductsMeet, SubstitutionMeets, CombinationMeets}

-- r is f with the images put for its variables
abbrev pub IsSubstituted : {R E : Type 0} → (R → RingOps E) → PolyRing R E → List (Polynomial E) → Polynomial E → Polynomial E → Type 0
IsSubstituted ops ring images f r = IsSame (poly_ops (ops ring.coeffs)) r (substitute (ops ring.coeffs) images f)

-- r is f with its variables renamed
abbrev pub IsRenamed : {R E : Type 0} → (R → RingOps E) → PolyRing R E → List ℕ → Polynomial E → Polynomial E → Type 0
IsRenamed ops ring places f r = IsSame (poly_ops (ops ring.coeffs)) r (rename (ops ring.coeffs) places f)

-- r is u1*f1 + u2*f2 + ..
abbrev pub IsCombination : {R E : Type 0} → (R → RingOps E) → PolyRing R E → List (Polynomial E) → List (Polynomial E) → Polynomial E → Type 0
IsCombination ops ring us fs r = IsSame (poly_ops (ops ring.coeffs)) r (combination (ops ring.coeffs) us fs)

-- whose products fit
abbrev pub CombinationFits : {R E : Type 0} → (R → RingOps E) → PolyRing R E → List (Polynomial E) → List (Polynomial E) → Type 0
CombinationFits ops ring us fs = combination_fits (ops ring.coeffs) us fs ≡ true

-- r is f times g to the power k
abbrev pub IsTimesPower : {R E : Type 0} → (R → RingOps E) → PolyRing R E → Polynomial E → Polynomial E → ℕ → Polynomial E → Type 0
IsTimesPower ops ring f g k r = IsSame (poly_ops (ops ring.coeffs)) r (times_all (poly_ops (ops ring.coeffs)) f (replicate k g))

-- whose products fit
abbrev pub PowerFits : {R E : Type 0} → (R → RingOps E) → PolyRing R E → Polynomial E → Polynomial E → ℕ → Type 0
PowerFits ops ring f g k = products_fit (ops ring.coeffs) f (replicate k g) ≡ true

-- r is c times the images, each as often as its exponent in m says
abbrev pub IsTermAt : {R E : Type 0} → (R → RingOps E) → PolyRing R E → List (Polynomial E) → List ℕ → E → Polynomial E → Type 0
IsTermAt ops ring images m c r = IsSame (poly_ops (ops ring.coeffs)) r (times_all (poly_ops (ops ring.coeffs)) (constant (ops ring.coeffs) c) (factors images m))

-- whose products fit,
abbrev pub TermFits : {R E : Type 0} → (R → RingOps E) → PolyRing R E → List (Polynomial E) → List ℕ → E → Type 0
TermFits ops ring images m c = products_fit (ops ring.coeffs) (constant (ops ring.coeffs) c) (factors images m) ≡ true

-- whatever the coefficient
abbrev pub MonomialFits : {R E : Type 0} → (R → RingOps E) → PolyRing R E → List (Polynomial E) → List ℕ → Type 0
MonomialFits {E = E} ops ring images m = (c : E) → products_fit (ops ring.coeffs) (constant (ops ring.coeffs) c) (factors images m) ≡ true

-- the powers of f, from the first on
abbrev pub HoldsPowers : {R E : Type 0} → (R → RingOps E) → (R → E → Bool) → PolyRing R E → Polynomial E → List (Polynomial E) → Type 0
HoldsPowers ops is_element ring f ps = ArePowers (ops ring.coeffs) (is_element ring.coeffs) ring.vars f ps

-- the tables of the powers of the polynomials
abbrev pub HoldTables : {R E : Type 0} → (R → RingOps E) → (R → E → Bool) → PolyRing R E → List (Polynomial E) → List (Vec (Polynomial E)) → Type 0
HoldTables ops is_element ring fs tables = AreTables (ops ring.coeffs) (is_element ring.coeffs) ring.vars fs (map (λ t. t.items) tables)

-- The faults, with the degrees that each may answer: of putting the images for the variables of f,
abbrev pub SubstitutionFaults : {R E : Type 0} → (R → RingOps E) → (R → E → Bool) → (R → RingOp → E → E → ℕ → ℕ → Type 0) → PolyRing R E → List (Polynomial E) → Polynomial E → RingFault → Type 0
SubstitutionFaults ops is_element too_high ring images f = DegreesMeet (SubstitutionMeets (ops ring.coeffs) (is_element ring.coeffs) (too_high ring.coeffs) ring.vars images f)

-- of u1*f1 + u2*f2 + ..,
abbrev pub CombinationFaults : {R E : Type 0} → (R → RingOps E) → (R → E → Bool) → (R → RingOp → E → E → ℕ → ℕ → Type 0) → PolyRing R E → List (Polynomial E) → List (Polynomial E) → RingFault → Type 0
CombinationFaults ops is_element too_high ring us fs = DegreesMeet (CombinationMeets (ops ring.coeffs) (is_element ring.coeffs) (too_high ring.coeffs) ring.vars us fs)

-- of f times g to the power k,
abbrev pub PowerFaults : {R E : Type 0} → (R → RingOps E) → (R → E → Bool) → (R → RingOp → E → E → ℕ → ℕ → Type 0) → PolyRing R E → Polynomial E → Polynomial E → ℕ → RingFault → Type 0
PowerFaults ops is_element too_high ring f g k = DegreesMeet (ProductsMeet (ops ring.coeffs) (is_element ring.coeffs) (too_high ring.coeffs) ring.vars f (replicate k g))

-- of the value of a term,
abbrev pub TermValueFaults : {R E : Type 0} → (R → RingOps E) → (R → E → Bool) → (R → RingOp → E → E → ℕ → ℕ → Type 0) → PolyRing R E → List (Polynomial E) → List ℕ → E → RingFault → Type 0
TermValueFaults ops is_element too_high ring images m c = DegreesMeet (ProductsMeet (ops ring.coeffs) (is_element ring.coeffs) (too_high ring.coeffs) ring.vars (constant (ops ring.coeffs) c) (factors images m))

-- whatever the coefficient that is not zero;
abbrev pub MonomialFaults : {R E : Type 0} → (R → RingOps E) → (R → E → Bool) → (R → RingOp → E → E → ℕ → ℕ → Type 0) → PolyRing R E → List (Polynomial E) → List ℕ → RingFault → Type 0
MonomialFaults {E = E} ops is_element too_high ring images m = DegreesMeet (λ x y. (c : E) → (ops ring.coeffs).same c (ops ring.coeffs).zero ≡ false → ProductsMeet (ops ring.coeffs) (is_element ring.coeffs) (too_high ring.coeffs) ring.vars (constant (ops ring.coeffs) c) (factors images m) x y)

-- and of a degree, to which `each` is added again and again
abbrev pub DegreeFaults : ℕ → ℕ → ℕ → RingFault → Type 0
DegreeFaults degree exponent each = DegreesMeet (λ x y. (y ≡ each) × (j : ℕ) × (j < exponent) × (x ≡ degree + j * each) × (max_degree < x + each))
