-- Polynomials of a ring, or in v variables over its coefficients, as contracts name them: `ops` and `is_element` are those of the
-- coefficients.
use Rattle.std.specs.Prelude.{◌≡◌, ℕ, Bool, false, List, ◌++◌, All, IsTrue, nat_lt, slice_index_or}
use Rattle.std.specs.Ordering.{is_lt}
use Rattle.std.specs.declared.cmp.Ordering.{Ordering}
use Rattle.rinv_algebra.specs.Ring.{RingOps, IsSame}
use Rattle.rinv_algebra.specs.Residue.{residue_ops}
use Rattle.rinv_algebra.specs.Polynomial.{Polynomial, Term, poly_ops, product, scale, constant}
use Rattle.rinv_algebra.specs.Normal.{IsNormal, is_normal_term}
use Rattle.rinv_algebra.specs.Leading.{IsLeadingMonomial}
use Rattle.rinv_algebra.specs.Fits.{product_fits}
use Rattle.rinv_poly.specs.declared.polynomial_ring.PolyRing.{PolyRing}

-- f is a polynomial of the ring, as it is stored
abbrev pub IsOf : {R E : Type 0} → (R → RingOps E) → (R → E → Bool) → PolyRing R E → Polynomial E → Type 0
IsOf ops is_element ring f = IsNormal (ops ring.coeffs) (is_element ring.coeffs) ring.vars f

-- each of them is
abbrev pub AreOf : {R E : Type 0} → (R → RingOps E) → (R → E → Bool) → PolyRing R E → List (Polynomial E) → Type 0
AreOf ops is_element ring fs = All (IsNormal (ops ring.coeffs) (is_element ring.coeffs) ring.vars) fs

-- each term is one of the ring, as it is stored
abbrev pub AreTermsOf : {R E : Type 0} → (R → RingOps E) → (R → E → Bool) → PolyRing R E → Polynomial E → Type 0
AreTermsOf ops is_element ring f = All (λ t. IsTrue (is_normal_term (ops ring.coeffs) (is_element ring.coeffs) ring.vars t)) f

-- f and g are the same polynomial of the ring
abbrev pub SameIn : {R E : Type 0} → (R → RingOps E) → PolyRing R E → Polynomial E → Polynomial E → Type 0
SameIn ops ring f g = IsSame (poly_ops (ops ring.coeffs)) f g

-- f is the product of g and h
abbrev pub IsProductIn : {R E : Type 0} → (R → RingOps E) → PolyRing R E → Polynomial E → Polynomial E → Polynomial E → Type 0
IsProductIn ops ring f g h = IsSame (poly_ops (ops ring.coeffs)) f (product (ops ring.coeffs) g h)

-- f is no multiple of d
abbrev pub IsNoMultipleIn : {R E : Type 0} → (R → RingOps E) → PolyRing R E → Polynomial E → Polynomial E → Type 0
IsNoMultipleIn {E = E} ops ring f d = (q : Polynomial E) → ¬ (IsSame (poly_ops (ops ring.coeffs)) f (product (ops ring.coeffs) q d))

-- f is c times g
abbrev pub IsScaledIn : {R E : Type 0} → (R → RingOps E) → PolyRing R E → Polynomial E → E → Polynomial E → Type 0
IsScaledIn ops ring f c g = IsSame (poly_ops (ops ring.coeffs)) f (scale (ops ring.coeffs) c g)

-- f is the constant c
abbrev pub IsConstantIn : {R E : Type 0} → (R → RingOps E) → PolyRing R E → Polynomial E → E → Type 0
IsConstantIn ops ring f c = IsSame (poly_ops (ops ring.coeffs)) f (constant (ops ring.coeffs) c)

-- the place k of f has its leading monomial
abbrev pub IsLeadIn : {R E O : Type 0} → (R → RingOps E) → (O → List ℕ → List ℕ → Ordering) → PolyRing R E → O → Polynomial E → ℕ → Type 0
IsLeadIn {E = E} ops cmp ring order f k = (t : List ℕ × E) → IsLeadingMonomial (ops ring.coeffs) (cmp order) f (slice_index_or f k t).0

-- the monomial at the place k is below no other
abbrev pub IsGreatestAt : {E O : Type 0} → (O → List ℕ → List ℕ → Ordering) → O → Polynomial E → ℕ → Type 0
IsGreatestAt {E = E} cmp order f k = (t : List ℕ × E) → All (λ u. is_lt (cmp order (slice_index_or f k t).0 u.0) ≡ false) f

-- f is a polynomial in v variables over the coefficients, as it is stored
abbrev pub IsOver : {R E : Type 0} → (R → RingOps E) → (R → E → Bool) → R → ℕ → Polynomial E → Type 0
IsOver ops is_element coeffs v f = IsNormal (ops coeffs) (is_element coeffs) v f

-- f and g are the same polynomial over the coefficients
abbrev pub SameOver : {R E : Type 0} → (R → RingOps E) → R → Polynomial E → Polynomial E → Type 0
SameOver ops coeffs f g = IsSame (poly_ops (ops coeffs)) f g

-- f is the sum of g and h
abbrev pub IsSumOver : {R E : Type 0} → (R → RingOps E) → R → Polynomial E → Polynomial E → Polynomial E → Type 0
IsSumOver ops coeffs f g h = IsSame (poly_ops (ops coeffs)) f (g ++ h)

-- f is the product of g and h
abbrev pub IsProductOver : {R E : Type 0} → (R → RingOps E) → R → Polynomial E → Polynomial E → Polynomial E → Type 0
IsProductOver ops coeffs f g h = IsSame (poly_ops (ops coeffs)) f (product (ops coeffs) g h)

-- f is no multiple of d
abbrev pub IsNoMultipleOver : {R E : Type 0} → (R → RingOps E) → R → Polynomial E → Polynomial E → Type 0
IsNoMultipleOver {E = E} ops coeffs f d = (q : Polynomial E) → ¬ (IsSame (poly_ops (ops coeffs)) f (product (ops coeffs) q d))

-- f is c times g
abbrev pub IsScaledOver : {R E : Type 0} → (R → RingOps E) → R → Polynomial E → E → Polynomial E → Type 0
IsScaledOver ops coeffs f c g = IsSame (poly_ops (ops coeffs)) f (scale (ops coeffs) c g)

-- f is a polynomial in v variables modulo p, as it is stored
abbrev pub IsPolynomial : ℕ → ℕ → Polynomial ℕ → Type 0
IsPolynomial p v f = IsNormal (residue_ops p) (λ c. nat_lt c p) v f

-- a term of a polynomial in v variables modulo p, as it is stored
abbrev pub is_stored_term : ℕ → ℕ → Term ℕ → Bool
is_stored_term p v t = is_normal_term (residue_ops p) (λ c. nat_lt c p) v t

-- f and g are the same modulo p
abbrev pub SameModulo : ℕ → Polynomial ℕ → Polynomial ℕ → Type 0
SameModulo p f g = IsSame (poly_ops (residue_ops p)) f g

-- f is the product of g and h modulo p
abbrev pub IsProductModulo : ℕ → Polynomial ℕ → Polynomial ℕ → Polynomial ℕ → Type 0
IsProductModulo p f g h = IsSame (poly_ops (residue_ops p)) f (product (residue_ops p) g h)

-- f is no multiple of d modulo p
abbrev pub IsNoMultipleModulo : ℕ → Polynomial ℕ → Polynomial ℕ → Type 0
IsNoMultipleModulo p f d = (q : Polynomial ℕ) → ¬ (IsSame (poly_ops (residue_ops p)) f (product (residue_ops p) q d))

-- the sum of the degrees of monomials of f and g is within the limit, modulo p
abbrev pub FitModulo : ℕ → Polynomial ℕ → Polynomial ℕ → Type 0
FitModulo p f g = IsTrue (product_fits (residue_ops p) f g)

-- or is not, whatever degrees are answered
abbrev pub AreOverModulo : ℕ → Polynomial ℕ → Polynomial ℕ → ℕ → ℕ → Type 0
AreOverModulo p f g = λ _ _. product_fits (residue_ops p) f g ≡ false
