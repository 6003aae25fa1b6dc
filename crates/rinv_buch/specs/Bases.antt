-- What Buchberger's algorithm answers, as contracts name it: `ops` and `cmp` are those of the ring of the coefficients and of the order.
use Rattle.std.specs.Prelude.{ℕ, List}
use Rattle.std.specs.declared.cmp.Ordering.{Ordering}
use Rattle.rinv_algebra.specs.Ring.{RingOps}
use Rattle.rinv_algebra.specs.Polynomial.{Polynomial}
use Rattle.rinv_groebner.specs.Basis.{IsGroebnerBasis}
use Rattle.rinv_groebner.specs.Journal.{Journal, IsComplete}
use Rattle.rinv_groebner.specs.Sparing.{IsSparing}
use Rattle.rinv_poly.specs.declared.polynomial_ring.PolyRing.{PolyRing}
use Rattle.rinv_buch.specs.Kinds.{Found}

-- the journal makes the list of the polynomials given
abbrev pub IsMadeFrom : {R E O : Type 0} → (R → RingOps E) → (O → List ℕ → List ℕ → Ordering) → PolyRing R E → O → List (Polynomial E) → Found E → Type 0
IsMadeFrom ops cmp ring order given b = Journal (ops ring.coeffs) (cmp order) given b.journal b.polys

-- no S-polynomial was divided where a third element settles the pair
abbrev pub SparesPairs : {R E O : Type 0} → (R → RingOps E) → (O → List ℕ → List ℕ → Ordering) → PolyRing R E → O → List (Polynomial E) → Found E → Type 0
SparesPairs ops cmp ring order given b = IsSparing (ops ring.coeffs) (cmp order) given b.journal

-- each pair has its entry
abbrev pub HasAllPairs : {R E O : Type 0} → (R → RingOps E) → (O → List ℕ → List ℕ → Ordering) → PolyRing R E → O → Found E → Type 0
HasAllPairs ops cmp ring order b = IsComplete (ops ring.coeffs) (cmp order) b.journal b.polys

-- the list is a Gröbner basis of the ideal of the polynomials given
abbrev pub IsBasisFor : {R E O : Type 0} → (R → RingOps E) → (O → List ℕ → List ℕ → Ordering) → PolyRing R E → O → List (Polynomial E) → Found E → Type 0
IsBasisFor ops cmp ring order given b = IsGroebnerBasis (ops ring.coeffs) (cmp order) ring.vars given b.polys
