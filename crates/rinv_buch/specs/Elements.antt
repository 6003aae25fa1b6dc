-- The list of the algorithm, with what is prepared of its elements.
use Rattle.rinv_algebra.specs.Monomial.{total_degree, max_degree}
use Rattle.rinv_groebner.specs.Settled.{lcm_at}
use Rattle.rinv_groebner.specs.Journal.{nonzeros}
use Rattle.std.specs.Prelude.{◌≡◌, ℕ, Bool, List, ◌∷◌, [], ◌++◌, map, All, ◌≤◌}
use Rattle.std.specs.declared.cmp.Ordering.{Ordering}
use Rattle.rinv_algebra.specs.Ring.{RingOps}
use Rattle.rinv_algebra.specs.Polynomial.{Polynomial}
use Rattle.rinv_algebra.specs.Normal.{IsNormal}
use Rattle.rinv_algebra.specs.Leading.{leading_monomial}
use Rattle.rinv_div.specs.Divisors.{AreDivisors}
use Rattle.rinv_buch.specs.declared.elements.Elements.{Elements}
use Rattle.rinv_poly.specs.declared.polynomial_ring.PolyRing.{PolyRing}
use Rattle.rinv_pairs.specs.declared.queue.Pair.{Pair}
use Rattle.rinv_pairs.specs.Pairs.{Pairs}

module _ {R E : Type 0} (o : RingOps E) (is_element : E → Bool) (v : ℕ) (cmp : List ℕ → List ℕ → Ordering) where
  -- the elements are in normal form and not zero, and the leads and the divisors are theirs
  pub record ArePrepared (es : Elements R E) : Type 0 where
    pub normal : All (IsNormal o is_element v) es.polys.items
    pub leads : es.leads.items ≡ map (leading_monomial o cmp) es.polys.items
    pub divisors : AreDivisors o is_element v cmp es.polys.items es.divisors.list.items

  -- an element is added at the end
  pub record AddsElement (h : Polynomial E) (before after : Elements R E) : Type 0 where
    pub prepared : ArePrepared after
    pub polys : after.polys.items ≡ before.polys.items ++ h ∷ []

-- The same as contracts name it, of a ring and an order: `ops`, `is_element`, `too_high` and `cmp` are theirs.

-- the elements are prepared
abbrev pub PreparedFor : {R E O : Type 0} → (R → RingOps E) → (R → E → Bool) → (O → List ℕ → List ℕ → Ordering) → PolyRing R E → O → Elements R E → Type 0
PreparedFor ops is_element cmp ring order es = ArePrepared (ops ring.coeffs) (is_element ring.coeffs) ring.vars (cmp order) es

-- an element is added at the end
abbrev pub GainsElement : {R E O : Type 0} → (R → RingOps E) → (R → E → Bool) → (O → List ℕ → List ℕ → Ordering) → PolyRing R E → O → Polynomial E → Elements R E → Elements R E → Type 0
GainsElement ops is_element cmp ring order h before after = AddsElement (ops ring.coeffs) (is_element ring.coeffs) ring.vars (cmp order) h before after

-- the elements are the polynomials given that are not zero
abbrev pub AreNonzeros : {R E : Type 0} → (R → RingOps E) → PolyRing R E → List (Polynomial E) → Elements R E → Type 0
AreNonzeros ops ring given es = es.polys.items ≡ nonzeros (ops ring.coeffs) given

-- the queue has their leading monomials
abbrev pub LeadsAre : {R E O S : Type 0} → (R → RingOps E) → (O → List ℕ → List ℕ → Ordering) → PolyRing R E → O → Elements R E → Pairs S → Type 0
LeadsAre ops cmp ring order es queue = queue.leads ≡ map (leading_monomial (ops ring.coeffs) (cmp order)) es.polys.items

-- the least common multiple of the pair is within the limit on degrees
abbrev pub IsLowPair : {R E O : Type 0} → (R → RingOps E) → (O → List ℕ → List ℕ → Ordering) → PolyRing R E → O → Elements R E → Pair → Type 0
IsLowPair ops cmp ring order es pair = total_degree (lcm_at (ops ring.coeffs) (cmp order) es.polys.items pair.first pair.second) ≤ max_degree
