-- How the reduced basis is made: which elements are kept, and the degrees that making others of them may answer.
use Rattle.std.specs.Prelude.{◌≡◌, ℕ, ◌<◌, ◌⊎◌, Bool, not, ◌&&◌, List, [], take, filter, length, get_or, remove, IsTrue, IsFalse, map, All}
use Rattle.std.specs.List.{list_any, range_with_len}
use Rattle.std.specs.declared.cmp.Ordering.{Ordering}
use Rattle.std.specs.declared.cmp.Ordering.TheVariants.{Less}
use Rattle.rinv_algebra.specs.Ring.{RingOps, IsSame}
use Rattle.rinv_algebra.specs.Monomial.{divides, same_monomial}
use Rattle.rinv_algebra.specs.Polynomial.{Polynomial}
use Rattle.rinv_algebra.specs.Normal.{IsNormal}
use Rattle.rinv_algebra.specs.Leading.{leading_monomial, leading_coefficient}
use Rattle.rinv_groebner.specs.Division.{Step, IsDivision}
use Rattle.rinv_groebner.specs.Reduced.{kept, IsReducedGroebnerBasis, Ascend, IsMadeAt}
use Rattle.rinv_ring.specs.Operation.{RingOp}
use Rattle.rinv_poly.specs.Faults.{MultipleMeets}
use Rattle.rinv_div.specs.Stops.{StepsMeet}
use Rattle.std.specs.Global.{Vec}
use Rattle.rinv_poly.specs.declared.polynomial_ring.PolyRing.{PolyRing}
use Rattle.rinv_ring.specs.declared.fault.RingFault.{RingFault}
use Rattle.rinv_ring.specs.Fault.{DegreesMeet}
use Rattle.rinv_buch.specs.declared.elements.Elements.{Elements}

-- whether no monomial of the list properly divides the one at a place, and no earlier one is the same
abbrev pub is_kept_place : List (List ℕ) → ℕ → Bool
is_kept_place ms place = not (list_any (λ m. divides m (get_or ms place []) && not (same_monomial m (get_or ms place []))) ms) && not (list_any (λ m. same_monomial m (get_or ms place [])) (take place ms))

-- the places of the monomials that are kept so
abbrev pub kept_places : List (List ℕ) → List ℕ
kept_places ms = filter (is_kept_place ms) (range_with_len 0 (length ms))

module _ {E : Type 0} (o : RingOps E) (cmp : List ℕ → List ℕ → Ordering) where
  -- no leading monomial of the list divides that of another element
  abbrev pub AreLeadsApart : List (Polynomial E) → Type 0
  AreLeadsApart hs = (i j : ℕ) → i < length hs → j < length hs → (i ≡ j → ⊥) → IsFalse (divides (leading_monomial o cmp (get_or hs j [])) (leading_monomial o cmp (get_or hs i [])))

module _ {E : Type 0} (o : RingOps E) (is_element : E → Bool) (too_high : RingOp → E → E → ℕ → ℕ → Type 0) (v : ℕ) (cmp : List ℕ → List ℕ → Ordering) where
  -- making f monic may answer these degrees: an inverse of its leading coefficient times one of its coefficients
  pub record MonicMeets (f : Polynomial E) (x y : ℕ) : Type 0 where
    pub inverse : E
    pub element : IsTrue (is_element inverse)
    pub of_lead : IsSame o (o.mul (leading_coefficient o cmp f) inverse) o.one
    pub meets : MultipleMeets o is_element too_high inverse f x y

  -- so may making monic what division of f by hs leaves, in v variables
  pub record MonicRestMeets (hs : List (Polynomial E)) (f : Polynomial E) (x y : ℕ) : Type 0 where
    pub steps : List (Step E)
    pub rest : Polynomial E
    pub division : IsDivision o cmp hs f steps rest
    pub normal : IsNormal o is_element v rest
    pub meets : MonicMeets rest x y

  -- making an element of the one at a place may answer these degrees: in a step of its division by the others, or as the rest is made
  -- monic
  abbrev pub MakingMeets : List (Polynomial E) → ℕ → ℕ → ℕ → Type 0
  MakingMeets hs place x y = StepsMeet o cmp (remove hs place) (get_or hs place []) is_element too_high x y ⊎ MonicRestMeets (remove hs place) (get_or hs place []) x y

  -- so may making one of the elements that are kept
  pub record ReducingMeets (hs : List (Polynomial E)) (x y : ℕ) : Type 0 where
    pub place : ℕ
    pub inside : place < length (kept o cmp hs)
    pub meets : MakingMeets (kept o cmp hs) place x y

-- The same as contracts name it, of a ring and an order: `ops`, `is_element`, `too_high` and `cmp` are theirs.

-- a reduced Gröbner basis of the ideal of fs
abbrev pub IsReducedFor : {R E O : Type 0} → (R → RingOps E) → (O → List ℕ → List ℕ → Ordering) → PolyRing R E → O → List (Polynomial E) → Vec (Polynomial E) → Type 0
IsReducedFor ops cmp ring order fs gs = IsReducedGroebnerBasis (ops ring.coeffs) (cmp order) ring.vars fs gs.items

-- the leading monomials ascend
abbrev pub AscendBy : {R E O : Type 0} → (R → RingOps E) → (O → List ℕ → List ℕ → Ordering) → PolyRing R E → O → Vec (Polynomial E) → Type 0
AscendBy ops cmp ring order gs = Ascend (ops ring.coeffs) (cmp order) gs.items

-- the places of the elements that are kept
abbrev pub AreKeptPlaces : {R E O : Type 0} → (R → RingOps E) → (O → List ℕ → List ℕ → Ordering) → PolyRing R E → O → List (Polynomial E) → Vec ℕ → Type 0
AreKeptPlaces ops cmp ring order hs places = places.items ≡ kept_places (map (leading_monomial (ops ring.coeffs) (cmp order)) hs)

-- what stands there
abbrev pub StandKept : {R E O : Type 0} → (R → RingOps E) → (O → List ℕ → List ℕ → Ordering) → PolyRing R E → O → List (Polynomial E) → Vec ℕ → Type 0
StandKept ops cmp ring order hs places = map (λ k. get_or hs k []) places.items ≡ kept (ops ring.coeffs) (cmp order) hs

-- the elements are those that are kept
abbrev pub AreKept : {R E O : Type 0} → (R → RingOps E) → (O → List ℕ → List ℕ → Ordering) → PolyRing R E → O → List (Polynomial E) → Elements R E → Type 0
AreKept ops cmp ring order hs es = es.polys.items ≡ kept (ops ring.coeffs) (cmp order) hs

-- no leading monomial divides that of another element
abbrev pub LeadsAreApart : {R E O : Type 0} → (R → RingOps E) → (O → List ℕ → List ℕ → Ordering) → PolyRing R E → O → Elements R E → Type 0
LeadsAreApart ops cmp ring order es = AreLeadsApart (ops ring.coeffs) (cmp order) es.polys.items

-- g is made of the element at the place
abbrev pub MadeAt : {R E O : Type 0} → (R → RingOps E) → (O → List ℕ → List ℕ → Ordering) → PolyRing R E → O → Elements R E → ℕ → Polynomial E → Type 0
MadeAt ops cmp ring order es place g = IsMadeAt (ops ring.coeffs) (cmp order) es.polys.items place g

-- no element of the list has the leading monomial of g,
abbrev pub LeadIsNew : {R E O : Type 0} → (R → RingOps E) → (O → List ℕ → List ℕ → Ordering) → PolyRing R E → O → Polynomial E → List (Polynomial E) → Type 0
LeadIsNew ops cmp ring order g hs = All (λ h. ¬ (leading_monomial (ops ring.coeffs) (cmp order) h ≡ leading_monomial (ops ring.coeffs) (cmp order) g)) hs

-- or m as it
abbrev pub IsNoLead : {R E O : Type 0} → (R → RingOps E) → (O → List ℕ → List ℕ → Ordering) → PolyRing R E → O → List ℕ → List (Polynomial E) → Type 0
IsNoLead ops cmp ring order m hs = All (λ h. ¬ (leading_monomial (ops ring.coeffs) (cmp order) h ≡ m)) hs

-- all leading monomials are below m,
abbrev pub LeadsBelow : {R E O : Type 0} → (R → RingOps E) → (O → List ℕ → List ℕ → Ordering) → PolyRing R E → O → List ℕ → List (Polynomial E) → Type 0
LeadsBelow ops cmp ring order m hs = All (λ h. cmp order (leading_monomial (ops ring.coeffs) (cmp order) h) m ≡ Less) hs

-- or above it
abbrev pub LeadsAbove : {R E O : Type 0} → (R → RingOps E) → (O → List ℕ → List ℕ → Ordering) → PolyRing R E → O → List ℕ → List (Polynomial E) → Type 0
LeadsAbove ops cmp ring order m hs = All (λ h. cmp order m (leading_monomial (ops ring.coeffs) (cmp order) h) ≡ Less) hs

-- the degrees of the fault are met as the basis is reduced,
abbrev pub ReducingTooHigh : {R E O : Type 0} → (R → RingOps E) → (R → E → Bool) → (R → RingOp → E → E → ℕ → ℕ → Type 0) → (O → List ℕ → List ℕ → Ordering) → PolyRing R E → O → List (Polynomial E) → RingFault → Type 0
ReducingTooHigh ops is_element too_high cmp ring order hs fault = DegreesMeet (ReducingMeets (ops ring.coeffs) (is_element ring.coeffs) (too_high ring.coeffs) ring.vars (cmp order) hs) fault

-- as an element is made,
abbrev pub MakingTooHigh : {R E O : Type 0} → (R → RingOps E) → (R → E → Bool) → (R → RingOp → E → E → ℕ → ℕ → Type 0) → (O → List ℕ → List ℕ → Ordering) → PolyRing R E → O → Elements R E → ℕ → RingFault → Type 0
MakingTooHigh ops is_element too_high cmp ring order es place fault = DegreesMeet (MakingMeets (ops ring.coeffs) (is_element ring.coeffs) (too_high ring.coeffs) ring.vars (cmp order) es.polys.items place) fault

-- or as f is made monic
abbrev pub MonicTooHigh : {R E O : Type 0} → (R → RingOps E) → (R → E → Bool) → (R → RingOp → E → E → ℕ → ℕ → Type 0) → (O → List ℕ → List ℕ → Ordering) → PolyRing R E → O → Polynomial E → RingFault → Type 0
MonicTooHigh ops is_element too_high cmp ring order f fault = DegreesMeet (MonicMeets (ops ring.coeffs) (is_element ring.coeffs) (too_high ring.coeffs) ring.vars (cmp order) f) fault
