-- How the change of a fraction is made.
--   IsAtMoved, MovedMeets, IsStoredChange      values at the moved point, and the change, as they are stored
--   OfStored, IsTimes, TimesStops, IsMinus      products and differences of stored polynomials
--   AreDivisorsOf, AreChosen, KeepChosen, AreCombined    the kept elements, and the cofactors that are made over them
use Rattle.std.specs.Prelude.{ℕ, ◌<◌, List, [], get_or, nat_lt}
use Rattle.std.specs.List.{AllZip}
use Rattle.rinv_algebra.specs.Ring.{IsSame}
use Rattle.rinv_algebra.specs.Residue.{residue_ops}
use Rattle.rinv_algebra.specs.Order.{grevlex}
use Rattle.rinv_algebra.specs.Polynomial.{difference, product, poly_ops}
use Rattle.rinv_algebra.specs.Ideal.{combination}
use Rattle.rinv_groebner.specs.Division.{AreSame}
use Rattle.rinv_poly.specs.Faults.{MonomialsMeet}
use Rattle.rinv_div.specs.declared.divisors.Divisor.{Divisor}
use Rattle.rinv_div.specs.Divisors.{AreDivisors}
use Rattle.rinv_buch.specs.Kinds.{Found}
use Rattle.rinv_cofactors.specs.Combining.{column}
use Rattle.rinv_defs.specs.System.{System, Poly}
use Rattle.rinv_defs.specs.Invariant.{Fraction, at_moved_point, change}
use Rattle.rinv_parts.specs.Points.{IsStoredIn}
use Rattle.rinv_parts.specs.Substitutions.{TakenMeets}
use Rattle.rinv_laws.specs.Proofs.{KeepCofactors, chosen}
use Rattle.rinv_change.specs.Asked.{IsChangeRing}
use Rattle.rinv_change.specs.Changes.{change_count}
use Rattle.rinv_ring.specs.Fault.{DegreesMeet}
use Rattle.rinv_ring.specs.declared.fault.RingFault.{RingFault}

-- ---- the change

-- r is f at the moved point
abbrev pub IsAtMoved : System → (f r : Poly) → Type 0
IsAtMoved s f r = IsStoredIn s.p (change_count s) (at_moved_point s f) r

-- the degrees that are met as it is taken there
abbrev pub MovedMeets : System → Poly → ℕ → ℕ → Type 0
MovedMeets s f x y = TakenMeets s.p (change_count s) s.action f x y

-- r is the change of f
abbrev pub IsStoredChange : System → Fraction → Poly → Type 0
IsStoredChange s f r = IsStoredIn s.p (change_count s) (change s f) r

-- P holds of whatever polynomials a and b are as they are stored, in the variables of whichever system's changes
abbrev pub OfStored : (p v : ℕ) → (a b : Poly) → (System → Poly → Poly → Type 0) → Type 0
OfStored p v a b P = (s : System) (f g : Poly) → IsChangeRing s p v → IsStoredIn s.p (change_count s) f a → IsStoredIn s.p (change_count s) g b → P s f g

-- r is the product
abbrev pub IsTimes : System → (f g r : Poly) → Type 0
IsTimes s f g r = IsStoredIn s.p (change_count s) (product (residue_ops s.p) f g) r

-- its making stops at degrees that it meets
abbrev pub TimesStops : System → (f g : Poly) → RingFault → Type 0
TimesStops s f g fault = DegreesMeet (MonomialsMeet (residue_ops s.p) f g) fault

-- r is the difference
abbrev pub IsMinus : System → (f g r : Poly) → Type 0
IsMinus s f g r = IsStoredIn s.p (change_count s) (difference (residue_ops s.p) f g) r

-- ---- the cofactors

-- the divisors of polynomials over the residues modulo p in v variables
abbrev pub AreDivisorsOf : {R : Type 0} → (p v : ℕ) → List Poly → List (Divisor R ℕ) → Type 0
AreDivisorsOf p v hs ds = AreDivisors (residue_ops p) (λ c. nat_lt c p) v grevlex hs ds

-- the lists are those at these places
abbrev pub AreChosen : ℕ → List (List Poly) → List ℕ → List (List Poly) → Type 0
AreChosen p lists places rs = AllZip (AreSame (residue_ops p)) rs (chosen lists places)

-- those at these places are cofactors of the kept elements
abbrev pub KeepChosen : System → Found ℕ → List (List Poly) → List ℕ → Type 0
KeepChosen s group lists places = KeepCofactors s group (chosen lists places)

-- so many, each the sum of the quotients times the cofactors in its column
abbrev pub AreCombined : ℕ → List (List Poly) → (quotients : List Poly) → ℕ → List Poly → Type 0
AreCombined p lists quotients count us = (m : ℕ) → m < count → IsSame (poly_ops (residue_ops p)) (get_or us m []) (combination (residue_ops p) quotients (column lists m))
