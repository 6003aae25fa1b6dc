-- Polynomials as they are stored, the products of two lists of them, and the degrees that adding them up may answer.
use Rattle.std.specs.Prelude.{ℕ, Bool, List, ◌∷◌, []}
use Rattle.std.specs.List.{AllZip}
use Rattle.rinv_algebra.specs.Ring.{RingOps, IsSame}
use Rattle.rinv_algebra.specs.Polynomial.{Polynomial, poly_ops, product}
use Rattle.rinv_algebra.specs.Normal.{IsNormal}
use Rattle.rinv_ring.specs.Operation.{RingOp}
use Rattle.rinv_poly.specs.Faults.{PartialSumMeets}
use Rattle.rinv_poly.specs.Sums.{sum_of}

-- the products of the polynomials at each place
abbrev pub products : {E : Type 0} → RingOps E → List (Polynomial E) → List (Polynomial E) → List (Polynomial E)
products o [] gs = []
products o (f ∷ fs) [] = []
products o (f ∷ fs) (g ∷ gs) = product o f g ∷ products o fs gs

-- g is f as it is stored, in v variables
pub record IsStored {E : Type 0} (o : RingOps E) (is_element : E → Bool) (v : ℕ) (f g : Polynomial E) : Type 0 where
  pub normal : IsNormal o is_element v g
  pub value : IsSame (poly_ops o) g f

module _ {E : Type 0} (o : RingOps E) (is_element : E → Bool) (too_high : RingOp → E → E → ℕ → ℕ → Type 0) (v : ℕ) where
  -- adding up the polynomials as they are stored may answer these degrees
  abbrev pub TotalMeets : List (Polynomial E) → ℕ → ℕ → Type 0
  TotalMeets fs x y = (stored : List (Polynomial E)) × AllZip (IsStored o is_element v) fs stored × PartialSumMeets o is_element too_high (sum_of stored) x y
