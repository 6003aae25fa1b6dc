-- The degrees that multiples by terms, differences, sums and sums of products of polynomials may answer, as they are worked out.
use Rattle.std.specs.Prelude.{◌⊎◌, ◌<◌, ℕ, Bool, List, [], ◌∷◌, length, get_or}
use Rattle.rinv_algebra.specs.Ring.{RingOps}
use Rattle.rinv_algebra.specs.Polynomial.{Term, Polynomial}
use Rattle.rinv_ring.specs.Operation.{RingOp, adds, subtracts, multiplies}
use Rattle.rinv_poly.specs.Faults.{polynomials_meet}
use Rattle.rinv_poly.specs.Stored.{IsStored, TotalMeets, products}

module _ {E : Type 0} (o : RingOps E) (is_element : E → Bool) (too_high : RingOp → E → E → ℕ → ℕ → Type 0) (v : ℕ) where
  -- the term, as it is stored, times g
  abbrev pub TermMeets : Term E → Polynomial E → ℕ → ℕ → Type 0
  TermMeets t g x y = (stored : Polynomial E) × IsStored o is_element v (t ∷ []) stored × polynomials_meet o is_element too_high multiplies stored g x y

  -- the difference of f and g, as they are stored
  abbrev pub DifferenceMeets : Polynomial E → Polynomial E → ℕ → ℕ → Type 0
  DifferenceMeets f g x y = (a b : Polynomial E) × IsStored o is_element v f a × IsStored o is_element v g b × polynomials_meet o is_element too_high subtracts a b x y

  -- the sum of f and g, as they are stored
  abbrev pub SumMeets : Polynomial E → Polynomial E → ℕ → ℕ → Type 0
  SumMeets f g x y = (a b : Polynomial E) × IsStored o is_element v f a × IsStored o is_element v g b × polynomials_meet o is_element too_high adds a b x y

  -- the products of the polynomials at each place, or their sum
  abbrev pub ProductsSumMeet : List (Polynomial E) → List (Polynomial E) → ℕ → ℕ → Type 0
  ProductsSumMeet us fs x y = ((k : ℕ) × (k < length us) × polynomials_meet o is_element too_high multiplies (get_or us k []) (get_or fs k []) x y) ⊎ TotalMeets o is_element too_high v (products o us fs) x y
