-- The value of a polynomial at fractions, as it is made: products from the left, and sums from the greatest monomial down.
--   value_at             the value, by the formulas of fractions
--   Multiplied f gs r    r is f times the factors, one after another
--   Summed ts r          r is the sum of the values of terms, one after another
--   IsValue f r          r is the value of f, made so
use Rattle.std.specs.Prelude.{◌≡◌, ℕ, List, [], ◌∷◌, ◌++◌, Contains}
use Rattle.std.specs.List.Sorted.{IsPermutation, IsSortedBy}
use Rattle.std.specs.Ordering.{is_lt}
use Rattle.rinv_algebra.specs.Ring.{RingOps}
use Rattle.rinv_algebra.specs.Order.{grevlex}
use Rattle.rinv_algebra.specs.Polynomial.{Term, Polynomial, constant}
use Rattle.rinv_algebra.specs.Value.{value, factors}
use Rattle.rinv_algebra.specs.Fraction.{Fraction, over_one, fraction_ops}
use Rattle.rinv_ring.specs.Operation.{multiplies, adds}
use Rattle.rinv_frac.specs.Cancelling.{IsSamePair}
use Rattle.rinv_frac.specs.Arithmetic.{IsSum, IsProduct}
use Rattle.rinv_frac.specs.Faults.{fractions_meet}

-- the terms of f, from the greatest monomial down
pub record AreDescending {E : Type 0} (f ts : Polynomial E) : Type 0 where
  pub terms : IsPermutation f ts
  pub descending : IsSortedBy (λ s t. is_lt (grevlex t.0 s.0)) ts

module _ {E : Type 0} (o : RingOps E) where
  -- a number as a fraction
  abbrev pub number : E → Fraction E
  number c = over_one o (constant o c)

  -- the value of f at the fractions
  abbrev pub value_at : List (Fraction E) → Polynomial E → Fraction E
  value_at c f = value (fraction_ops o) number c f

  -- r is f times the factors, one after another
  pub data Multiplied (f : Fraction E) : List (Fraction E) → Fraction E → Type 0 where
    start : (r : Fraction E) → IsSamePair o r f → Multiplied f [] r
    next : (gs : List (Fraction E)) (g h r : Fraction E) → Multiplied f gs h → IsProduct o h g r → Multiplied f (gs ++ g ∷ []) r

  -- the product of what some factors make of f and the next one meets these degrees
  pub record ProductsMeet (f : Fraction E) (gs : List (Fraction E)) (x y : ℕ) : Type 0 where
    pub done : List (Fraction E)
    pub factor : Fraction E
    pub rest : List (Fraction E)
    pub split : gs ≡ done ++ factor ∷ rest
    pub so_far : Fraction E
    pub made : Multiplied f done so_far
    pub meets : fractions_meet o multiplies so_far factor x y

  module _ (c : List (Fraction E)) where
    -- r is the value of a term: its coefficient times the fractions, each as often as its exponent says
    abbrev pub IsTermValue : Term E → Fraction E → Type 0
    IsTermValue t r = Multiplied (number t.1) (factors c t.0) r

    -- r is the sum of the terms' values, one after another
    pub data Summed : List (Term E) → Fraction E → Type 0 where
      begin : (r : Fraction E) → IsSamePair o r (over_one o []) → Summed [] r
      add : (ts : List (Term E)) (t : Term E) (g v r : Fraction E) → Summed ts g → IsTermValue t v → IsSum o g v r → Summed (ts ++ t ∷ []) r

    -- r is the value of f as it is made
    pub record IsValue (f : Polynomial E) (r : Fraction E) : Type 0 where
      pub terms : Polynomial E
      pub of_f : AreDescending f terms
      pub summed : Summed terms r

    -- a product of a term's value, or the sum with the values of the terms before it, meets these degrees
    pub data SumsMeet (ts : List (Term E)) (x y : ℕ) : Type 0 where
      in_product : (t : Term E) → Contains ts t → ProductsMeet (number t.1) (factors c t.0) x y → SumsMeet ts x y
      in_sum : (before after : List (Term E)) (t : Term E) (g v : Fraction E) → ts ≡ before ++ t ∷ after → Summed before g → IsTermValue t v → fractions_meet o adds g v x y → SumsMeet ts x y

    -- making the value of f meets these degrees
    abbrev pub ValueMeets : Polynomial E → ℕ → ℕ → Type 0
    ValueMeets f x y = (ts : Polynomial E) × AreDescending f ts × SumsMeet ts x y
