-- The degrees that an operation on fractions may answer where a product of their parts is too high.
use Rattle.std.specs.Prelude.{ℕ, ◌+◌, ◌<◌, ◌⊎◌, IsFalse}
use Rattle.std.proofs.Common.{inl, inr}
use Rattle.rinv_algebra.specs.Ring.{RingOps}
use Rattle.rinv_algebra.specs.Monomial.{max_degree}
use Rattle.rinv_algebra.specs.Polynomial.{same}
use Rattle.rinv_algebra.specs.Fraction.{Fraction}
use Rattle.rinv_ring.specs.Operation.{RingOp, adds, subtracts, multiplies, compares}
use Rattle.rinv_poly.specs.Faults.{MonomialsMeet}

module _ {E : Type 0} (o : RingOps E) where
  -- one of the products n*e, m*d and d*e for n/d and m/e meets these degrees
  abbrev pub CrossedMeets : Fraction E → Fraction E → ℕ → ℕ → Type 0
  CrossedMeets f g x y = MonomialsMeet o f.0 g.1 x y ⊎ (MonomialsMeet o g.0 f.1 x y ⊎ MonomialsMeet o f.1 g.1 x y)

  -- one that makes their sum does; none is made where d and e are the same
  abbrev pub SumMeets : Fraction E → Fraction E → ℕ → ℕ → Type 0
  SumMeets f g x y = IsFalse (same o f.1 g.1) × CrossedMeets f g x y

  -- one that makes their product does
  abbrev pub ProductMeets : Fraction E → Fraction E → ℕ → ℕ → Type 0
  ProductMeets f g x y = MonomialsMeet o f.0 g.0 x y ⊎ MonomialsMeet o f.1 g.1 x y

  -- an operation on n/d and m/e meets these degrees in a product that it makes: of parts of the two, as its formula multiplies them
  abbrev pub fractions_meet : RingOp → Fraction E → Fraction E → ℕ → ℕ → Type 0
  fractions_meet adds f g x y = SumMeets f g x y
  fractions_meet subtracts f g x y = SumMeets f g x y
  fractions_meet multiplies f g x y = ProductMeets f g x y
  fractions_meet compares f g x y = MonomialsMeet o f.0 g.1 x y ⊎ MonomialsMeet o g.0 f.1 x y

-- where one of these products is crossed, the degrees add up to more than the limit
crossed_over : {E : Type 0} (o : RingOps E) (f g : Fraction E) (x y : ℕ) → CrossedMeets o f g x y → max_degree < x + y
crossed_over o f g x y (inl h) = h.over
crossed_over o f g x y (inr (inl h)) = h.over
crossed_over o f g x y (inr (inr h)) = h.over

-- degrees that an operation answers add up to more than the limit
pub fractions_over : {E : Type 0} (o : RingOps E) (op : RingOp) (f g : Fraction E) (x y : ℕ) → fractions_meet o op f g x y → max_degree < x + y
fractions_over o adds f g x y (differ, h) = crossed_over o f g x y h
fractions_over o subtracts f g x y (differ, h) = crossed_over o f g x y h
fractions_over o multiplies f g x y (inl h) = h.over
fractions_over o multiplies f g x y (inr h) = h.over
fractions_over o compares f g x y (inl h) = h.over
fractions_over o compares f g x y (inr h) = h.over
