-- The rule on degrees: each product of two monomials that a computation needs has a degree within the limit.
use Rattle.std.specs.Prelude.{◌+◌, Bool, true, ◌&&◌, ◌||◌, nat_le, List, [], ◌∷◌}
use Rattle.std.specs.List.{list_all}
use Rattle.rinv_algebra.specs.Ring.{RingOps}
use Rattle.rinv_algebra.specs.Monomial.{max_degree}
use Rattle.rinv_algebra.specs.Polynomial.{Polynomial, coefficient, product, same, constant, is_zero, monomials, degree}
use Rattle.rinv_algebra.specs.Value.{factors}
use Rattle.rinv_algebra.specs.Ideal.{combination}

module _ {E : Type 0} (o : RingOps E) where
  -- each monomial of f times each of g
  unfoldable pub product_fits : Polynomial E → Polynomial E → Bool
  product_fits f g = is_zero o f || is_zero o g || nat_le (degree o f + degree o g) max_degree

  -- f times the factors, from the left
  unfoldable pub products_fit : Polynomial E → List (Polynomial E) → Bool
  products_fit f [] = true
  products_fit f (g ∷ gs) = product_fits f g && products_fit (product o f g) gs

  -- the images put for the variables of f: for each monomial, its coefficient times the images, each as often as its exponent says
  unfoldable pub substitution_fits : List (Polynomial E) → Polynomial E → Bool
  substitution_fits images f = list_all (λ m. products_fit (constant o (coefficient o f m)) (factors images m)) (monomials o f)

  -- u1*f1 + u2*f2 + ..
  unfoldable pub combination_fits : List (Polynomial E) → List (Polynomial E) → Bool
  combination_fits [] fs = true
  combination_fits (u ∷ us) [] = true
  combination_fits (u ∷ us) (f ∷ fs) = product_fits u f && combination_fits us fs

  -- f is u1*f1 + u2*f2 + .., and these products fit
  abbrev pub multiplies_out : Polynomial E → List (Polynomial E) → List (Polynomial E) → Bool
  multiplies_out f us fs = combination_fits us fs && same o f (combination o us fs)
