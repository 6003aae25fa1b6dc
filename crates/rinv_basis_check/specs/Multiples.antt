-- The multiples of which an S-polynomial is the difference.
--   multiple_fits, IsMultiple    of elements with numbers from 1, by the multiplier of the first
use Rattle.std.specs.Prelude.{ℕ, ◌∷◌, [], Bool}
use Rattle.rinv_algebra.specs.Ring.{IsSame}
use Rattle.rinv_algebra.specs.Residue.{residue_ops}
use Rattle.rinv_algebra.specs.Polynomial.{Term, poly_ops, term_product}
use Rattle.rinv_algebra.specs.Leading.{multiplier}
use Rattle.rinv_algebra.specs.Fits.{product_fits}
use Rattle.rinv_defs.specs.System.{Poly}
use Rattle.rinv_defs.specs.Certificate.{Certificate}
use Rattle.rinv_defs.specs.PairConditions.{element, action_order}

-- the term that brings the leading term of element i to that of element j
abbrev pub multiplier_of : Certificate → ℕ → ℕ → Term ℕ
multiplier_of c i j = multiplier (residue_ops c.system.p) (action_order c.system) (element c i) (element c j)

-- whether its product with element i fits
abbrev pub multiple_fits : Certificate → ℕ → ℕ → Bool
multiple_fits c i j = product_fits (residue_ops c.system.p) (multiplier_of c i j ∷ []) (element c i)

-- the polynomial is this product
abbrev pub IsMultiple : Certificate → ℕ → ℕ → Poly → Type 0
IsMultiple c i j f = IsSame (poly_ops (residue_ops c.system.p)) f (term_product (residue_ops c.system.p) (multiplier_of c i j) (element c i))
