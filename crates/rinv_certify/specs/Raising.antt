-- How coefficients are raised to the common denominator of a relation.
--   has_same, with_one, with_other, without     lists of denominators, each once
--   IsProductFrom, IsProductOf, IsRaisedBy      products of them, and a numerator times the others
--   NumeratorMeets                              the degrees that this meets
use Rattle.std.specs.Prelude.{ℕ, Bool, not, List, [], ◌∷◌, ◌++◌, filter, if◌then◌else◌}
use Rattle.std.specs.List.{list_any}
use Rattle.rinv_algebra.specs.Ring.{IsSame}
use Rattle.rinv_algebra.specs.Residue.{residue_ops}
use Rattle.rinv_algebra.specs.Polynomial.{poly_ops, same}
use Rattle.rinv_defs.specs.System.{System, Poly}
use Rattle.rinv_defs.specs.Invariant.{Fraction}
use Rattle.rinv_acceptance.specs.Denominators.{product_from, product_of, other_factors, raised}
use Rattle.rinv_certify.specs.Meets.{FactorsMeet}

-- whether f stands in the list
abbrev pub has_same : System → Poly → List Poly → Bool
has_same s f ds = list_any (λ d. same (residue_ops s.p) d f) ds

-- the list with f, which stands there once
abbrev pub with_one : System → Poly → List Poly → List Poly
with_one s f ds = if list_any (λ d. same (residue_ops s.p) d f) ds then ds else ds ++ f ∷ []

-- the list with the factor behind it, where that is not the denominator
abbrev pub with_other : System → (factor den : Poly) → List Poly → List Poly
with_other s factor den ds = ds ++ (if same (residue_ops s.p) factor den then [] else factor ∷ [])

-- the factors that are not the denominator
abbrev pub without : System → (den : Poly) → List Poly → List Poly
without s den ds = filter (λ d. not (same (residue_ops s.p) d den)) ds

-- r is f times the factors
abbrev pub IsProductFrom : System → Poly → List Poly → Poly → Type 0
IsProductFrom s f ds r = IsSame (poly_ops (residue_ops s.p)) r (product_from s f ds)

-- r is the product of the factors
abbrev pub IsProductOf : System → List Poly → Poly → Type 0
IsProductOf s ds r = IsSame (poly_ops (residue_ops s.p)) r (product_of s ds)

-- r is the numerator of c times the other factors
abbrev pub IsRaisedBy : System → List Poly → Fraction → Poly → Type 0
IsRaisedBy s ds c r = IsSame (poly_ops (residue_ops s.p)) r (raised s ds c)

-- the product of c's numerator and the other factors meets these degrees
abbrev pub NumeratorMeets : System → List Poly → Fraction → ℕ → ℕ → Type 0
NumeratorMeets s ds c x y = FactorsMeet s c.0 (other_factors s ds c) x y
