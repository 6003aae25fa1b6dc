-- Polynomials, fractions and relations of a system, as they are stored.
--   IsInSpace, AreInSpace, IsInAll, AreInAll    polynomials in the space's variables, and in all
--   IsFractionIn, IsRelationIn                  fractions and relations over the space
--   IsSameOver, IsProduct                       polynomials up to sameness
use Rattle.std.specs.Prelude.{ℕ, List, nat_lt}
use Rattle.rinv_algebra.specs.Ring.{IsSame}
use Rattle.rinv_algebra.specs.Residue.{residue_ops}
use Rattle.rinv_algebra.specs.Polynomial.{poly_ops, product}
use Rattle.rinv_algebra.specs.Normal.{IsNormal}
use Rattle.rinv_defs.specs.System.{System, Poly, space_count}
use Rattle.rinv_defs.specs.Extended.{Relation}
use Rattle.rinv_defs.specs.Invariant.{Fraction}
use Rattle.rinv_reduction.specs.Localised.{all_count}
use Rattle.rinv_frac.specs.Fractions.{IsStored}
use Rattle.rinv_tails.specs.Stored.{IsStoredRelation}
use Rattle.rinv_parts.specs.Points.{ArePolynomials}

-- a polynomial in the space's variables
abbrev pub IsInSpace : System → Poly → Type 0
IsInSpace s f = IsNormal (residue_ops s.p) (λ c. nat_lt c s.p) (space_count s) f

-- such polynomials
abbrev pub AreInSpace : System → List Poly → Type 0
AreInSpace s fs = ArePolynomials s.p (space_count s) fs

-- a polynomial in all variables
abbrev pub IsInAll : System → Poly → Type 0
IsInAll s f = IsNormal (residue_ops s.p) (λ c. nat_lt c s.p) (all_count s) f

-- such polynomials
abbrev pub AreInAll : System → List Poly → Type 0
AreInAll s fs = ArePolynomials s.p (all_count s) fs

-- a fraction over the space
abbrev pub IsFractionIn : System → Fraction → Type 0
IsFractionIn s c = IsStored s.p (space_count s) c

-- a relation whose coefficients are such fractions
abbrev pub IsRelationIn : System → Relation → Type 0
IsRelationIn s r = IsStoredRelation s.p (space_count s) r

-- f and g are the same over the residues modulo p
abbrev pub IsSameOver : ℕ → Poly → Poly → Type 0
IsSameOver p f g = IsSame (poly_ops (residue_ops p)) f g

-- r is the product of f and g
abbrev pub IsProduct : ℕ → (f g r : Poly) → Type 0
IsProduct p f g r = IsSame (poly_ops (residue_ops p)) r (product (residue_ops p) f g)
