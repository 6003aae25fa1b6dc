-- What a law says of polynomials, modulo the ideal of a list of polynomials.
use Rattle.std.specs.Prelude.{◌≡◌, ◌<◌, ℕ, List, [], length, get_or}
use Rattle.rinv_algebra.specs.Residue.{residue_ops}
use Rattle.rinv_algebra.specs.Polynomial.{difference}
use Rattle.rinv_algebra.specs.Value.{substitute}
use Rattle.rinv_algebra.specs.Ideal.{IsMember}
use Rattle.rinv_modulo.specs.Congruence.{StandsFor}
use Rattle.rinv_defs.specs.System.{Poly}
use Rattle.rinv_parts.specs.declared.law_points.LawPoints.{LawPoints}
use Rattle.rinv_parts.specs.declared.law_points.LawPoints.TheVariants.{Vanish, Agree, Give, GiveBoth}
use Rattle.rinv_parts.specs.Points.{ArePolynomials, Points, vanish, agree, give, give_both}
use Rattle.rinv_parts.specs.Substitutions.{made_at}

-- place by place, the values stand for the polynomials fs at the point x
pub record AreValues (p v : ℕ) (hs x fs values : List Poly) : Type 0 where
  pub many : length values ≡ length fs
  pub normal : ArePolynomials p v values
  pub each : (k : ℕ) → k < length fs → StandsFor p v hs (substitute (residue_ops p) x (get_or fs k [])) (get_or values k [])

-- the polynomials lie in the ideal of hs
abbrev pub AreInIdeal : ℕ → (hs fs : List Poly) → Type 0
AreInIdeal p hs fs = (k : ℕ) → k < length fs → IsMember (residue_ops p) hs (get_or fs k [])

-- the differences do, place by place
abbrev pub DifferInIdeal : ℕ → (hs left right : List Poly) → Type 0
DifferInIdeal p hs left right = (k : ℕ) → k < length left → IsMember (residue_ops p) hs (difference (residue_ops p) (get_or left k []) (get_or right k []))

-- the first n parts of what is said of the polynomials fs at points do
abbrev pub PartsInIdeal : ℕ → (hs fs : List Poly) → Points → ℕ → Type 0
PartsInIdeal p hs fs points n = (k : ℕ) → k < n → IsMember (residue_ops p) hs (made_at p fs points k)

-- the points that are stored
abbrev pub stored_points : LawPoints → Points
stored_points (Vanish a) = vanish a.items
stored_points (Agree a b) = agree a.items b.items
stored_points (Give a c) = give a.items c.items
stored_points (GiveBoth a b c) = give_both a.items b.items c.items
