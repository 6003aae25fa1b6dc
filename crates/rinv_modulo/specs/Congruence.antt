-- Polynomials in normal form that stand for others modulo the ideal of a list of polynomials.
use Rattle.std.specs.Prelude.{◌≡◌, ◌<◌, ℕ, List, length, get_or, nat_lt, replicate}
use Rattle.rinv_algebra.specs.Ring.{RingOps}
use Rattle.rinv_algebra.specs.Residue.{residue_ops}
use Rattle.rinv_algebra.specs.Polynomial.{Polynomial, poly_ops, difference}
use Rattle.rinv_algebra.specs.Normal.{IsNormal}
use Rattle.rinv_algebra.specs.Value.{times_all}
use Rattle.rinv_algebra.specs.Ideal.{IsMember}

-- the difference of the polynomials lies in the ideal
abbrev pub AreCongruent : {E : Type 0} → RingOps E → (hs : List (Polynomial E)) → (f g : Polynomial E) → Type 0
AreCongruent o hs f g = IsMember o hs (difference o f g)

module _ (p v : ℕ) (hs : List (Polynomial ℕ)) where
  -- r is in normal form, in v variables over the field of p elements, and is the same as f modulo the ideal of hs
  pub record StandsFor (f r : Polynomial ℕ) : Type 0 where
    pub normal : IsNormal (residue_ops p) (λ c. nat_lt c p) v r
    pub congruent : AreCongruent (residue_ops p) hs f r

  -- at place k stands a polynomial for f to the power k
  abbrev pub ArePowersModulo : Polynomial ℕ → List (Polynomial ℕ) → Type 0
  ArePowersModulo f ps = (k : ℕ) (d : Polynomial ℕ) → k < length ps → StandsFor (times_all (poly_ops (residue_ops p)) (poly_ops (residue_ops p)).one (replicate k f)) (get_or ps k d)

  -- for each polynomial a table of such
  pub record AreTablesModulo (fs : List (Polynomial ℕ)) (tables : List (List (Polynomial ℕ))) : Type 0 where
    pub many : length tables ≡ length fs
    pub each : (k : ℕ) (f : Polynomial ℕ) (t : List (Polynomial ℕ)) → k < length fs → ArePowersModulo (get_or fs k f) (get_or tables k t)
