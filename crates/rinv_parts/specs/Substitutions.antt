-- The substitutions by which a part of a law is made: whether they fit, and which degrees they meet.
use Rattle.std.specs.Prelude.{ℕ, ◌≡◌, ◌⊎◌, ◌-◌, List, [], ◌∷◌, length, get_or, nat_lt, if◌then◌else◌, Bool, true, ◌&&◌}
use Rattle.rinv_algebra.specs.Residue.{residue_ops}
use Rattle.rinv_algebra.specs.Polynomial.{difference}
use Rattle.rinv_algebra.specs.Value.{substitute}
use Rattle.rinv_algebra.specs.Fits.{substitution_fits}
use Rattle.rinv_sub.specs.Refusal.{SubstitutionMeets, never}
use Rattle.rinv_defs.specs.System.{Poly}
use Rattle.rinv_parts.specs.Points.{IsStoredIn, Points, vanish, agree, give, give_both}

-- r is f at the point x as it is stored, and its products fit
pub record IsValue (p v : ℕ) (x : List Poly) (f r : Poly) : Type 0 where
  pub stored : IsStoredIn p v (substitute (residue_ops p) x f) r
  pub fits : substitution_fits (residue_ops p) x f ≡ true

-- a point, and a polynomial that is taken there
abbrev pub Taken : Type 0
Taken = List Poly × Poly

-- for what is said of the polynomials, those that are taken in the part at place k
abbrev pub taken_at : List Poly → Points → ℕ → List Taken
taken_at fs (vanish x) k = (x, get_or fs k []) ∷ []
taken_at fs (agree x y) k = (x, get_or fs k []) ∷ (y, get_or fs k []) ∷ []
taken_at fs (give x z) k = (x, get_or fs k []) ∷ []
taken_at fs (give_both x y z) k = (if nat_lt k (length fs) then (x, get_or fs k []) else (y, get_or fs (k - length fs) [])) ∷ []

-- the difference of the value of f at x and a polynomial
abbrev pub less : ℕ → List Poly → Poly → Poly → Poly
less p x f g = difference (residue_ops p) (substitute (residue_ops p) x f) g

-- r is this difference as it is stored, and the products of the value fit
pub record IsLess (p v : ℕ) (x : List Poly) (f g r : Poly) : Type 0 where
  pub stored : IsStoredIn p v (less p x f g) r
  pub fits : substitution_fits (residue_ops p) x f ≡ true

-- r is the difference of the values of f at x and y as it is stored, and the products of both fit
pub record IsAgreement (p v : ℕ) (x y : List Poly) (f r : Poly) : Type 0 where
  pub stored : IsStoredIn p v (less p x f (substitute (residue_ops p) y f)) r
  pub first_fits : substitution_fits (residue_ops p) x f ≡ true
  pub second_fits : substitution_fits (residue_ops p) y f ≡ true

-- and the part
abbrev pub made_at : ℕ → List Poly → Points → ℕ → Poly
made_at p fs (vanish x) k = substitute (residue_ops p) x (get_or fs k [])
made_at p fs (agree x y) k = less p x (get_or fs k []) (substitute (residue_ops p) y (get_or fs k []))
made_at p fs (give x z) k = less p x (get_or fs k []) (get_or z k [])
made_at p fs (give_both x y z) k = if nat_lt k (length fs) then less p x (get_or fs k []) (get_or z k []) else less p y (get_or fs (k - length fs) []) (get_or z (k - length fs) [])

-- all fit
abbrev pub all_fit : ℕ → List Taken → Bool
all_fit p [] = true
all_fit p (t ∷ ts) = substitution_fits (residue_ops p) t.0 t.1 && all_fit p ts

-- a polynomial in v variables that is taken at a point multiplies two monomials of these degrees: the product so far and the next factor
abbrev pub TakenMeets : ℕ → ℕ → List Poly → Poly → ℕ → ℕ → Type 0
TakenMeets p v x f m n = SubstitutionMeets (residue_ops p) (λ c. nat_lt c p) never v x f m n

-- one of them does
abbrev pub OneMeets : ℕ → ℕ → List Taken → ℕ → ℕ → Type 0
OneMeets p v [] m n = ⊥
OneMeets p v (t ∷ ts) m n = TakenMeets p v t.0 t.1 m n ⊎ OneMeets p v ts m n

-- the part at place k of what is said of polynomials, as it is stored, and its substitutions fit
pub record IsMade (p v : ℕ) (fs : List Poly) (points : Points) (k : ℕ) (f : Poly) : Type 0 where
  pub stored : IsStoredIn p v (made_at p fs points k) f
  pub fits : all_fit p (taken_at fs points k) ≡ true
