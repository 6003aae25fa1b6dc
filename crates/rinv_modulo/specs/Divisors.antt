-- The polynomials modulo which is computed, and what is asked of powers, terms and values modulo them.
--   IsPart, AreDivisorsOf                       polynomials as they are stored, and divisors of a list of them
--   StandsForTimes, StandsForTerm, StandsForValue    what stands for a power, for a term's value, and for a value
use Rattle.std.specs.Prelude.{ℕ, List, nat_lt, replicate}
use Rattle.rinv_algebra.specs.Residue.{residue_ops}
use Rattle.rinv_algebra.specs.Order.{grevlex}
use Rattle.rinv_algebra.specs.Polynomial.{Polynomial, constant, poly_ops}
use Rattle.rinv_algebra.specs.Normal.{IsNormal}
use Rattle.rinv_algebra.specs.Value.{factors, substitute, times_all}
use Rattle.rinv_div.specs.declared.divisors.Divisor.{Divisor}
use Rattle.rinv_div.specs.Divisors.{AreDivisors}
use Rattle.rinv_modulo.specs.Congruence.{StandsFor}

-- a polynomial in v variables over the residues modulo p, as it is stored
abbrev pub IsPart : (p v : ℕ) → Polynomial ℕ → Type 0
IsPart p v f = IsNormal (residue_ops p) (λ c. nat_lt c p) v f

-- the divisors of such polynomials, in the degree order
abbrev pub AreDivisorsOf : {R : Type 0} → (p v : ℕ) → List (Polynomial ℕ) → List (Divisor R ℕ) → Type 0
AreDivisorsOf p v hs ds = AreDivisors (residue_ops p) (λ c. nat_lt c p) v grevlex hs ds

-- r stands for f times a power of the factor
abbrev pub StandsForTimes : (p v : ℕ) → List (Polynomial ℕ) → (f factor : Polynomial ℕ) → ℕ → Polynomial ℕ → Type 0
StandsForTimes p v hs f factor exponent r = StandsFor p v hs (times_all (poly_ops (residue_ops p)) f (replicate exponent factor)) r

-- r stands for the value of a term at the images
abbrev pub StandsForTerm : (p v : ℕ) → List (Polynomial ℕ) → List (Polynomial ℕ) → List ℕ → ℕ → Polynomial ℕ → Type 0
StandsForTerm p v hs images mono coefficient r = StandsFor p v hs (times_all (poly_ops (residue_ops p)) (constant (residue_ops p) coefficient) (factors images mono)) r

-- r stands for the value of f at the images
abbrev pub StandsForValue : (p v : ℕ) → List (Polynomial ℕ) → List (Polynomial ℕ) → (f r : Polynomial ℕ) → Type 0
StandsForValue p v hs images f r = StandsFor p v hs (substitute (residue_ops p) images f) r
