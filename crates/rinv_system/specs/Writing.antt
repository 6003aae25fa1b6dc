-- What is said of polynomials that are written.
use Rattle.std.specs.Prelude.{◌≡◌, ℕ, List, ◌++◌, length, codes, nat_lt, All, IsTrue}
use Rattle.rinv_algebra.specs.Residue.{is_listed, residue_ops}
use Rattle.rinv_algebra.specs.Normal.{IsNormal}
use Rattle.rinv_defs.specs.System.{Poly}
use Rattle.rinv_system.specs.Written.{polynomials_text, line_text}

-- each monomial has so many exponents
abbrev pub AreOver : ℕ → Poly → Type 0
AreOver v f = All (λ t. length t.0 ≡ v) f

-- P holds of each field over which the polynomials are stored, in v variables
abbrev pub WhereAllStored : ℕ → List Poly → (ℕ → Type 0) → Type 0
WhereAllStored v fs P = (p : ℕ) → IsTrue (is_listed p) → All (IsNormal (residue_ops p) (λ c. nat_lt c p) v) fs → P p

-- the list of polynomials was put behind the old bytes
abbrev pub AppendsPolynomials : List (List ℕ) → List Poly → List ℕ → List ℕ → Type 0
AppendsPolynomials names fs old new = WhereAllStored (length names) fs (λ p. new ≡ old ++ polynomials_text p names fs)

-- its line was put behind the old bytes
abbrev pub AppendsPolynomialsLine : List ℕ → List (List ℕ) → List Poly → List ℕ → List ℕ → Type 0
AppendsPolynomialsLine word names fs old new = WhereAllStored (length names) fs (λ p. new ≡ old ++ (line_text word (polynomials_text p names fs) ++ codes "\n"))
