-- Divisibility of monomials in v variables is almost full (Dickson's lemma).
--   divides_first v      no exponent of the first v is greater
--   first_full           it is almost full
--   first-divides        of a monomial in v variables it is divisibility
use Rattle.std.proofs.Common.{◌≡◌, ℕ, zero, suc, ◌≤◌, Bool, true, ◌&&◌, List, [], ◌∷◌, length, get_or, drop, refl, arith, IsTrue}
use Rattle.std.specs.Prelude.{nat_le}
use Rattle.std.proofs.lemmas.Bool.Decides.{nat_tests}
use Rattle.rinv_algebra.specs.Monomial.{divides}
use Rattle.rinv_groebner.proofs.AlmostFull.{AlmostFull, full-pullback, full-and, full-le}

-- no exponent of the first v is greater
abbrev pub divides_first : ℕ → List ℕ → List ℕ → Bool
divides_first zero a b = true
divides_first (suc v) a b = nat_le (get_or a 0 0) (get_or b 0 0) && divides_first v (drop 1 a) (drop 1 b)

-- it is almost full
pub first_full : (v : ℕ) → AlmostFull (divides_first v)
first_full zero = AlmostFull.full (λ a b. refl)
first_full (suc v) = full-and (full-pullback (λ (a : List ℕ). get_or a 0 0) full-le) (full-pullback (λ (a : List ℕ). drop 1 a) (first_full v))

-- of a monomial in v variables it is divisibility
pub first-divides : (v : ℕ) (a b : List ℕ) → length a ≤ v → divides_first v a b ≡ true → IsTrue (divides a b)
unfolding divides
first-divides v [] b low h = refl
first-divides zero (x ∷ a) b low h = absurd (omega arith)
first-divides (suc v) (x ∷ a) [] low h = let r = first-divides v a [] (omega arith) (grind (arith, nat_tests, h)) in grind (arith, nat_tests, h, r)
first-divides (suc v) (x ∷ a) (y ∷ b) low h = let r = first-divides v a b (omega arith) (grind (arith, nat_tests, h)) in grind (arith, nat_tests, h, r)
