-- Lists of exponents from place k on: what the exponents there say, and what is left to the places after it.
use Rattle.std.proofs.Common.{◌≡◌, ℕ, ◌+◌, max, List, [], ◌∷◌, drop, get_or, sum, refl, ap, ◌∙◌, arith, true}
use Rattle.std.specs.Prelude.{nat_le, ◌&&◌, ◌||◌, ◌==◌}
use Rattle.std.proofs.lemmas.Bool.Decides.{nat_tests}
use Rattle.std.proofs.lemmas.List.{drop-drop, get_or-drop}
use Rattle.std.proofs.lemmas.List.Sums.{sum_by-cons}
use Rattle.rinv_algebra.specs.Monomial.{coprime, divides, lcm}

lcm-nil : (a : List ℕ) → lcm a [] ≡ a
unfolding lcm
lcm-nil [] = refl
lcm-nil (x ∷ a) = refl

coprime-nil : (a : List ℕ) → coprime a [] ≡ true
unfolding coprime
coprime-nil [] = refl
coprime-nil (x ∷ a) = refl

-- the first exponent, and the others
coprime-first : (a b : List ℕ) → coprime a b ≡ ((get_or a 0 0 == 0 || get_or b 0 0 == 0) && coprime (drop 1 a) (drop 1 b))
unfolding coprime
coprime-first [] b = refl
coprime-first (x ∷ a) [] = grind (arith, nat_tests, coprime-nil a)
coprime-first (x ∷ a) (y ∷ b) = refl

divides-first : (a b c : List ℕ) → divides a (lcm b c) ≡ (nat_le (get_or a 0 0) (max (get_or b 0 0) (get_or c 0 0)) && divides (drop 1 a) (lcm (drop 1 b) (drop 1 c)))
unfolding divides lcm
divides-first [] b c = grind (arith, nat_tests)
divides-first (x ∷ a) [] [] = grind (arith, nat_tests)
divides-first (x ∷ a) [] (z ∷ c) = grind (arith, nat_tests)
divides-first (x ∷ a) (y ∷ b) [] = grind (arith, nat_tests, lcm-nil b)
divides-first (x ∷ a) (y ∷ b) (z ∷ c) = refl

sum-lcm-first : (a b : List ℕ) → sum (lcm a b) ≡ max (get_or a 0 0) (get_or b 0 0) + sum (lcm (drop 1 a) (drop 1 b))
unfolding lcm
sum-lcm-first [] [] = refl
sum-lcm-first [] (y ∷ b) = omega (arith, sum_by-cons (λ (n : ℕ). n) y b)
sum-lcm-first (x ∷ a) [] = rw (lcm-nil a) (omega (arith, sum_by-cons (λ (n : ℕ). n) x a))
sum-lcm-first (x ∷ a) (y ∷ b) = sum_by-cons (λ (n : ℕ). n) (max x y) (lcm a b)

head-drop : (a : List ℕ) (k : ℕ) → get_or (drop k a) 0 0 ≡ get_or a k 0
head-drop a k = let e : k + 0 ≡ k = omega arith in get_or-drop k a 0 0 ∙ ap (λ (i : ℕ). get_or a i 0) e

-- the same from place k on
pub coprime-place : (a b : List ℕ) (k : ℕ) → coprime (drop k a) (drop k b) ≡ ((get_or a k 0 == 0 || get_or b k 0 == 0) && coprime (drop (k + 1) a) (drop (k + 1) b))
coprime-place a b k = rw (← head-drop a k, ← head-drop b k, ← drop-drop 1 k a, ← drop-drop 1 k b) (coprime-first (drop k a) (drop k b))

pub divides-place : (a b c : List ℕ) (k : ℕ) → divides (drop k a) (lcm (drop k b) (drop k c)) ≡ (nat_le (get_or a k 0) (max (get_or b k 0) (get_or c k 0)) && divides (drop (k + 1) a) (lcm (drop (k + 1) b) (drop (k + 1) c)))
divides-place a b c k = rw (← head-drop a k, ← head-drop b k, ← head-drop c k, ← drop-drop 1 k a, ← drop-drop 1 k b, ← drop-drop 1 k c) (divides-first (drop k a) (drop k b) (drop k c))

pub sum-lcm-place : (a b : List ℕ) (k : ℕ) → sum (lcm (drop k a) (drop k b)) ≡ max (get_or a k 0) (get_or b k 0) + sum (lcm (drop (k + 1) a) (drop (k + 1) b))
sum-lcm-place a b k = rw (← head-drop a k, ← head-drop b k, ← drop-drop 1 k a, ← drop-drop 1 k b) (sum-lcm-first (drop k a) (drop k b))
