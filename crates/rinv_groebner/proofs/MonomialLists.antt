-- Divisors, quotients, least common multiples and coprimality of exponent lists, place by place and as monomials.
--   divides_at, divides_from, quotient-at, lcm-at, coprime_at    at a place
--   product-quotient     a quotient times its divisor
--   Divisor m n          m times some monomial is n
--   divisor-divides, divides-divisor    lists divide one another where their monomials do
--   lcm_left, lcm_right, lcm_least    a least common multiple
--   front_at, front_from, lcm-front, quotient-front    monomials in the first v variables
--   coprime_multiples    where two multiples of coprime monomials are equal, each has the other monomial for a factor
use Rattle.std.proofs.Common.{◌≡◌, ◌⊎◌, ℕ, zero, suc, ◌+◌, ◌-◌, ◌<◌, ◌≤◌, max, List, [], ◌∷◌, length-take, take, get_or, refl, sym, ◌∙◌, ap, arith, inl, inr, IsTrue}
use Rattle.std.specs.Prelude.{nat_le}
use Rattle.std.proofs.lemmas.Bool.{cases_Bool}
use Rattle.std.proofs.lemmas.List.{get_or-take, get_or_past}
use Rattle.std.proofs.lemmas.Bool.Decides.{nat_tests}
use mathlib.Core.Bool.{Bool-set}
use mathlib.Core.HLevel.{Σ_prop_path}
use Rattle.rinv_algebra.specs.Monomial.{monomial_product, divides, quotient, lcm, coprime}
use Rattle.rinv_algebra.proofs.MonomialLaws.{get_or-product, same_at, same_from}
use Rattle.rinv_theory.proofs.Monoid.{IsOne, Monomial, monomial, monomials, monomial_ind, monomial_sound, monomial_exact, monomial-mul}
use Rattle.rinv_theory.proofs.Places.{front-list}
use Rattle.rinv_theory.proofs.Variables.{IsFront}

-- ---- at a place

-- a divisor has no greater exponent
pub divides_at : (a b : List ℕ) → IsTrue (divides a b) → (k : ℕ) → get_or a k 0 ≤ get_or b k 0
unfolding divides
divides_at [] b h k = omega arith
divides_at (x ∷ a) [] h zero = grind (arith, nat_tests, h)
divides_at (x ∷ a) [] h (suc k) = let t : IsTrue (divides a []) = grind (arith, nat_tests, h) in divides_at a [] t k
divides_at (x ∷ a) (y ∷ b) h zero = grind (arith, nat_tests, h)
divides_at (x ∷ a) (y ∷ b) h (suc k) = let t : IsTrue (divides a b) = grind (arith, nat_tests, h) in divides_at a b t k

-- and the other way round
pub divides_from : (a b : List ℕ) → ((k : ℕ) → get_or a k 0 ≤ get_or b k 0) → IsTrue (divides a b)
unfolding divides
divides_from [] b h = refl
divides_from (x ∷ a) [] h = let z = h 0 in let t = divides_from a [] (λ k. h (suc k)) in grind (arith, nat_tests, z, t)
divides_from (x ∷ a) (y ∷ b) h = let z = h 0 in let t = divides_from a b (λ k. h (suc k)) in grind (arith, nat_tests, z, t)

-- the exponents of a quotient
pub quotient-at : (a b : List ℕ) (k : ℕ) → get_or (quotient a b) k 0 ≡ get_or a k 0 - get_or b k 0
unfolding quotient
quotient-at [] b k = omega arith
quotient-at (x ∷ a) [] k = omega arith
quotient-at (x ∷ a) (y ∷ b) zero = refl
quotient-at (x ∷ a) (y ∷ b) (suc k) = quotient-at a b k

-- the exponents of a least common multiple
pub lcm-at : (a b : List ℕ) (k : ℕ) → get_or (lcm a b) k 0 ≡ max (get_or a k 0) (get_or b k 0)
unfolding lcm
lcm-at [] b k = omega arith
lcm-at (x ∷ a) [] k = omega arith
lcm-at (x ∷ a) (y ∷ b) zero = refl
lcm-at (x ∷ a) (y ∷ b) (suc k) = lcm-at a b k

-- of two coprime monomials one has the exponent zero
pub coprime_at : (a b : List ℕ) → IsTrue (coprime a b) → (k : ℕ) → (get_or a k 0 ≡ 0) ⊎ (get_or b k 0 ≡ 0)
unfolding coprime
coprime_at [] b h k = inl refl
coprime_at (x ∷ a) [] h k = inr refl
coprime_at (x ∷ a) (y ∷ b) h zero = grind (arith, nat_tests, h)
coprime_at (x ∷ a) (y ∷ b) h (suc k) = let t : IsTrue (coprime a b) = grind (arith, nat_tests, h) in coprime_at a b t k

-- a quotient times its divisor
pub product-quotient : (a b : List ℕ) → IsTrue (divides b a) → IsOne (monomial_product (quotient a b) b) a
product-quotient a b d = same_from _ _ (λ k. let low = divides_at b a d k in get_or-product (quotient a b) b k ∙ ap (λ (x : ℕ). x + get_or b k 0) (quotient-at a b k) ∙ (omega (arith, low)))

-- ---- as monomials

-- m times some monomial is n
abbrev pub Divisor : Monomial → Monomial → Type 0
Divisor m n = (s : Monomial) × (monomials.mul s m ≡ n)

divisor_prop : (m n : Monomial) → IsProp (Divisor m n)
divisor_prop m n x y = Σ_prop_path (λ s. monomials.is_set _ _) (monomials.cancel m x.0 y.0 (monomials.mul_comm _ _ ∙ x.1 ∙ sym y.1 ∙ monomials.mul_comm _ _))

-- the monomial of a quotient completes the divisor
pub quotient_divisor : (a b : List ℕ) → IsTrue (divides b a) → monomials.mul (monomial (quotient a b)) (monomial b) ≡ monomial a
quotient_divisor a b d = sym (monomial-mul (quotient a b) b) ∙ monomial_sound _ _ (product-quotient a b d)

-- lists that divide have monomials that do
pub divides-divisor : (a b : List ℕ) → IsTrue (divides a b) → Divisor (monomial a) (monomial b)
divides-divisor a b d = (monomial (quotient b a), quotient_divisor b a d)

-- and the other way round
pub divisor-divides : (a b : List ℕ) → Divisor (monomial a) (monomial b) → IsTrue (divides a b)
divisor-divides a b (s, e) = monomial_ind (λ s. monomials.mul s (monomial a) ≡ monomial b → IsTrue (divides a b)) (λ s. hlevel Bool-set) at_list s e
  where
    at_list : (c : List ℕ) → monomials.mul (monomial c) (monomial a) ≡ monomial b → IsTrue (divides a b)
    at_list c e =
        let one : IsOne (monomial_product c a) b = monomial_exact _ _ (monomial-mul c a ∙ e) in
        divides_from a b (λ k. let s = same_at (monomial_product c a) b one k in let p = get_or-product c a k in omega (arith, s, p))

-- a least common multiple is a multiple of the first
pub lcm_left : (a b : List ℕ) → IsTrue (divides a (lcm a b))
lcm_left a b = divides_from a (lcm a b) (λ k. let e = lcm-at a b k in omega (arith, e))

-- and of the second
pub lcm_right : (a b : List ℕ) → IsTrue (divides b (lcm a b))
lcm_right a b = divides_from b (lcm a b) (λ k. let e = lcm-at a b k in omega (arith, e))

-- and divides each common multiple
pub lcm_least : (a b : List ℕ) (m s t : Monomial) → monomials.mul s (monomial a) ≡ m → monomials.mul t (monomial b) ≡ m → Divisor (monomial (lcm a b)) m
lcm_least a b m s t e f =
    monomial_ind (λ m. Divisor (monomial a) m → Divisor (monomial b) m → Divisor (monomial (lcm a b)) m) (λ m. hlevel (divisor_prop (monomial (lcm a b)) m)) at_list m (s, e) (t, f)
  where
    at_list : (c : List ℕ) → Divisor (monomial a) (monomial c) → Divisor (monomial b) (monomial c) → Divisor (monomial (lcm a b)) (monomial c)
    at_list c p q = divides-divisor (lcm a b) c (divides_from (lcm a b) c (λ k.
        let x = divides_at a c (divisor-divides a c p) k in
        let y = divides_at b c (divisor-divides b c q) k in
        let z = lcm-at a b k in omega (arith, x, y, z)))

-- a divisor of a divisor
pub divisor_trans : (l m n : Monomial) → Divisor l m → Divisor m n → Divisor l n
divisor_trans l m n (s, e) (t, f) = (monomials.mul t s, monomials.mul_assoc t s l ∙ ap (monomials.mul t) e ∙ f)

-- where two multiples of coprime monomials are equal, each has the other monomial for a factor
pub coprime_multiples : (a b : List ℕ) → IsTrue (coprime a b) → (s t : Monomial) → monomials.mul s (monomial a) ≡ monomials.mul t (monomial b) → (w : Monomial) × (monomials.mul w (monomial b) ≡ s) × (monomials.mul w (monomial a) ≡ t)
coprime_multiples a b h s t e = whole (monomial_ind (λ s. (t : Monomial) → monomials.mul s (monomial a) ≡ monomials.mul t (monomial b) → Divisor (monomial b) s) (λ s. hlevel (divisor_prop (monomial b) s)) (λ c. monomial_ind (λ t. monomials.mul (monomial c) (monomial a) ≡ monomials.mul t (monomial b) → Divisor (monomial b) (monomial c)) (λ t. hlevel (divisor_prop (monomial b) (monomial c))) (at_lists c)) s t e)
  where
    at_lists : (c d : List ℕ) → monomials.mul (monomial c) (monomial a) ≡ monomials.mul (monomial d) (monomial b) → Divisor (monomial b) (monomial c)
    at_lists c d e =
        let one : IsOne (monomial_product c a) (monomial_product d b) = monomial_exact _ _ (monomial-mul c a ∙ e ∙ sym (monomial-mul d b)) in
        divides-divisor b c (divides_from b c (λ k.
        let x = same_at _ _ one k in
        let y = get_or-product c a k in
        let z = get_or-product d b k in
        elim (coprime_at a b h k) [ inl n ↦ omega (arith, x, y, z, n) | inr n ↦ omega (arith, x, y, z, n) ]))

    -- (w*b)*a = t*b, so w*a = t
    other : (w : Monomial) → monomials.mul w (monomial b) ≡ s → monomials.mul w (monomial a) ≡ t
    other w p = monomials.cancel (monomial b) _ _ (
        sym (monomials.mul_assoc _ _ _) ∙ ap (λ x. monomials.mul x (monomial a)) (monomials.mul_comm _ _ ∙ p) ∙ e ∙ monomials.mul_comm _ _)

    whole : Divisor (monomial b) s → (w : Monomial) × (monomials.mul w (monomial b) ≡ s) × (monomials.mul w (monomial a) ≡ t)
    whole (w, p) = (w, p, other w p)

-- ---- the first v variables

-- a monomial in the first v variables has no other exponents
pub front_at : (v : ℕ) (a : List ℕ) → IsFront v (monomial a) → (k : ℕ) → v ≤ k → get_or a k 0 ≡ 0
front_at v a e k past =
    let len = length-take v a in
    same_at a (take v a) (monomial_exact a (take v a) (sym e ∙ front-list v a)) k ∙ get_or_past (take v a) k 0 (omega (arith, len, past))

-- and the other way round
pub front_from : (v : ℕ) (a : List ℕ) → ((k : ℕ) → v ≤ k → get_or a k 0 ≡ 0) → IsFront v (monomial a)
front_from v a h = front-list v a ∙ monomial_sound (take v a) a (same_from (take v a) a (λ k. elim (cases_Bool (nat_le v k)) [
  | inl high ↦
      let past : v ≤ k = grind (arith, nat_tests, high) in
      let len = length-take v a in
      get_or_past (take v a) k 0 (omega (arith, len, past)) ∙ sym (h k past)
  | inr low ↦ let inside : k < v = grind (arith, nat_tests, low) in get_or-take v a k 0 inside
]))

-- a least common multiple of two such is one
pub lcm-front : (v : ℕ) (a b : List ℕ) → IsFront v (monomial a) → IsFront v (monomial b) → IsFront v (monomial (lcm a b))
lcm-front v a b fa fb = front_from v (lcm a b) (λ k past. let x = front_at v a fa k past in let y = front_at v b fb k past in let z = lcm-at a b k in omega (arith, x, y, z))

-- and so is a quotient
pub quotient-front : (v : ℕ) (a b : List ℕ) → IsFront v (monomial a) → IsFront v (monomial (quotient a b))
quotient-front v a b fa = front_from v (quotient a b) (λ k past. let x = front_at v a fa k past in let z = quotient-at a b k in omega (arith, x, z))
