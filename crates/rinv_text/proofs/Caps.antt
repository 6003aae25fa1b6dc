-- Products and powers of numbers that are cut off at a limit.
--   capped-product, capped-power    what is cut off before is cut off after
--   great-power, great-multiple     where an exponent is too great
use Rattle.std.proofs.Common.{◌≡◌, ℕ, zero, suc, ◌+◌, ◌*◌, ◌^◌, ◌<◌, ◌≤◌, min, refl, sym, ap, ◌∙◌, arith, inl, inr, ltb, add-one}
use Rattle.std.proofs.lemmas.Bool.{cases_Bool}
use Rattle.std.proofs.lemmas.Bool.Decides.{nat_tests}
use Rattle.std.proofs.Math.Nat.{mul-le-mul_left, mul-zero, mul_comm, pow-suc, pow-zero, pow-le-pow_left, pow-le-pow_right}

module _ (m : ℕ) where
  over : (a b : ℕ) → m < a → min (m * suc b) m ≡ min (a * suc b) m
  over a b h =
      let left : m * 1 ≤ m * suc b = mul-le-mul_left {m = 1} {n = suc b} m (omega arith) in
      let right : a * 1 ≤ a * suc b = mul-le-mul_left {m = 1} {n = suc b} a (omega arith) in
      omega arith

  -- a product of a number that is cut off
  pub capped-factor : (a b : ℕ) → min (min a m * b) m ≡ min (a * b) m
  capped-factor a zero = ap (λ x. min x m) (mul-zero (min a m) ∙ sym (mul-zero a))
  capped-factor a (suc b) = elim (cases_Bool (ltb m a)) [
    | inl e ↦ let h : m < a = grind (arith, nat_tests) in let cut : min a m ≡ m = omega arith in rw cut (over a b h)
    | inr e ↦ let within : min a m ≡ a = grind (arith, nat_tests) in rw within refl
  ]

  -- a product of two
  pub capped-product : (a b : ℕ) → min (min a m * min b m) m ≡ min (a * b) m
  capped-product a b =
      capped-factor a (min b m)
      ∙ ap (λ x. min x m) (mul_comm a (min b m))
      ∙ capped-factor b a
      ∙ ap (λ x. min x m) (mul_comm b a)

  -- one factor more
  pub capped-step : (a k : ℕ) → min (min (a ^ k) m * a) m ≡ min (a ^ (k + 1)) m
  capped-step a k = capped-factor (a ^ k) a ∙ ap (λ x. min x m) (sym (pow-suc a k) ∙ ap (λ j. a ^ j) (sym (add-one k)))

  -- a power
  pub capped-power : (a k : ℕ) → min (min a m ^ k) m ≡ min (a ^ k) m
  capped-power a zero = ap (λ x. min x m) (pow-zero (min a m) ∙ sym (pow-zero a))
  capped-power a (suc k) =
      ap (λ x. min x m) (pow-suc (min a m) k)
      ∙ sym (capped-product (min a m ^ k) (min a m))
      ∙ ap (λ x. min (x * min (min a m) m) m) (capped-power a k)
      ∙ ap (λ x. min (min (a ^ k) m * x) m) twice
      ∙ capped-product (a ^ k) a
      ∙ ap (λ x. min x m) (sym (pow-suc a k))
    where
      twice : min (min a m) m ≡ min a m
      twice = omega arith

-- ---- great exponents, of which 65 stands for all

zero-power : (k : ℕ) → 0 ^ suc k ≡ 0
zero-power k = pow-suc 0 k ∙ mul-zero (0 ^ k)

pub one-power : (k : ℕ) → 1 ^ k ≡ 1
one-power zero = refl
one-power (suc k) = let ih : 1 ^ k ≡ 1 = one-power k in pow-suc 1 k ∙ omega (arith, ih)

-- a power is then 0, 1, or above the limit
pub great-power : (a k : ℕ) → 64 < k → min (a ^ 65) 1000001 ≡ min (a ^ k) 1000001
great-power a zero h = absurd (omega arith)
great-power zero (suc k) h = ap (λ (x : ℕ). min x 1000001) (sym (zero-power k))
great-power (suc zero) (suc k) h = ap (λ (x : ℕ). min x 1000001) (sym (one-power (suc k)))
great-power (suc (suc a)) (suc k) h =
    let base : 2 ≤ suc (suc a) = omega arith in
    let some : 0 < suc (suc a) = omega arith in
    let least : 2 ^ 65 ≤ suc (suc a) ^ 65 = pow-le-pow_left base 65 in
    let more : suc (suc a) ^ 65 ≤ suc (suc a) ^ suc k = pow-le-pow_right some (omega (arith, h)) in
    both (suc (suc a) ^ 65) (suc (suc a) ^ suc k) (omega (arith, least)) (omega (arith, least, more))
  where
    both : (x y : ℕ) → 1000001 ≤ x → 1000001 ≤ y → min x 1000001 ≡ min y 1000001
    both x y e f = omega (arith, e, f)

-- so is a multiple
pub great-multiple : (d k : ℕ) → 64 < k → min (65 * d) 65 ≡ min (k * d) 65
great-multiple zero k h = let e : k * 0 ≡ 0 = mul-zero k in omega (arith, e)
great-multiple (suc d) k h =
    let left : 65 * 1 ≤ 65 * suc d = mul-le-mul_left {m = 1} {n = suc d} 65 (omega arith) in
    let right : k * 1 ≤ k * suc d = mul-le-mul_left {m = 1} {n = suc d} k (omega arith) in
    omega (arith, left, right, h)
