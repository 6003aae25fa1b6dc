-- Monomials by places: those of the first k variables, and of the variables past them.
--   front k m, back k m  the part of m in the first k variables; the part past them, with its variables counted from 0
--   behind k m           m with its variables counted from k
--   front-list, back-list, behind-list    at exponent lists
--   front-mul, back-mul, behind-mul    these are maps of monoids
--   front_behind         a monomial is the product of its parts
use Rattle.std.proofs.Common.{◌≡◌, ℕ, ◌+◌, ◌-◌, ◌<◌, ◌≤◌, Bool, true, false, cond, List, ◌++◌, length, length-take, take, drop, replicate, get_or, refl, sym, ap, ap₂, ◌∙◌, arith, inl, inr}
use Rattle.std.specs.Prelude.{nat_lt}
use Rattle.std.proofs.lemmas.Bool.{cases_Bool}
use Rattle.std.proofs.lemmas.Bool.Decides.{nat_tests}
use Rattle.std.proofs.lemmas.List.{get_or-take, get_or-drop, get_or_append_left, get_or-append-add, get_or-replicate, get_or_past, length-replicate}
use Rattle.rinv_algebra.specs.Monomial.{monomial_product}
use Rattle.rinv_algebra.proofs.MonomialLaws.{get_or-product, same_at, same_from}
use Rattle.rinv_theory.proofs.Quotient.{on_one}
use Rattle.rinv_theory.proofs.Monoid.{IsOne, Monomial, monomial, monomials, monomial_ind, monomial_sound, monomial-mul}

-- the exponent at a place of the first k, of those past them, and of a list moved up by k
take-at : (k : ℕ) (a : List ℕ) (j : ℕ) → get_or (take k a) j 0 ≡ cond (nat_lt j k) (get_or a j 0) 0
take-at k a j = elim (cases_Bool (nat_lt j k)) [
  | inl low ↦ rw low (get_or-take k a j 0 (grind (arith, nat_tests, low)))
  | inr high ↦ rw high (get_or_past (take k a) j 0 (grind (arith, nat_tests, high, length-take)))
]

drop-at : (k : ℕ) (a : List ℕ) (j : ℕ) → get_or (drop k a) j 0 ≡ get_or a (k + j) 0
drop-at k a j = get_or-drop k a j 0

past-at : (k : ℕ) (a : List ℕ) (j : ℕ) → get_or (replicate k 0 ++ a) j 0 ≡ cond (nat_lt j k) 0 (get_or a (j - k) 0)
past-at k a j = elim (cases_Bool (nat_lt j k)) [
  | inl low ↦
      let inside : j < k = grind (arith, nat_tests, low) in
      let long : j < length (replicate k 0) = omega (arith, inside, length-replicate {A = ℕ} k 0) in
      rw low (get_or_append_left (replicate k 0) a 0 j long ∙ get_or-replicate k j 0 0 inside)
  | inr high ↦
      let outside : k ≤ j = grind (arith, nat_tests, high) in
      let e : length (replicate k 0) + (j - k) ≡ j = omega (arith, outside, length-replicate {A = ℕ} k 0) in
      rw high (ap (λ (n : ℕ). get_or (replicate k 0 ++ a) n 0) (sym e) ∙ get_or-append-add (replicate k 0) a (j - k) 0)
]

-- lists that are one monomial have parts that are so
take_same : (k : ℕ) (a b : List ℕ) → IsOne a b → IsOne (take k a) (take k b)
take_same k a b e = same_from _ _ (λ j. take-at k a j ∙ ap (λ (n : ℕ). cond (nat_lt j k) n 0) (same_at a b e j) ∙ sym (take-at k b j))

drop_same : (k : ℕ) (a b : List ℕ) → IsOne a b → IsOne (drop k a) (drop k b)
drop_same k a b e = same_from _ _ (λ j. drop-at k a j ∙ same_at a b e (k + j) ∙ sym (drop-at k b j))

past_same : (k : ℕ) (a b : List ℕ) → IsOne a b → IsOne (replicate k 0 ++ a) (replicate k 0 ++ b)
past_same k a b e = same_from _ _ (λ j. past-at k a j ∙ ap (λ (n : ℕ). cond (nat_lt j k) 0 n) (same_at a b e (j - k)) ∙ sym (past-at k b j))

-- the parts of a product are the products of the parts
take-product : (k : ℕ) (a b : List ℕ) → IsOne (take k (monomial_product a b)) (monomial_product (take k a) (take k b))
take-product k a b = same_from _ _ (λ j.
    take-at k (monomial_product a b) j ∙ ap (λ (n : ℕ). cond (nat_lt j k) n 0) (get_or-product a b j) ∙ go (nat_lt j k) (get_or a j 0) (get_or b j 0)
    ∙ ap₂ ◌+◌ (sym (take-at k a j)) (sym (take-at k b j)) ∙ sym (get_or-product (take k a) (take k b) j))
  where
    go : (t : Bool) (x y : ℕ) → cond t (x + y) 0 ≡ cond t x 0 + cond t y 0
    go true x y = refl
    go false x y = omega arith

drop-product : (k : ℕ) (a b : List ℕ) → IsOne (drop k (monomial_product a b)) (monomial_product (drop k a) (drop k b))
drop-product k a b = same_from _ _ (λ j.
    drop-at k (monomial_product a b) j ∙ get_or-product a b (k + j) ∙ ap₂ ◌+◌ (sym (drop-at k a j)) (sym (drop-at k b j)) ∙ sym (get_or-product (drop k a) (drop k b) j))

past-product : (k : ℕ) (a b : List ℕ) → IsOne (replicate k 0 ++ monomial_product a b) (monomial_product (replicate k 0 ++ a) (replicate k 0 ++ b))
past-product k a b = same_from _ _ (λ j.
    past-at k (monomial_product a b) j ∙ ap (λ (n : ℕ). cond (nat_lt j k) 0 n) (get_or-product a b (j - k)) ∙ go (nat_lt j k) (get_or a (j - k) 0) (get_or b (j - k) 0)
    ∙ ap₂ ◌+◌ (sym (past-at k a j)) (sym (past-at k b j)) ∙ sym (get_or-product (replicate k 0 ++ a) (replicate k 0 ++ b) j))
  where
    go : (t : Bool) (x y : ℕ) → cond t 0 (x + y) ≡ cond t 0 x + cond t 0 y
    go true x y = omega arith
    go false x y = refl

take_past : (k : ℕ) (a : List ℕ) → IsOne (monomial_product (take k a) (replicate k 0 ++ drop k a)) a
take_past k a = same_from _ _ (λ j.
    get_or-product (take k a) (replicate k 0 ++ drop k a) j ∙ ap₂ ◌+◌ (take-at k a j) (past-at k (drop k a) j ∙ ap (λ (n : ℕ). cond (nat_lt j k) 0 n) (drop-at k a (j - k)))
    ∙ go j (nat_lt j k) refl)
  where
    go : (j : ℕ) (t : Bool) → nat_lt j k ≡ t → cond t (get_or a j 0) 0 + cond t 0 (get_or a (k + (j - k)) 0) ≡ get_or a j 0
    go j true e = omega arith
    go j false e = let at : k + (j - k) ≡ j = grind (arith, nat_tests, e) in ap (λ (n : ℕ). 0 + get_or a n 0) at ∙ (omega arith)

-- a map of exponent lists, as one of monomials
module _ (f : List ℕ → List ℕ) (f_same : (a b : List ℕ) → IsOne a b → IsOne (f a) (f b)) where
  on_lists : Monomial → Monomial
  on_lists m = on_one f f_same m

  on_lists-list : (a : List ℕ) → on_lists (monomial a) ≡ monomial (f a)
  unfolding on_lists monomial
  on_lists-list a = refl

  on_lists-mul : ((a b : List ℕ) → IsOne (f (monomial_product a b)) (monomial_product (f a) (f b))) → (m n : Monomial) → on_lists (monomials.mul m n) ≡ monomials.mul (on_lists m) (on_lists n)
  on_lists-mul h m n =
      monomial_ind (λ m. on_lists (monomials.mul m n) ≡ monomials.mul (on_lists m) (on_lists n)) (λ m. monomials.is_set _ _)
      (λ a. monomial_ind (λ n. on_lists (monomials.mul (monomial a) n) ≡ monomials.mul (on_lists (monomial a)) (on_lists n)) (λ n. monomials.is_set _ _)
      (λ b. ap on_lists (sym (monomial-mul a b)) ∙ on_lists-list _ ∙ monomial_sound _ _ (h a b) ∙ monomial-mul (f a) (f b) ∙ ap₂ monomials.mul (sym (on_lists-list a)) (sym (on_lists-list b))) n) m

module _ (k : ℕ) where
  -- the part in the first k variables
  pub front : Monomial → Monomial
  front m = on_lists (take k) (take_same k) m

  -- the part past them, with its variables counted from 0
  pub back : Monomial → Monomial
  back m = on_lists (drop k) (drop_same k) m

  -- the monomial with its variables counted from k
  pub behind : Monomial → Monomial
  behind m = on_lists (λ a. replicate k 0 ++ a) (past_same k) m

  -- at a list: its first k exponents
  pub front-list : (a : List ℕ) → front (monomial a) ≡ monomial (take k a)
  unfolding front
  front-list a = on_lists-list (take k) (take_same k) a

  -- at a list: the exponents past them
  pub back-list : (a : List ℕ) → back (monomial a) ≡ monomial (drop k a)
  unfolding back
  back-list a = on_lists-list (drop k) (drop_same k) a

  -- at a list: k zeros before it
  pub behind-list : (a : List ℕ) → behind (monomial a) ≡ monomial (replicate k 0 ++ a)
  unfolding behind
  behind-list a = on_lists-list (λ a. replicate k 0 ++ a) (past_same k) a

  -- the front of a product
  pub front-mul : (m n : Monomial) → front (monomials.mul m n) ≡ monomials.mul (front m) (front n)
  unfolding front
  front-mul m n = on_lists-mul (take k) (take_same k) (take-product k) m n

  -- the back of a product
  pub back-mul : (m n : Monomial) → back (monomials.mul m n) ≡ monomials.mul (back m) (back n)
  unfolding back
  back-mul m n = on_lists-mul (drop k) (drop_same k) (drop-product k) m n

  -- a product with its variables counted from k
  pub behind-mul : (m n : Monomial) → behind (monomials.mul m n) ≡ monomials.mul (behind m) (behind n)
  unfolding behind
  behind-mul m n = on_lists-mul (λ a. replicate k 0 ++ a) (past_same k) (past-product k) m n

  -- a monomial is the product of its parts
  pub front_behind : (m : Monomial) → monomials.mul (front m) (behind (back m)) ≡ m
  front_behind = monomial_ind (λ m. monomials.mul (front m) (behind (back m)) ≡ m) (λ m. monomials.is_set _ _) (λ a.
      ap₂ monomials.mul (front-list a) (ap behind (back-list a) ∙ behind-list (drop k a)) ∙ sym (monomial-mul _ _) ∙ monomial_sound _ _ (take_past k a))
