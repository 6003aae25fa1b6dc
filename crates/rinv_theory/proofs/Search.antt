-- Witnesses that are known to exist are found, by search, where a test tells them.
--   Enumeration X        finite lists of elements, of which those up to some rank hold each element
--   numbers, pairs, lists    enumerations of numbers, of pairs, of lists
--   searched             an element that passes a test, where one exists
--   found_member         cofactors of a polynomial over numbers
use Rattle.std.proofs.Common.{◌≡◌, ◌⊎◌, ℕ, zero, suc, ◌+◌, ◌<◌, ◌≤◌, max, Bool, true, false, ◌&&◌, List, [], ◌∷◌, length, map, flat_map, refl, sym, ◌∙◌, ap, inl, inr, arith, true≢false}
use Rattle.std.specs.Prelude.{◌||◌, ◌==◌}
use Rattle.std.specs.List.{range_with_len, list_any}
use Rattle.std.proofs.lemmas.Bool.{eqb-true}
use Rattle.std.proofs.lemmas.List.Folds.{list_any-append}
use Rattle.std.proofs.lemmas.Bool.Decides.{nat_tests}
use mathlib.Core.Bool.{Bool-set}
use mathlib.Core.HLevel.{Σ_prop_path}
use mathlib.Core.Logic.{∥∥₁_elim, ∥∥₁_map}
use Rattle.rinv_algebra.specs.Ring.{RingOps}
use Rattle.rinv_algebra.specs.Polynomial.{Polynomial, same}
use Rattle.rinv_algebra.specs.Ideal.{combination, IsMember}
use Rattle.rinv_algebra.proofs.Same.{both, and_true}

-- ---- the least number that passes

-- a number that passes, and no smaller one does
abbrev IsLeast : (ℕ → Bool) → ℕ → Type 0
IsLeast test n = (test n ≡ true) × ((m : ℕ) → m < n → test m ≡ false)

order : (m n : ℕ) → (m < n) ⊎ (m ≡ n) ⊎ (n < m)
order zero zero = inr (inl refl)
order zero (suc n) = inl (omega arith)
order (suc m) zero = inr (inr (omega arith))
order (suc m) (suc n) = elim (order m n) [ inl h ↦ inl (omega (arith, h)) | inr (inl e) ↦ inr (inl (ap suc e)) | inr (inr h) ↦ inr (inr (omega (arith, h))) ]

one_least : (test : ℕ → Bool) (m n : ℕ) → IsLeast test m → IsLeast test n → m ≡ n
one_least test m n p q = elim (order m n) [
  | inl h ↦ absurd (true≢false (sym p.0 ∙ q.1 m h))
  | inr (inl e) ↦ e
  | inr (inr h) ↦ absurd (true≢false (sym q.0 ∙ p.1 n h))
]

least_prop : (test : ℕ → Bool) → IsProp ((n : ℕ) × IsLeast test n)
least_prop test p q = Σ_prop_path (λ n. hlevel Bool-set) (one_least test p.0 q.0 p.1 q.1)

first_from : (test : ℕ → Bool) (k more : ℕ) → ((m : ℕ) → m < k → test m ≡ false) → test (k + more) ≡ true → (n : ℕ) × IsLeast test n
first_from test k zero below e = let same : k + 0 ≡ k = omega arith in (k, (sym (ap test same) ∙ e, below))
first_from test k (suc more) below e = go (test k) refl (λ f. first_from test (k + 1) more (up f) (ap test next ∙ e))
  where
    next : (k + 1) + more ≡ k + suc more
    next = omega arith

    up : test k ≡ false → (m : ℕ) → m < k + 1 → test m ≡ false
    up f m h = elim (order m k) [ inl l ↦ below m l | inr (inl e) ↦ ap test e ∙ f | inr (inr l) ↦ absurd (omega (arith, h, l)) ]

    go : (b : Bool) → test k ≡ b → (test k ≡ false → (n : ℕ) × IsLeast test n) → (n : ℕ) × IsLeast test n
    go true t later = (k, (t, below))
    go false f later = later f

-- where some number passes, one is found
number_searched : (test : ℕ → Bool) → ∥ ((n : ℕ) × (test n ≡ true)) ∥₁ → (n : ℕ) × (test n ≡ true)
number_searched test some = let r = ∥∥₁_elim some (least_prop test) (λ p. first_from test 0 p.0 (λ m h. absurd (omega (arith, h))) (let e : 0 + p.0 ≡ p.0 = omega arith in ap test e ∙ p.1)) in (r.0, r.1.0)

-- ---- enumerations

-- the elements up to a rank are listed: a test that one of them passes, some listed one passes
pub record Enumeration (X : Type 0) : Type 0 where
  pub upto : ℕ → List X
  pub rank : X → ℕ
  pub listed : (test : X → Bool) (x : X) (n : ℕ) → rank x ≤ n → test x ≡ true → list_any test (upto n) ≡ true

or_left : (a b : Bool) → a ≡ true → (a || b) ≡ true
or_left true b e = refl
or_left false b e = absurd (true≢false (sym e))

or_right : (a b : Bool) → b ≡ true → (a || b) ≡ true
or_right true b e = refl
or_right false b e = e

any-map : {X Y : Type 0} (test : Y → Bool) (f : X → Y) (xs : List X) → list_any test (map f xs) ≡ list_any (λ x. test (f x)) xs
any-map test f [] = refl
any-map test f (x ∷ xs) = ap (λ b. test (f x) || b) (any-map test f xs)

any-flat_map : {X Y : Type 0} (test : Y → Bool) (f : X → List Y) (xs : List X) → list_any test (flat_map f xs) ≡ list_any (λ x. list_any test (f x)) xs
any-flat_map test f [] = refl
any-flat_map test f (x ∷ xs) = list_any-append test (f x) (flat_map f xs) ∙ ap (λ b. list_any test (f x) || b) (any-flat_map test f xs)

in_range : (test : ℕ → Bool) (x start count : ℕ) → start ≤ x → x < start + count → test x ≡ true → list_any test (range_with_len start count) ≡ true
in_range test x start zero low high e = absurd (omega (arith, low, high))
in_range test x start (suc count) low high e = elim (order start x) [
  | inl h ↦ or_right (test start) _ (in_range test x (start + 1) count (omega (arith, h)) (omega (arith, high)) e)
  | inr (inl i) ↦ or_left (test start) _ (ap test i ∙ e)
  | inr (inr h) ↦ absurd (omega (arith, h, low))
]

-- numbers
pub numbers : Enumeration ℕ
numbers = record { upto = λ n. range_with_len 0 (n + 1); rank = λ x. x; listed = λ test x n h e. in_range test x 0 (n + 1) (omega arith) (omega (arith, h)) e }

-- pairs
pub pairs : {X Y : Type 0} → Enumeration X → Enumeration Y → Enumeration (X × Y)
pairs c d = record {
  upto = λ n. flat_map (λ x. map (λ y. (x, y)) (d.upto n)) (c.upto n);
  rank = λ p. max (c.rank p.0) (d.rank p.1);
  listed = λ test p n h e.
      let first : c.rank p.0 ≤ n = omega (arith, h) in
      let second : d.rank p.1 ≤ n = omega (arith, h) in
      any-flat_map test _ (c.upto n) ∙ c.listed _ p.0 n first (any-map test _ (d.upto n) ∙ d.listed (λ y. test (p.0, y)) p.1 n second e);
}

-- lists
module _ {X : Type 0} (c : Enumeration X) where
  lists_of : ℕ → ℕ → List (List X)
  lists_of zero n = [] ∷ []
  lists_of (suc k) n = [] ∷ flat_map (λ x. map (λ xs. x ∷ xs) (lists_of k n)) (c.upto n)

  greatest : List X → ℕ
  greatest [] = 0
  greatest (x ∷ xs) = max (c.rank x) (greatest xs)

  list_listed : (test : List X → Bool) (xs : List X) (k n : ℕ) → length xs ≤ k → greatest xs ≤ n → test xs ≡ true → list_any test (lists_of k n) ≡ true
  unfolding lists_of greatest
  list_listed test [] zero n h g e = or_left (test []) _ e
  list_listed test [] (suc k) n h g e = or_left (test []) _ e
  list_listed test (x ∷ xs) zero n h g e = absurd (omega (arith, h))
  list_listed test (x ∷ xs) (suc k) n h g e =
      let first : c.rank x ≤ n = omega (arith, g) in
      let rest : greatest xs ≤ n = omega (arith, g) in
      or_right (test []) _ (any-flat_map test _ (c.upto n) ∙ c.listed _ x n first (any-map test _ (lists_of k n) ∙ list_listed (λ ys. test (x ∷ ys)) xs k n (omega (arith, h)) rest e))

  pub lists : Enumeration (List X)
  lists = record { upto = λ n. lists_of n n; rank = λ xs. max (length xs) (greatest xs); listed = λ test xs n h e. list_listed test xs n n (omega (arith, h)) (omega (arith, h)) e }

-- an element of a list that passes
passes : {X : Type 0} (test : X → Bool) (xs : List X) → list_any test xs ≡ true → (x : X) × (test x ≡ true)
passes test [] e = absurd (true≢false (sym e))
passes {X} test (x ∷ xs) e = go (test x) refl e (passes test xs)
  where
    go : (b : Bool) → test x ≡ b → (b || list_any test xs) ≡ true → (list_any test xs ≡ true → (x : X) × (test x ≡ true)) → (x : X) × (test x ≡ true)
    go true t e later = (x, t)
    go false t e later = later e

-- where some element passes, one is found
pub searched : {X : Type 0} → Enumeration X → (test : X → Bool) → ∥ ((x : X) × (test x ≡ true)) ∥₁ → (x : X) × (test x ≡ true)
searched c test some = let r = number_searched (λ n. list_any test (c.upto n)) (∥∥₁_map some (λ p. (c.rank p.0, c.listed test p.0 (c.rank p.0) (omega arith) p.1))) in passes test (c.upto r.0) r.1

-- polynomials over numbers
pub formal_sums : Enumeration (Polynomial ℕ)
formal_sums = lists (pairs (lists numbers) numbers)

-- cofactors, where a polynomial has some
pub found_member : (o : RingOps ℕ) (fs : List (Polynomial ℕ)) (f : Polynomial ℕ) → ∥ IsMember o fs f ∥₁ → IsMember o fs f
found_member o fs f some =
    let r = searched (lists formal_sums) (λ us. (length us == length fs) && same o f (combination o us fs)) (∥∥₁_map some (λ m. (m.cofactors, and_true _ _ (equal _ _ m.as_many) m.sums_up))) in
    let parts = both (length r.0 == length fs) _ r.1 in
    record { cofactors = r.0; as_many = eqb-true _ _ parts.0; sums_up = parts.1 }
  where
    equal : (a b : ℕ) → a ≡ b → (a == b) ≡ true
    equal a b e = grind (arith, nat_tests)
