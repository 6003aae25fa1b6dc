-- Tests of ranges of numbers, one after another; and the pairs of entries.
use Rattle.std.proofs.Common.{◌≡◌, ℕ, suc, ◌+◌, ◌-◌, ◌<◌, ◌≤◌, List, [], ◌∷◌, ◌++◌, map, Bool, true, false, ◌&&◌, ◌||◌, ◌==◌, min, max, if◌then◌else◌, refl, sym, ap, ap₂, ◌∙◌, arith}
use Rattle.std.proofs.lemmas.Bool.Decides.{nat_tests}
use Rattle.std.specs.List.{list_all, range_with_len, flat_map}
use Rattle.std.proofs.lemmas.List.Folds.{list_any-append, list_all-append, list_all-map}
use Rattle.std.proofs.Math.Bool.{or_comm, or-false}
use Rattle.rinv_defs.specs.Certificate.{PairItem}
use Rattle.rinv_defs.specs.PairConditions.{places, is_paired}
use Rattle.rinv_basis_check.specs.Listed.{ArePairsOf}

range-step : (i j : ℕ) → i < j → range_with_len i (j - i) ≡ i ∷ range_with_len (i + 1) (j - (i + 1))
range-step i j h = let e : j - i ≡ suc (j - (i + 1)) = omega (arith, h) in rw e refl

range-end : (i j : ℕ) → j ≤ i → range_with_len i (j - i) ≡ []
range-end i j h = let e : j - i ≡ 0 = omega (arith, h) in rw e refl

pub all-more : (q : ℕ → Bool) (i j : ℕ) → i < j → q i ≡ true → list_all q (range_with_len (i + 1) (j - (i + 1))) ≡ list_all q (range_with_len i (j - i))
all-more q i j h is = rw (range-step i j h, is) refl

pub all-stops : (q : ℕ → Bool) (i j : ℕ) → i < j → q i ≡ false → list_all q (range_with_len i (j - i)) ≡ false
all-stops q i j h is = rw (range-step i j h, is) refl

pub all-end : (q : ℕ → Bool) (i j : ℕ) → j ≤ i → list_all q (range_with_len i (j - i)) ≡ true
all-end q i j h = rw (range-end i j h) refl

-- a test of all pairs, from those with the second place j + 1 on
abbrev pub pairs_from : ℕ → ℕ → List (ℕ × ℕ)
pairs_from j count = flat_map (λ j. map (λ i. (i, j)) (range_with_len 1 (j - 1))) (range_with_len (j + 1) (count - j))

split : (p : ℕ × ℕ → Bool) (j count : ℕ) → j < count → list_all p (pairs_from j count) ≡ (list_all (λ i. p (i, j + 1)) (range_with_len 1 (j + 1 - 1)) && list_all p (pairs_from (j + 1) count))
split p j count h =
    let e : count - j ≡ suc (count - (j + 1)) = omega (arith, h) in
    rw e (list_all-append p (map (λ i. (i, j + 1)) (range_with_len 1 (j + 1 - 1))) (pairs_from (j + 1) count) ∙ ap (λ b. b && list_all p (pairs_from (j + 1) count)) (list_all-map p (λ i. (i, j + 1)) (range_with_len 1 (j + 1 - 1))))

pub pairs-more : (p : ℕ × ℕ → Bool) (j count : ℕ) → j < count → list_all (λ i. p (i, j + 1)) (range_with_len 1 (j + 1 - 1)) ≡ true → list_all p (pairs_from (j + 1) count) ≡ list_all p (pairs_from j count)
pairs-more p j count h is = sym (split p j count h ∙ ap (λ b. b && list_all p (pairs_from (j + 1) count)) is)

pub pairs-stop : (p : ℕ × ℕ → Bool) (j count : ℕ) → j < count → list_all (λ i. p (i, j + 1)) (range_with_len 1 (j + 1 - 1)) ≡ false → list_all p (pairs_from j count) ≡ false
pairs-stop p j count h is = split p j count h ∙ ap (λ b. b && list_all p (pairs_from (j + 1) count)) is

pub pairs-end : (p : ℕ × ℕ → Bool) (j count : ℕ) → count ≤ j → list_all p (pairs_from j count) ≡ true
pairs-end p j count h = let e : count - j ≡ 0 = omega (arith, h) in rw e refl

same_test : (a b : ℕ) → (a == b) ≡ (b == a)
same_test a b = grind (arith, nat_tests)

-- one pair more, and one entry more
pub one_more_pair : (pairs : List (ℕ × ℕ)) (entries : List PairItem) (e : PairItem) (i j : ℕ) → places e ≡ (i, j) → ArePairsOf pairs entries → ArePairsOf (pairs ++ (i, j) ∷ []) (e ∷ entries)
one_more_pair pairs entries e i j is same a b =
    list_any-append (λ p. min a b == p.0 && max a b == p.1) pairs ((i, j) ∷ [])
    ∙ ap (λ q. q || (min a b == i && max a b == j || false)) (same a b)
    ∙ or_comm (is_paired entries a b) _
    ∙ ap (λ q. q || is_paired entries a b) (or-false (min a b == i && max a b == j) ∙ ap₂ (λ x y. x && y) (same_test (min a b) i) (same_test (max a b) j) ∙ ap (λ (p : ℕ × ℕ). p.0 == min a b && p.1 == max a b) (sym is))

-- what is put in as new stands last
pub fresh-last : (is_there : Bool) (keys now : List (ℕ × ℕ)) (p q : ℕ × ℕ) → keys ≡ now → p ≡ q → is_there ≡ false → (if is_there then keys else keys ++ p ∷ []) ≡ now ++ q ∷ []
fresh-last is_there keys now p q same this fresh = rw (fresh, same, this) refl
