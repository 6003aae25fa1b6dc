-- Lists of pairs of places: which pairs stand in them.
--   listed-first, listed-later    the first pair, and those behind it
--   listed-more, listed-entry     the pairs of a journal with one entry more
--   all_pairs, all-listed, all-inside    the pairs of the first n places
use Rattle.std.proofs.Common.{◌≡◌, ◌⊎◌, ℕ, zero, suc, ◌<◌, ◌≤◌, Bool, true, false, List, [], ◌∷◌, ◌++◌, refl, sym, ◌∙◌, ap, arith, inl, inr, IsTrue, true≢false}
use Rattle.std.specs.Prelude.{◌||◌, min, max}
use Rattle.std.specs.List.{AllByRecursion}
use Rattle.std.proofs.lemmas.Bool.{cases_order}
use Rattle.std.proofs.lemmas.Bool.Decides.{nat_tests}
use Rattle.std.proofs.lemmas.List.{map-append}
use Rattle.std.proofs.lemmas.List.Folds.{list_any-append}
use Rattle.rinv_groebner.specs.Settled.{is_listed}
use Rattle.rinv_groebner.specs.Journal.{Entry, pairs_of}

-- the first pair of a list stands in it
pub listed-first : (i j : ℕ) (pairs : List (ℕ × ℕ)) → i < j → IsTrue (is_listed ((i, j) ∷ pairs) i j)
listed-first i j pairs low = let x : i ≡ min i j = omega (arith, low) in let y : j ≡ max i j = omega (arith, low) in grind (arith, nat_tests, x, y)

-- and so do those behind it
pub listed-later : (p : ℕ × ℕ) (pairs : List (ℕ × ℕ)) (i j : ℕ) → IsTrue (is_listed pairs i j) → IsTrue (is_listed (p ∷ pairs) i j)
listed-later p pairs i j h = grind (arith, nat_tests, h)

either_list : (a b : Bool) → (a ≡ true) ⊎ (b ≡ true) → (a || b) ≡ true
either_list true b h = refl
either_list false b (inl h) = absurd (true≢false (sym h))
either_list false b (inr h) = h

append-listed : (pairs more : List (ℕ × ℕ)) (i j : ℕ) → IsTrue (is_listed pairs i j) ⊎ IsTrue (is_listed more i j) → IsTrue (is_listed (pairs ++ more) i j)
append-listed pairs more i j h = list_any-append _ pairs more ∙ either_list _ _ h

entry_pairs : (journal : List Entry) (e : Entry) → pairs_of (journal ++ e ∷ []) ≡ pairs_of journal ++ (e.first, e.second) ∷ []
entry_pairs journal e = map-append (λ (e : Entry). (e.first, e.second)) journal (e ∷ [])

-- the pairs of a journal stand in it with one entry more
pub listed-more : (journal : List Entry) (e : Entry) (i j : ℕ) → IsTrue (is_listed (pairs_of journal) i j) → IsTrue (is_listed (pairs_of (journal ++ e ∷ [])) i j)
listed-more journal e i j h = ap (λ (ps : List (ℕ × ℕ)). is_listed ps i j) (entry_pairs journal e) ∙ append-listed (pairs_of journal) ((e.first, e.second) ∷ []) i j (inl h)

-- and so does that of the entry
pub listed-entry : (journal : List Entry) (e : Entry) → e.first < e.second → IsTrue (is_listed (pairs_of (journal ++ e ∷ [])) e.first e.second)
listed-entry journal e low = ap (λ (ps : List (ℕ × ℕ)). is_listed ps e.first e.second) (entry_pairs journal e) ∙ append-listed (pairs_of journal) ((e.first, e.second) ∷ []) e.first e.second (inr (listed-first e.first e.second [] low))

-- the pairs of k with the first m places
abbrev pairs_with : ℕ → ℕ → List (ℕ × ℕ)
pairs_with k zero = []
pairs_with k (suc m) = (m, k) ∷ pairs_with k m

-- the pairs of the first n places
abbrev pub all_pairs : ℕ → List (ℕ × ℕ)
all_pairs zero = []
all_pairs (suc n) = pairs_with n n ++ all_pairs n

with-listed : (k m i : ℕ) → i < m → m ≤ k → IsTrue (is_listed (pairs_with k m) i k)
with-listed k zero i low high = absurd (omega arith)
with-listed k (suc m) i low high = elim (cases_order i m) [
  | inl same ↦ ap (λ (i : ℕ). is_listed ((m, k) ∷ pairs_with k m) i k) same ∙ listed-first m k (pairs_with k m) (omega arith)
  | inr (inl below) ↦ listed-later (m, k) (pairs_with k m) i k (with-listed k m i below (omega arith))
  | inr (inr above) ↦ absurd (omega arith)
]

-- each pair of the first n places stands in them
pub all-listed : (n i j : ℕ) → i < j → j < n → IsTrue (is_listed (all_pairs n) i j)
all-listed zero i j low high = absurd (omega arith)
all-listed (suc n) i j low high = elim (cases_order j n) [
  | inl same ↦ append-listed (pairs_with n n) (all_pairs n) i j (inl (ap (λ (j : ℕ). is_listed (pairs_with n n) i j) same ∙ with-listed n n i (omega (arith, low, same)) (omega arith)))
  | inr (inl below) ↦ append-listed (pairs_with n n) (all_pairs n) i j (inr (all-listed n i j low below))
  | inr (inr above) ↦ absurd (omega arith)
]

-- two places below n, in their order
abbrev pub IsInside : ℕ → ℕ × ℕ → Type 0
IsInside n p = (p.0 < p.1) × (p.1 < n)

with-inside : (n k m : ℕ) → m ≤ k → k < n → (pairs : List (ℕ × ℕ)) → AllByRecursion (IsInside n) pairs → AllByRecursion (IsInside n) (pairs_with k m ++ pairs)
with-inside n k zero high inside pairs r = r
with-inside n k (suc m) high inside pairs r = ((omega arith, inside), with-inside n k m (omega arith) inside pairs r)

inside-from : (n m : ℕ) → m ≤ n → AllByRecursion (IsInside n) (all_pairs m)
inside-from n zero low = tt
inside-from n (suc m) low = with-inside n m m (omega arith) (omega arith) (all_pairs m) (inside-from n m (omega arith))

-- and they are such pairs
pub all-inside : (n : ℕ) → AllByRecursion (IsInside n) (all_pairs n)
all-inside n = inside-from n n (omega arith)
