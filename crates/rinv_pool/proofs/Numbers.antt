-- Run numbers: how many are in use, and a run that comes or goes with no terms.
use Rattle.std.proofs.Common.{◌≡◌, ◌≢◌, ℕ, zero, suc, ◌+◌, ◌<◌, ◌≤◌, true, false, true≢false, List, [], ◌∷◌, length, map, drop, get_or, Option, Some, None, is_some, refl, sym, ap, ◌∙◌, subst, arith}
use Rattle.rinv_pool.specs.declared.slots.Chain.{Chain}
use Rattle.rinv_pool.specs.Pools.{held, terms_in, used}
use Rattle.rinv_pool.specs.Chains.{Holds, IsRow, row_of}
use Rattle.rinv_pool.proofs.Rows.{Change, at-each}

add-one-of : (k : ℕ) → suc k ≡ k + 1
add-one-of k = omega arith

-- past the end of a list no number is in use
pub none-past : {A : Type 0} (xs : List (Option A)) (k : ℕ) → length xs ≤ k → get_or xs k None ≡ None
none-past [] k past = refl
none-past (x ∷ xs) zero past = absurd (omega (arith, past))
none-past (x ∷ xs) (suc k) past = none-past xs k (omega (arith, past))

-- a number in use is one of those from there on
pub used-drop : {A : Type 0} (xs : List (Option A)) (k : ℕ) → is_some (get_or xs k None) ≡ true → used (drop k xs) ≡ suc (used (drop (suc k) xs))
used-drop [] k some = absurd (true≢false (sym some))
used-drop (None ∷ xs) zero some = absurd (true≢false (sym some))
used-drop (Some x ∷ xs) zero some = refl
used-drop (x ∷ xs) (suc k) some = used-drop xs k some

-- as many are in use from a place on as there are, without one before it
pub used-next : {A : Type 0} (xs : List (Option A)) (k : ℕ) → is_some (get_or xs k None) ≡ true → k + used (drop k xs) ≡ used xs → (k + 1) + used (drop (k + 1) xs) ≡ used xs
used-next xs k some h =
    let e : used (drop k xs) ≡ suc (used (drop (suc k) xs)) = used-drop xs k some in
    subst (λ (n : ℕ). n + used (drop n xs) ≡ used xs) (add-one-of k) (omega (arith, e, h))

pub inside-used : {A : Type 0} (xs : List (Option A)) (k : ℕ) → is_some (get_or xs k None) ≡ true → k < length xs
inside-used [] k some = absurd (true≢false (sym some))
inside-used (x ∷ xs) zero some = omega arith
inside-used (x ∷ xs) (suc k) some = let e : k < length xs = inside-used xs k some in omega (arith, e)

module _ {T : Type 0} where
  -- as many rows are there as runs
  pub used-rows : (next : ℕ → ℕ) (term : ℕ → Option T) (runs : List (Option Chain)) → used (map (row_of next term) runs) ≡ used runs
  used-rows next term [] = refl
  used-rows next term (None ∷ runs) = used-rows next term runs
  used-rows next term (Some c ∷ runs) = ap suc (used-rows next term runs)

  -- a run comes or goes, which had or has no terms: the slots stay
  pub holds-changed : (next : ℕ → ℕ) (term : ℕ → Option T) (size free spare live : ℕ) (runs runs' : List (Option Chain)) (rows rows' : List (Option (List T))) (r : ℕ) (run : Option Chain) (row : Option (List T))
      → Holds next term size free spare live runs rows
      → Change runs runs' rows rows' r run row
      → length (terms_in (get_or rows r None)) ≡ 0 → length (terms_in row) ≡ 0
      → ((owner rank : ℕ → ℕ) → IsRow next term size owner rank r run row)
      → Holds next term size free spare live runs' rows'
  holds-changed next term size free spare live runs runs' rows rows' r run row h change before after here = record {
    owner = h.owner;
    rank = h.rank;
    spares = h.spares;
    chains = at-each (IsRow next term size h.owner h.rank) runs runs' rows rows' r run row change (here h.owner h.rank) (λ k other. h.chains k);
    numbers = change.numbers;
    sum = let total : held rows' + length (terms_in (get_or rows r None)) ≡ held rows + length (terms_in row) = change.total in
        let sum : live ≡ held rows = h.sum in omega (arith, total, sum, before, after);
    whole = h.whole;
    few = h.few;
  }
