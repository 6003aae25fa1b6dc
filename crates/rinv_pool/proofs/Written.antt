-- A run with no terms that gets a number or loses it.
use Rattle.std.proofs.Common.{◌≡◌, ◌≢◌, ℕ, zero, suc, ◌+◌, ◌<◌, ◌≤◌, List, [], ◌∷◌, ◌++◌, set, map, length, get_or, Option, Some, None, refl, sym, ap, ◌∙◌, subst, arith, inl, inr}
use Rattle.std.proofs.lemmas.Bool.{cases_eq}
use Rattle.rinv_pool.specs.declared.slots.Chain.{Chain}
use Rattle.rinv_pool.specs.Pools.{Pool, row_at, terms_in}
use Rattle.rinv_pool.specs.Chains.{Holds, row_of}
use Rattle.rinv_pool.specs.Runs.{empty_chain, with_item}
use Rattle.rinv_pool.proofs.Numbers.{holds-changed}
use Rattle.rinv_pool.proofs.Rows.{Change, change-set, change-push, row-get, rows-number}

-- a place in the list
pub with_item-set : {A : Type 0} (xs : List A) (k : ℕ) (x : A) → k < length xs → with_item xs k x ≡ set xs k x
with_item-set [] k x inside = absurd (omega (arith, inside))
with_item-set (y ∷ xs) zero x inside = refl
with_item-set (y ∷ xs) (suc k) x inside = ap (λ ys. y ∷ ys) (with_item-set xs k x (omega (arith, inside)))

-- the next place
pub with_item-push : {A : Type 0} (xs : List A) (x : A) → with_item xs (length xs) x ≡ xs ++ x ∷ []
with_item-push [] x = refl
with_item-push (y ∷ xs) x = ap (λ ys. y ∷ ys) (with_item-push xs x)

pub with_item-next : {A : Type 0} (xs : List A) (k : ℕ) (x : A) → k ≤ length xs → length xs ≤ k → with_item xs k x ≡ xs ++ x ∷ []
with_item-next xs k x low high =
    let e : k ≡ length xs = omega (arith, low, high) in ap (λ (n : ℕ). with_item xs n x) e ∙ with_item-push xs x

module _ {T : Type 0} where
  -- the row of a number, by equations
  pub row-moved : (before old : Pool T) (r n : ℕ) (row : Option (List T)) → before ≡ old → r ≡ n → row_at old n ≡ row → row_at before r ≡ row
  row-moved before old r n row seen number here =
      ap (λ (p : Pool T). get_or p.rows r None) seen ∙ ap (λ (k : ℕ). get_or old.rows k None) number ∙ here

  pub change-with : (runs : List (Option Chain)) (rows : List (Option (List T))) (r : ℕ) (run : Option Chain) (row : Option (List T))
      → length rows ≡ length runs → r ≤ length runs → Change runs (with_item runs r run) rows (with_item rows r row) r run row
  change-with runs rows r run row same low = elim (cases_eq r (length runs)) [
    | inl next ↦ subst (λ (n : ℕ). Change runs (with_item runs n run) rows (with_item rows n row) n run row) (sym next)
        (subst (λ (xs : List (Option Chain)). Change runs xs rows (with_item rows (length runs) row) (length runs) run row) (sym (with_item-push runs run))
        (subst (λ (ys : List (Option (List T))). Change runs (runs ++ run ∷ []) rows ys (length runs) run row)
        (sym (subst (λ (n : ℕ). with_item rows n row ≡ rows ++ row ∷ []) same (with_item-push rows row)))
        (change-push runs rows run row same)))
    | inr other ↦
        let inside : r < length runs = omega (arith, low, other) in
        subst (λ (xs : List (Option Chain)). Change runs xs rows (with_item rows r row) r run row) (sym (with_item-set runs r run inside))
        (subst (λ (ys : List (Option (List T))). Change runs (set runs r run) rows ys r run row) (sym (with_item-set rows r row (omega (arith, inside, same))))
        (change-set runs rows r run row same inside))
  ]

  -- a run with no terms loses its number
  pub holds-forgotten : (next : ℕ → ℕ) (term : ℕ → Option T) (size free spare live : ℕ) (runs : List (Option Chain)) (r : ℕ)
      → Holds next term size free spare live runs (map (row_of next term) runs)
      → get_or (map (row_of next term) runs) r None ≡ Some [] → r < length runs
      → Holds next term size free spare live (set runs r None) (set (map (row_of next term) runs) r None)
  holds-forgotten next term size free spare live runs r h row inside =
      let rows = map (row_of next term) runs in
      holds-changed next term size free spare live runs (set runs r None) rows (set rows r None) r None None h
      (change-set runs rows r None None (rows-number next term runs) inside) (ap (λ (x : Option (List T)). length (terms_in x)) row) refl (λ owner rank. tt)

  -- a new run has a number
  pub holds-new : (next : ℕ → ℕ) (term : ℕ → Option T) (size free spare live : ℕ) (runs : List (Option Chain)) (r : ℕ)
      → Holds next term size free spare live runs (map (row_of next term) runs)
      → get_or runs r None ≡ None → r ≤ length runs
      → Holds next term size free spare live (with_item runs r (Some empty_chain)) (with_item (map (row_of next term) runs) r (Some []))
  holds-new next term size free spare live runs r h unused low =
      let rows = map (row_of next term) runs in
      let row : get_or rows r None ≡ None = row-get next term runs r ∙ ap (row_of next term) unused in
      holds-changed next term size free spare live runs (with_item runs r (Some empty_chain)) rows (with_item rows r (Some [])) r (Some empty_chain) (Some []) h
      (change-with runs rows r (Some empty_chain) (Some []) (rows-number next term runs) low) (ap (λ (x : Option (List T)). length (terms_in x)) row) refl (λ owner rank. (refl, tt))
