-- Chains of slots, and how the runs of a pool and its free slots divide the slots among them.
use Rattle.std.specs.Prelude.{◌≡◌, ℕ, zero, suc, ◌+◌, ◌<◌, ◌^◌, List, [], ◌∷◌, ◌++◌, length, map, get_or, Option, Some, None, option_to_list, ⊤}
use Rattle.rinv_pool.specs.Pools.{held}
use Rattle.rinv_pool.specs.declared.slots.Chain.{Chain}

-- the terms of so many slots from a place on, each behind the one before
abbrev pub terms_from : {T : Type 0} → (ℕ → ℕ) → (ℕ → Option T) → ℕ → ℕ → List T
terms_from next term zero place = []
terms_from next term (suc count) place = option_to_list (term place) ++ terms_from next term count (next place)

-- the row of a run: the terms of its chain
abbrev pub row_of : {T : Type 0} → (ℕ → ℕ) → (ℕ → Option T) → Option Chain → Option (List T)
row_of next term None = None
row_of next term (Some chain) = Some (terms_from next term chain.count chain.first)

-- so many slots without a term
abbrev pub empties : {T : Type 0} → ℕ → List (Option T)
empties zero = []
empties (suc count) = None ∷ empties count

-- from a place on, each behind the one before, stand slots with these contents. Each has this owner, and is ranked by the number of those behind it; the
-- last one is an end
abbrev pub IsChain : {T : Type 0} → (ℕ → ℕ) → (ℕ → Option T) → ℕ → (ℕ → ℕ) → (ℕ → ℕ) → (ℕ → Type 0) → ℕ → ℕ → List (Option T) → Type 0
IsChain next term size owner rank IsEnd own place [] = ⊤
IsChain next term size owner rank IsEnd own place (x ∷ xs) =
    (place < size)
    × (owner place ≡ own)
    × (rank place ≡ length xs)
    × (term place ≡ x)
    × (length xs ≡ 0 → IsEnd place)
    × IsChain next term size owner rank IsEnd own (next place) xs

-- a run's chain has the terms of its row
abbrev pub IsRow : {T : Type 0} → (ℕ → ℕ) → (ℕ → Option T) → ℕ → (ℕ → ℕ) → (ℕ → ℕ) → ℕ → Option Chain → Option (List T) → Type 0
IsRow next term size owner rank number None None = ⊤
IsRow next term size owner rank number None (Some terms) = ⊥
IsRow next term size owner rank number (Some chain) None = ⊥
IsRow next term size owner rank number (Some chain) (Some terms) =
    (length terms ≡ chain.count) × IsChain next term size owner rank (λ place. place ≡ chain.last) (suc number) chain.first (map Some terms)

-- the slots hold the terms of these rows, and the spare ones stand in a chain; no slot is in two chains, or in one twice
pub record Holds {T : Type 0} (next : ℕ → ℕ) (term : ℕ → Option T) (size free spare live : ℕ) (runs : List (Option Chain)) (rows : List (Option (List T))) : Type 0 where
  pub owner : ℕ → ℕ
  pub rank : ℕ → ℕ
  pub spares : IsChain next term size owner rank (λ _. ⊤) 0 free (empties spare)
  pub chains : (number : ℕ) → IsRow next term size owner rank number (get_or runs number None) (get_or rows number None)
  pub numbers : length rows ≡ length runs
  pub sum : live ≡ held rows
  pub whole : live + spare ≡ size
  pub few : size < 2 ^ 32
