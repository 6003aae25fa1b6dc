-- What a contract sees of a pool: the terms of each run, by its number, and the numbers of terms and of slots.
use Rattle.std.specs.Prelude.{◌≡◌, ℕ, suc, ◌+◌, ◌==◌, Bool, false, List, [], ◌∷◌, length, get_or, Option, Some, None, is_some}

-- for each run number the run's terms, first one first, or None where the number is not in use; the number of terms, of free slots and of slots
pub record Pool (T : Type 0) : Type 0 where
  pub rows : List (Option (List T))
  pub live : ℕ
  pub spare : ℕ
  pub size : ℕ

-- what a run number stands for
abbrev pub row_at : {T : Type 0} → Pool T → ℕ → Option (List T)
row_at pool number = get_or pool.rows number None

-- whether a run has the number
abbrev pub is_in_use : {T : Type 0} → Pool T → ℕ → Bool
is_in_use pool number = is_some (row_at pool number)

-- the terms of a row, none where its number is not in use
abbrev pub terms_in : {T : Type 0} → Option (List T) → List T
terms_in None = []
terms_in (Some terms) = terms

-- the terms of the run with the number
abbrev pub terms_of : {T : Type 0} → Pool T → ℕ → List T
terms_of pool number = terms_in (row_at pool number)

-- how many terms the rows have together
abbrev pub held : {T : Type 0} → List (Option (List T)) → ℕ
held [] = 0
held (row ∷ rows) = length (terms_in row) + held rows

-- how many numbers stand for something
abbrev pub used : {A : Type 0} → List (Option A) → ℕ
used [] = 0
used (None ∷ xs) = used xs
used (Some x ∷ xs) = suc (used xs)

-- how many runs are in use
abbrev pub runs_in_use : {T : Type 0} → Pool T → ℕ
runs_in_use pool = used pool.rows

-- how many runs a row is, one or none
abbrev pub runs_in : {T : Type 0} → Option (List T) → ℕ
runs_in None = 0
runs_in (Some terms) = 1

-- the row of one number becomes this one, and every other row stays
pub record Changes {T : Type 0} (before after : Pool T) (number : ℕ) (row : Option (List T)) : Type 0 where
  pub changed : row_at after number ≡ row
  pub others : (other : ℕ) → (other == number) ≡ false → row_at after other ≡ row_at before other
  pub in_use : runs_in_use after + runs_in (row_at before number) ≡ runs_in_use before + runs_in row

-- the numbers of terms and of slots stay
pub record SameCounts {T : Type 0} (before after : Pool T) : Type 0 where
  pub live : after.live ≡ before.live
  pub spare : after.spare ≡ before.spare
  pub size : after.size ≡ before.size

-- the first term of a run is taken, and its slot is free
pub record Takes {T : Type 0} (before after : Pool T) (number : ℕ) (term : T) : Type 0 where
  pub first : terms_of before number ≡ term ∷ terms_of after number
  pub rows : Changes before after number (Some (terms_of after number))
  pub live : after.live + 1 ≡ before.live
  pub spare : after.spare ≡ before.spare + 1
  pub size : after.size ≡ before.size
