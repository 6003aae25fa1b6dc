-- Polynomials in several disjoint copies of their variables.
use Rattle.std.specs.Prelude.{ℕ, ◌*◌, List, map, flat_map}
use Rattle.std.specs.List.{range_with_len}
use Rattle.rinv_algebra.specs.Polynomial.{Polynomial, past}

-- the polynomials in each of the first c copies of their v variables, copy after copy
abbrev pub copies : {E : Type 0} → ℕ → ℕ → List (Polynomial E) → List (Polynomial E)
copies c v fs = flat_map (λ j. map (past (j * v)) fs) (range_with_len 0 c)
