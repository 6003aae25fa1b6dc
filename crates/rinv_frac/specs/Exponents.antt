-- The least exponent of a variable.
use Rattle.std.specs.Prelude.{ℕ, ◌≤◌, List, All, slice_index}
use Rattle.rinv_algebra.specs.Polynomial.{Polynomial}

-- x is the least exponent of the variable at place k in the monomial and in the terms of f and g
pub record IsLeast (first : List ℕ) (f g : Polynomial ℕ) (k x : ℕ) : Type 0 where
  pub in_first : x ≤ slice_index first k
  pub in_left : All (λ t. x ≤ slice_index t.0 k) f
  pub in_right : All (λ t. x ≤ slice_index t.0 k) g
  pub greatest : (m : ℕ) → m ≤ slice_index first k → All (λ t. m ≤ slice_index t.0 k) f → All (λ t. m ≤ slice_index t.0 k) g → m ≤ x
