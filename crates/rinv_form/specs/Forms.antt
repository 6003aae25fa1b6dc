-- What is stored of plain values that have a form.
use Rattle.std.specs.Prelude.{ℕ, List, [], ◌∷◌, length, Bool, not, ◌&&◌, ◌==◌, nat_lt, nat_le, if◌then◌else◌, Option, Some, None}
use Rattle.std.specs.List.{list_all}
use Rattle.rinv_algebra.specs.Residue.{residue_ops}
use Rattle.rinv_algebra.specs.Monomial.{total_degree, max_degree}
use Rattle.rinv_algebra.specs.Polynomial.{Term, is_zero}
use Rattle.rinv_algebra.specs.Normal.{is_normal}
use Rattle.rinv_defs.specs.System.{Poly}
use Rattle.rinv_defs.specs.Invariant.{Fraction}

-- the value, where the test holds
abbrev pub kept : {A : Type 0} → Bool → A → Option A
kept b x = if b then Some x else None

-- a stored value before others, where there are both
abbrev pub before : {A : Type 0} → Option A → Option (List A) → Option (List A)
before None xs = None
before (Some x) None = None
before (Some x) (Some xs) = Some (x ∷ xs)

-- what is stored of each element, where something is of all
unfoldable pub each_stored : {A B : Type 0} → (A → Option B) → List A → Option (List B)
each_stored f [] = Some []
each_stored f (x ∷ xs) = before (f x) (each_stored f xs)

-- a term with an exponent for each of v variables, whose degree is within the limit
abbrev pub is_written_term : ℕ → Term ℕ → Bool
is_written_term v t = length t.0 == v && nat_le (total_degree t.0) max_degree

-- a polynomial over the field of p elements in v variables, in the form in which it is stored
abbrev pub is_stored : ℕ → ℕ → Poly → Bool
is_stored p v f = is_normal (residue_ops p) (λ c. nat_lt c p) v f

-- so many of them
abbrev pub are_stored : ℕ → ℕ → ℕ → List Poly → Bool
are_stored p v count fs = length fs == count && list_all (is_stored p v) fs

-- two of them, of which the second is not zero
abbrev pub is_stored_fraction : ℕ → ℕ → Fraction → Bool
is_stored_fraction p v f = is_stored p v f.0 && (is_stored p v f.1 && not (is_zero (residue_ops p) f.1))
