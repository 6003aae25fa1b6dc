-- How many monomials have exponents within a bound and pass a test: a number that falls at each turn of a loop.
use Rattle.std.specs.Prelude.{◌≡◌, ◌≤◌, length, IsTrue, ℕ, zero, suc, ◌+◌, Bool, not, cond, List, [], ◌∷◌}
use Rattle.std.specs.List.{list_any}
use Rattle.std.specs.Ordering.{is_ge}
use Rattle.std.specs.declared.cmp.Ordering.{Ordering}
use Rattle.rinv_algebra.specs.Monomial.{divides}
use Rattle.rinv_algebra.specs.Polynomial.{Polynomial}

-- f 0 + .. + f d
unfoldable pub sum_to : ℕ → (ℕ → ℕ) → ℕ
sum_to zero f = f zero
sum_to (suc d) f = sum_to d f + f (suc d)

-- the lists of v exponents, each at most d, that pass the test
unfoldable pub count : ℕ → ℕ → (List ℕ → Bool) → ℕ
count zero d test = cond (test []) 1 0
count (suc v) d test = sum_to d (λ k. count v d (λ e. test (k ∷ e)))

-- whether some term of f is not below e
abbrev pub reaches : {E : Type 0} → (List ℕ → List ℕ → Ordering) → Polynomial E → List ℕ → Bool
reaches cmp f e = list_any (λ t. is_ge (cmp t.0 e)) f

-- whether no monomial of the list divides e
abbrev pub is_undivided : List (List ℕ) → List ℕ → Bool
is_undivided ms e = not (list_any (λ m. divides m e) ms)

-- to a list of monomials one in v variables is added that none of them divides
pub record AddsUndivided (v : ℕ) (more ms : List (List ℕ)) : Type 0 where
  pub added : List ℕ
  pub in_variables : length added ≤ v
  pub undivided : IsTrue (is_undivided ms added)
  pub whole : more ≡ added ∷ ms
