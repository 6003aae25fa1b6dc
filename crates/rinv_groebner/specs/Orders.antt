-- Orders of the monomials in some number of variables.
use Rattle.std.specs.Prelude.{◌≡◌, ◌≤◌, ℕ, List, length, IsTrue}
use Rattle.std.specs.List.{list_all}
use Rattle.std.specs.declared.cmp.Ordering.{Ordering}
use Rattle.std.specs.declared.cmp.Ordering.TheVariants.{Less, Equal}
use Rattle.rinv_algebra.specs.MonomialOrder.{MonoOrderLaws}
use Rattle.rinv_algebra.specs.Polynomial.{Polynomial}
use Rattle.rinv_algebra.specs.Normal.{is_in_variables}

-- an order of monomials in which two monomials in v variables tie only where they are equal
pub record OrdersMonomials (cmp : List ℕ → List ℕ → Ordering) (v : ℕ) : Type 0 where
  pub laws : MonoOrderLaws cmp
  pub ties : (a b : List ℕ) → length a ≡ v → length b ≡ v → cmp a b ≡ Equal → a ≡ b

-- a is less than b, both in v variables
abbrev pub IsLessIn : (List ℕ → List ℕ → Ordering) → ℕ → List ℕ → List ℕ → Type 0
IsLessIn cmp v a b = (length a ≤ v) × (length b ≤ v) × (cmp a b ≡ Less)

-- the polynomials are written in the first v variables
abbrev pub AreInVariables : {E : Type 0} → ℕ → List (Polynomial E) → Type 0
AreInVariables v fs = IsTrue (list_all (is_in_variables v) fs)
