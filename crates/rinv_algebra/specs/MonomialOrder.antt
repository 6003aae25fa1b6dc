-- What an order of monomials is.
use Rattle.std.specs.Prelude.{◌≡◌, List, ℕ, []}
use Rattle.std.specs.Cmp.{IsTotalOrder}
use Rattle.std.specs.declared.cmp.Ordering.{Ordering}
use Rattle.std.specs.declared.cmp.Ordering.TheVariants.{Less}
use Rattle.rinv_algebra.specs.Monomial.{monomial_product}

-- the order is total, it is kept by products, and nothing is less than 1
pub record MonoOrderLaws (cmp : List ℕ → List ℕ → Ordering) : Type 0 where
  pub total : IsTotalOrder cmp
  pub kept : (a b m : List ℕ) → cmp (monomial_product a m) (monomial_product b m) ≡ cmp a b
  pub least : (a : List ℕ) → ¬ (cmp a [] ≡ Less)
