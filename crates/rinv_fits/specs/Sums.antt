-- The degrees that sums of products of polynomials over the field of p elements meet.
use Rattle.std.specs.Prelude.{ℕ, List, nat_lt}
use Rattle.rinv_algebra.specs.Residue.{residue_ops}
use Rattle.rinv_defs.specs.System.{Poly}
use Rattle.rinv_sub.specs.Refusal.{CombinationMeets, never}

-- us times fs, place by place, in v variables meet these degrees
abbrev pub SumsMeet : (p v : ℕ) → (us fs : List Poly) → ℕ → ℕ → Type 0
SumsMeet p v us fs x y = CombinationMeets (residue_ops p) (λ c. nat_lt c p) never v us fs x y
