-- Places of a monomial among terms from the greatest down.
use Rattle.std.specs.Prelude.{◌≡◌, ◌<◌, ◌≤◌, ◌+◌, ℕ, List, ◌∷◌, ◌++◌, length, take, drop, get_or, All, if◌then◌else◌}
use Rattle.std.specs.declared.cmp.Ordering.TheVariants.{Less}
use Rattle.rinv_algebra.specs.Residue.{residue_ops}
use Rattle.rinv_algebra.specs.Order.{grevlex}
use Rattle.rinv_algebra.specs.Polynomial.{is_zero}
use Rattle.rinv_defs.specs.Invariant.{Fraction}
use Rattle.rinv_defs.specs.Extended.{FractionPoly}

-- the term at place k has the monomial
pub record IsThere (m : List ℕ) (f : FractionPoly) (k : ℕ) : Type 0 where
  pub inside : k < length f
  pub same : (t : List ℕ × Fraction) → (get_or f k t).0 ≡ m

-- the terms before place k are above the monomial, and those from there on are below it
pub record IsGap (m : List ℕ) (f : FractionPoly) (k : ℕ) : Type 0 where
  pub inside : k ≤ length f
  pub above : All (λ t. grevlex m t.0 ≡ Less) (take k f)
  pub below : All (λ t. grevlex t.0 m ≡ Less) (drop k f)

-- f with the term t at place k, or nothing there where its fraction is zero
abbrev pub with_sum : ℕ → FractionPoly → ℕ → List ℕ × Fraction → FractionPoly
with_sum p f k t = take k f ++ (if is_zero (residue_ops p) t.1.0 then drop (k + 1) f else t ∷ drop (k + 1) f)
