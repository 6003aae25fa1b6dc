-- Terms of polynomials in Z, as they are made.
use Rattle.std.specs.Prelude.{ℕ, List, map}
use Rattle.std.specs.List.Sorted.{IsPermutation, IsSortedBy}
use Rattle.std.specs.Ordering.{is_lt}
use Rattle.rinv_algebra.specs.Order.{grevlex}
use Rattle.rinv_soundness.specs.Rewriting.{SymbolPoly, symbol_of}
use Rattle.rinv_defs.specs.Certificate.{Tied}

-- the tail with symbols
abbrev pub tied_terms : ℕ → List (List ℕ × Tied) → SymbolPoly
tied_terms p tail = map (λ t. (t.0, symbol_of p t.1)) tail

-- the monomials of the terms, from the greatest down
pub record AreMonomialsDown (f : SymbolPoly) (ms : List (List ℕ)) : Type 0 where
  pub monomials : IsPermutation (map (λ t. t.0) f) ms
  pub descending : IsSortedBy (λ a b. is_lt (grevlex b a)) ms
