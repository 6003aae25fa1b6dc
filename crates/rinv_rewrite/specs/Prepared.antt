-- The relations with symbols, made ready for division.
--   symbol_relations     relations with symbols for the numbers to which they are tied
--   IsReady, IsPrepared  what is made ready of such relations, and of those that were found for a system
use Rattle.std.specs.Prelude.{◌≡◌, ℕ, List, length, map, All}
use Rattle.rinv_algebra.specs.Residue.{residue_ops}
use Rattle.rinv_algebra.specs.Order.{grevlex}
use Rattle.rinv_algebra.specs.Polynomial.{poly_ops}
use Rattle.rinv_groebner.specs.Division.{AreSame}
use Rattle.rinv_div.specs.Divisors.{AreDivisors}
use Rattle.rinv_defs.specs.System.{System, space_count}
use Rattle.rinv_soundness.specs.Rewriting.{SymbolRelation, symbol_poly}
use Rattle.rinv_coefficients.specs.Ties.{TiedRelation, with_symbols}
use Rattle.rinv_gens.specs.declared.kinds.Findings.{Findings}
use Rattle.rinv_rewrite.specs.declared.basis.SymbolBasis.{SymbolBasis}
use Rattle.rinv_rewrite.specs.Symbols.{IsSymbolPart, is_symbolic}

-- the relations with symbols
abbrev pub symbol_relations : ℕ → List TiedRelation → List SymbolRelation
symbol_relations p ts = map (with_symbols p) ts

-- b has these relations over k symbols, as polynomials in n variables Z and ready for division
pub record IsReady (p k n : ℕ) (ts : List TiedRelation) (b : SymbolBasis) : Type 0 where
  pub symbols : b.symbols ≡ k
  pub same : AreSame (poly_ops (residue_ops p)) b.polys.items (map (symbol_poly p) (symbol_relations p ts))
  pub normal : All (IsSymbolPart p k n) b.polys.items
  pub divisors : AreDivisors (poly_ops (residue_ops p)) (is_symbolic p k) n grevlex b.polys.items b.divisors.list.items

-- b has the relations that were found for a system, over a symbol for each generator
abbrev pub IsPrepared : System → Findings → SymbolBasis → Type 0
IsPrepared s g b = IsReady s.p (length g.fractions.items) (space_count s) g.relations.items b
