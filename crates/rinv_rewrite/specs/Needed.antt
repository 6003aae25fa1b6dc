-- The degrees that are met as an invariant is rewritten.
--   InZMeets, SymbolDivisionMeets    in the division of a polynomial, put in Z, by the relations with symbols
--   ValueMeetsAt, RestMeets          in the value of a coefficient of a rest, and in one of those from the greatest down
--   ValuesMeet                       in one of the rest of the denominator
--   ExpressingMeets                  in one of these, for an invariant
--   RewritingMeets                   in the test of its invariance, or in one of these
use Rattle.std.specs.Prelude.{◌≡◌, ◌⊎◌, ℕ, List, length, map, nat_lt, false}
use Rattle.std.specs.Ordering.{is_lt}
use Rattle.rinv_algebra.specs.Ring.{IsSame}
use Rattle.rinv_algebra.specs.Residue.{residue_ops}
use Rattle.rinv_algebra.specs.Order.{grevlex}
use Rattle.rinv_algebra.specs.Polynomial.{poly_ops}
use Rattle.rinv_groebner.specs.Division.{AreSame}
use Rattle.rinv_poly.specs.Faults.{IsCoefficient, polynomials_meet}
use Rattle.rinv_sub.specs.Refusal.{never}
use Rattle.rinv_div.specs.Stops.{StepsMeet}
use Rattle.rinv_buch.specs.Kinds.{Found}
use Rattle.rinv_defs.specs.System.{System, Poly}
use Rattle.rinv_defs.specs.Invariant.{Fraction, IsInvariant}
use Rattle.rinv_soundness.specs.Rewriting.{SymbolPoly, SymbolRelation, in_z, symbol_poly, IsRestBy}
use Rattle.rinv_value.specs.Values.{ValueMeets}
use Rattle.rinv_change.specs.Changes.{ChangeMeets}
use Rattle.rinv_rewrite.specs.Symbols.{is_symbolic}
use Rattle.rinv_rewrite.specs.Taken.{HasValueAt}

-- division of f, put in Z, by polynomials over those in k symbols meets these degrees
pub record InZMeets (p k : ℕ) (hs : List SymbolPoly) (f : Poly) (x y : ℕ) : Type 0 where
  pub dividend : SymbolPoly
  pub is_dividend : IsSame (poly_ops (poly_ops (residue_ops p))) dividend (in_z p f)
  pub meets : StepsMeet (poly_ops (residue_ops p)) grevlex hs dividend (is_symbolic p k) (polynomials_meet (residue_ops p) (λ c. nat_lt c p) never) x y

-- division of f, put in Z, by the relations does
pub record SymbolDivisionMeets (p k : ℕ) (qs : List SymbolRelation) (f : Poly) (x y : ℕ) : Type 0 where
  pub divisors : List SymbolPoly
  pub are_divisors : AreSame (poly_ops (residue_ops p)) divisors (map (symbol_poly p) qs)
  pub meets : InZMeets p k divisors f x y

-- the value of the coefficient of a rest at a monomial that it has does
pub record ValueMeetsAt (p : ℕ) (cs : List Fraction) (rest : SymbolPoly) (monomial : List ℕ) (x y : ℕ) : Type 0 where
  pub coefficient : Poly
  pub is_coefficient : IsCoefficient (poly_ops (residue_ops p)) (is_symbolic p (length cs)) rest monomial coefficient
  pub meets : ValueMeets (residue_ops p) cs coefficient x y

-- that at a monomial that is not below one whose coefficient has a value does
pub record RestMeets (p : ℕ) (cs : List Fraction) (rest : SymbolPoly) (x y : ℕ) : Type 0 where
  pub monomial : List ℕ
  pub down_to : (e : List ℕ) → HasValueAt p cs rest e → is_lt (grevlex monomial e) ≡ false
  pub meets : ValueMeetsAt p cs rest monomial x y

-- and this rest is that of q
pub record ValuesMeet (s : System) (cs : List Fraction) (qs : List SymbolRelation) (q : Poly) (x y : ℕ) : Type 0 where
  pub rest : SymbolPoly
  pub is_rest : IsRestBy s qs (in_z s.p q) rest
  pub meets : RestMeets s.p cs rest x y

-- the two divisions do, or the values
pub data ExpressingMeets (s : System) (cs : List Fraction) (qs : List SymbolRelation) (f : Fraction) (x y : ℕ) : Type 0 where
  in_numerator : SymbolDivisionMeets s.p (length cs) qs f.0 x y → ExpressingMeets s cs qs f x y
  in_denominator : SymbolDivisionMeets s.p (length cs) qs f.1 x y → ExpressingMeets s cs qs f x y
  in_values : ValuesMeet s cs qs f.1 x y → ExpressingMeets s cs qs f x y

-- rewriting f does: in the test of its invariance; or, where it is invariant, on the way to its expression
abbrev pub RewritingMeets : System → Found ℕ → List Fraction → List SymbolRelation → Fraction → ℕ → ℕ → Type 0
RewritingMeets s group cs qs f x y = ChangeMeets s group f x y ⊎ (IsInvariant s f × ExpressingMeets s cs qs f x y)
