-- The expression of an invariant P/Q: P(Z) and Q(Z) are divided by the relations with symbols, and a pair of coefficients of the rests is
-- taken.
--   HasValueAt             the coefficient at a monomial has a value
--   HasNoValue             none has
--   IsGreatestWithValue    the greatest monomial of whose coefficient this holds
--   IsPairAt, IsChosen     the pair there, and the expression that it gives
--   LeavesInZ              what the division of a polynomial, put in Z, leaves
--   IsTaken                the expression of an invariant
--   DenominatorVanishes    there is no such monomial
--   IsVanishing            an invariant of which that holds
use Rattle.std.specs.Prelude.{◌≡◌, ℕ, List, [], IsTrue}
use Rattle.std.specs.Ordering.{is_ge}
use Rattle.rinv_algebra.specs.Ring.{IsSame}
use Rattle.rinv_algebra.specs.Residue.{residue_ops}
use Rattle.rinv_algebra.specs.Order.{grevlex}
use Rattle.rinv_algebra.specs.Polynomial.{poly_ops, coefficient}
use Rattle.rinv_groebner.specs.Division.{Step, IsDivision}
use Rattle.rinv_defs.specs.System.{System, Poly}
use Rattle.rinv_defs.specs.Invariant.{Fraction, IsInvariant}
use Rattle.rinv_defs.specs.Extended.{Vanishes}
use Rattle.rinv_defs.specs.Generators.{Expression, rational_ops, value_at}
use Rattle.rinv_soundness.specs.Rewriting.{SymbolPoly, SymbolRelation, in_z, IsRestBy}
use Rattle.rinv_frac.specs.Cancelling.{IsSamePair, IsCancelled}

-- the coefficient of b at m has a value at the fractions that is not zero
abbrev pub HasValueAt : ℕ → List Fraction → SymbolPoly → List ℕ → Type 0
HasValueAt p cs b m = ¬ (IsSame (rational_ops p) (value_at p cs (coefficient (poly_ops (residue_ops p)) b m)) (rational_ops p).zero)

-- no coefficient of b has a value at the fractions
abbrev pub HasNoValue : ℕ → List Fraction → SymbolPoly → Type 0
HasNoValue p cs b = (m : List ℕ) → IsSame (rational_ops p) (value_at p cs (coefficient (poly_ops (residue_ops p)) b m)) (rational_ops p).zero

-- m is the greatest monomial with such a coefficient
pub record IsGreatestWithValue (p : ℕ) (cs : List Fraction) (b : SymbolPoly) (m : List ℕ) : Type 0 where
  pub has : HasValueAt p cs b m
  pub greatest : (e : List ℕ) → HasValueAt p cs b e → IsTrue (is_ge (grevlex m e))

-- the pair has the coefficients of a and b at m
abbrev pub IsPairAt : ℕ → SymbolPoly → SymbolPoly → List ℕ → Expression → Type 0
IsPairAt p a b m pair = IsSamePair (residue_ops p) pair (coefficient (poly_ops (residue_ops p)) a m, coefficient (poly_ops (residue_ops p)) b m)

-- e is the pair of the coefficients of a and b at the greatest monomial at which that of b has a value, cancelled
pub record IsChosen (p : ℕ) (cs : List Fraction) (a b : SymbolPoly) (e : Expression) : Type 0 where
  pub monomial : List ℕ
  pub greatest : IsGreatestWithValue p cs b monomial
  pub pair : Expression
  pub is_pair : IsPairAt p a b monomial pair
  pub cancelled : IsCancelled (residue_ops p) pair e

-- steps by these polynomials take f, put in Z, to a rest in which nothing can be cancelled
pub record LeavesInZ (p : ℕ) (hs : List SymbolPoly) (f : Poly) (rest : SymbolPoly) : Type 0 where
  pub dividend : SymbolPoly
  pub is_dividend : IsSame (poly_ops (poly_ops (residue_ops p))) dividend (in_z p f)
  pub steps : List (Step Poly)
  pub is_division : IsDivision (poly_ops (residue_ops p)) grevlex hs dividend steps rest

-- e is so chosen from the rests of P(Z) and Q(Z)
pub record IsTaken (s : System) (cs : List Fraction) (qs : List SymbolRelation) (f : Fraction) (e : Expression) : Type 0 where
  pub numerator : SymbolPoly
  pub denominator : SymbolPoly
  pub numerator_rest : IsRestBy s qs (in_z s.p f.0) numerator
  pub denominator_rest : IsRestBy s qs (in_z s.p f.1) denominator
  pub chosen : IsChosen s.p cs numerator denominator e

-- the denominator of f vanishes on the section
abbrev pub DenominatorVanishes : System → Fraction → Type 0
DenominatorVanishes s f = ∥ Vanishes s f.1 ∥₁

-- there is a section, f is invariant, and its denominator vanishes on the section
pub record IsVanishing (s : System) (f : Fraction) : Type 0 where
  pub on_section : ¬ (s.section ≡ [])
  pub is_invariant : IsInvariant s f
  pub vanishes : DenominatorVanishes s f
