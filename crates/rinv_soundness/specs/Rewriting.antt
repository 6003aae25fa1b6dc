-- Rewriting of invariants: division by relations whose coefficients are polynomials in the symbols y1, y2, ..
use Rattle.std.specs.Prelude.{◌≡◌, ℕ, ◌-◌, List, ◌∷◌, map, All, IsTrue, IsFalse}
use Rattle.std.specs.List.{list_any, AllZip}
use Rattle.rinv_algebra.specs.Ring.{IsSame}
use Rattle.rinv_algebra.specs.Residue.{residue_ops}
use Rattle.rinv_algebra.specs.Monomial.{divides}
use Rattle.rinv_algebra.specs.Polynomial.{Polynomial, poly_ops, constant, variable, opposite, difference, has_monomial}
use Rattle.rinv_algebra.specs.Normal.{is_in_variables}
use Rattle.rinv_algebra.specs.Ideal.{IsMember}
use Rattle.rinv_defs.specs.System.{System, Poly, space_count}
use Rattle.rinv_defs.specs.Invariant.{Fraction, IsFraction}
use Rattle.rinv_defs.specs.Generators.{rational_ops, value_at}
use Rattle.rinv_defs.specs.Certificate.{Certificate, Tied, to_constant, to_generator, RelationItem}
use Rattle.rinv_defs.specs.Extended.{FractionPoly, Relation, IsReducedBasis}

-- a polynomial in Z whose coefficients are polynomials in the symbols
abbrev pub SymbolPoly : Type 0
SymbolPoly = Polynomial Poly

-- its value at the fractions c, which are put for the symbols
abbrev pub at_fractions : ℕ → List Fraction → SymbolPoly → FractionPoly
at_fractions p c f = map (λ t. (t.0, value_at p c t.1)) f

-- a polynomial in the space's variables, put in Z
abbrev pub in_z : ℕ → Poly → SymbolPoly
in_z p f = map (λ t. (t.0, constant (residue_ops p) t.1)) f

-- a relation Z^a = sum of b*Z^e with symbols
pub record SymbolRelation : Type 0 where
  pub lead : List ℕ
  pub tail : SymbolPoly

-- Z^a - sum of b*Z^e
abbrev pub symbol_poly : ℕ → SymbolRelation → SymbolPoly
symbol_poly p r = (r.lead, (poly_ops (residue_ops p)).one) ∷ opposite (poly_ops (residue_ops p)) r.tail

-- a relation with symbols has the value of a relation at the fractions c: one lead, and one tail in value
pub record IsTied (p : ℕ) (c : List Fraction) (q : SymbolRelation) (r : Relation) : Type 0 where
  pub lead : q.lead ≡ r.lead
  pub tail : IsSame (poly_ops (rational_ops p)) (at_fractions p c q.tail) r.tail

-- relations with symbols for the reduced basis of the extended ideal, whose coefficients are tied to fractions in the space's variables
pub record IsSymbolBasis (s : System) (c : List Fraction) (qs : List SymbolRelation) : Type 0 where
  pub fractions : All (IsFraction s) c
  pub relations : List Relation
  pub tied : AllZip (IsTied s.p c) qs relations
  pub basis : IsReducedBasis s relations

-- r is a rest of f, a polynomial in Z: f - r is a sum of multiples of the relations, and no lead divides a monomial of r
pub record IsRestBy (s : System) (qs : List SymbolRelation) (f r : SymbolPoly) : Type 0 where
  pub in_space : IsTrue (is_in_variables (space_count s) r)
  pub congruent : IsMember (poly_ops (residue_ops s.p)) (map (symbol_poly s.p) qs) (difference (poly_ops (residue_ops s.p)) f r)
  pub reduced : (m : List ℕ) → IsTrue (has_monomial (poly_ops (residue_ops s.p)) r m) → IsFalse (list_any (λ q. divides q.lead m) qs)

-- the constant or the symbol to which a coefficient of a certificate's relation is tied
abbrev pub symbol_of : ℕ → Tied → Poly
symbol_of p (to_constant v) = constant (residue_ops p) v
symbol_of p (to_generator k) = variable (residue_ops p) (k - 1)

-- a relation of a certificate, with symbols
abbrev pub symbol_relation : ℕ → RelationItem → SymbolRelation
symbol_relation p r = record { lead = r.a; tail = map (λ t. (t.alpha, symbol_of p t.tied)) r.tail }

-- all relations of a certificate
abbrev pub symbol_relations : Certificate → List SymbolRelation
symbol_relations c = map (symbol_relation c.system.p) c.relations
