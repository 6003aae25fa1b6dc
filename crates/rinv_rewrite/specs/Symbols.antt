-- Polynomials and relations in Z over the polynomials in the symbols.
--   IsSymbolPart                  a polynomial in Z over those in the symbols, as it is stored
--   IsSymbolIn, IsSymbolRelation  what is tied to one of so many symbols or to a number
--   AreTied                       relations that are tied to the fractions
use Rattle.std.specs.Prelude.{◌≡◌, ◌<◌, ◌≤◌, ℕ, List, length, nat_lt, Bool, All}
use Rattle.std.specs.List.{AllZip}
use Rattle.std.specs.declared.cmp.Ordering.TheVariants.{Less}
use Rattle.rinv_algebra.specs.Residue.{residue_ops}
use Rattle.rinv_algebra.specs.Order.{grevlex}
use Rattle.rinv_algebra.specs.Polynomial.{poly_ops}
use Rattle.rinv_algebra.specs.Normal.{is_normal, IsNormal}
use Rattle.rinv_defs.specs.System.{System, Poly}
use Rattle.rinv_defs.specs.Invariant.{Fraction}
use Rattle.rinv_defs.specs.Certificate.{Tied, to_constant, to_generator}
use Rattle.rinv_defs.specs.Extended.{Relation}
use Rattle.rinv_soundness.specs.Rewriting.{SymbolPoly}
use Rattle.rinv_coefficients.specs.Coefficients.{IsOrderedBasis}
use Rattle.rinv_coefficients.specs.Ties.{TiedRelation, Ties}

-- whether f is a polynomial in k symbols modulo p, as it is stored
abbrev pub is_symbolic : (p k : ℕ) → Poly → Bool
is_symbolic p k f = is_normal (residue_ops p) (λ c. nat_lt c p) k f

-- a polynomial in n variables Z over those in k symbols, as it is stored
abbrev pub IsSymbolPart : (p k n : ℕ) → SymbolPoly → Type 0
IsSymbolPart p k n f = IsNormal (poly_ops (residue_ops p)) (is_symbolic p k) n f

-- a number below p, or one of k generators
abbrev pub IsSymbolIn : (p k : ℕ) → Tied → Type 0
IsSymbolIn p k (to_constant v) = v < p
IsSymbolIn p k (to_generator j) = (0 < j) × (j ≤ k)

-- a relation in n variables Z, whose tail is below its lead and has such coefficients
pub record IsSymbolRelation (p k n : ℕ) (t : TiedRelation) : Type 0 where
  pub lead : length t.lead ≡ n
  pub vars : All (λ u. length u.0 ≡ n) t.tail
  pub symbols : All (λ u. IsSymbolIn p k u.1) t.tail
  pub below : All (λ u. grevlex u.0 t.lead ≡ Less) t.tail

-- the relations are the reduced basis of the extended ideal, tied to the fractions
pub record AreTied (s : System) (cs : List Fraction) (ts : List TiedRelation) : Type 0 where
  pub relations : List Relation
  pub basis : IsOrderedBasis s relations
  pub ties : AllZip (Ties s.p cs) ts relations
