-- Degrees that are met on the way to an expression.
--   numerator-meets, denominator-meets    in the divisions
--   values-meet                           in the values
use Rattle.std.proofs.Common.{◌≡◌, ℕ, List, length, map, subst, subst₂}
use Rattle.rinv_algebra.specs.Residue.{residue_ops}
use Rattle.rinv_algebra.specs.Polynomial.{poly_ops}
use Rattle.rinv_groebner.specs.Division.{AreSame}
use Rattle.rinv_ring.specs.declared.fault.RingFault.{RingFault}
use Rattle.rinv_ring.specs.Fault.{DegreesMeet}
use Rattle.rinv_poly.proofs.Meets.{meet-weaker}
use Rattle.rinv_defs.specs.System.{System, Poly}
use Rattle.rinv_defs.specs.Invariant.{Fraction}
use Rattle.rinv_soundness.specs.Rewriting.{SymbolPoly, SymbolRelation, symbol_poly, in_z, IsRestBy}
use Rattle.rinv_rewrite.specs.Needed.{InZMeets, RestMeets, ExpressingMeets, in_numerator, in_denominator, in_values}

module _ (s : System) (cs : List Fraction) (qs : List SymbolRelation) (f : Fraction) (fault : RingFault) where
  module _ (hs : List SymbolPoly) (alike : AreSame (poly_ops (residue_ops s.p)) hs (map (symbol_poly s.p) qs)) (p k : ℕ) (field : p ≡ s.p) (symbols : k ≡ length cs) where
    pub numerator-meets : DegreesMeet (InZMeets p k hs f.0) fault → DegreesMeet (ExpressingMeets s cs qs f) fault
    numerator-meets m = meet-weaker (InZMeets p k hs f.0) (ExpressingMeets s cs qs f) (λ x y h. in_numerator (record { divisors = hs; are_divisors = alike; meets = subst₂ (λ (a b : ℕ). InZMeets a b hs f.0 x y) field symbols h })) fault m

    pub denominator-meets : DegreesMeet (InZMeets p k hs f.1) fault → DegreesMeet (ExpressingMeets s cs qs f) fault
    denominator-meets m = meet-weaker (InZMeets p k hs f.1) (ExpressingMeets s cs qs f) (λ x y h. in_denominator (record { divisors = hs; are_divisors = alike; meets = subst₂ (λ (a b : ℕ). InZMeets a b hs f.1 x y) field symbols h })) fault m

  pub values-meet : (b : SymbolPoly) → IsRestBy s qs (in_z s.p f.1) b → (p : ℕ) → p ≡ s.p → DegreesMeet (RestMeets p cs b) fault → DegreesMeet (ExpressingMeets s cs qs f) fault
  values-meet b den p field m = meet-weaker (RestMeets p cs b) (ExpressingMeets s cs qs f) (λ x y h. in_values (record { rest = b; is_rest = den; meets = subst (λ (a : ℕ). RestMeets a cs b x y) field h })) fault m
