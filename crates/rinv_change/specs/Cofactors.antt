-- The proof that a fraction is invariant: cofactors of its change over the group's ideal.
use Rattle.std.specs.Prelude.{◌≡◌, ℕ, ◌<◌, ◌⊎◌, List, [], length, get_or, All, IsTrue}
use Rattle.std.specs.List.{AllZip}
use Rattle.rinv_algebra.specs.Ring.{IsSame}
use Rattle.rinv_algebra.specs.Residue.{residue_ops}
use Rattle.rinv_algebra.specs.Polynomial.{poly_ops, is_zero}
use Rattle.rinv_algebra.specs.Ideal.{combination}
use Rattle.rinv_groebner.specs.Division.{AreSame}
use Rattle.rinv_poly.specs.Faults.{MonomialsMeet}
use Rattle.rinv_buch.specs.Kinds.{Found}
use Rattle.rinv_cofactors.specs.Combining.{column, cofactor}
use Rattle.rinv_defs.specs.System.{System, Poly}
use Rattle.rinv_defs.specs.Invariant.{Fraction, change}
use Rattle.rinv_parts.specs.Points.{ArePolynomials}
use Rattle.rinv_laws.specs.Proofs.{AreKeptCofactors, KeepCofactors}
use Rattle.rinv_change.specs.Changes.{ChangeMeets, DividesChange, change_count}

-- the cofactor over each polynomial of the ideal is the sum of the quotients times the kept elements' cofactors
abbrev pub FollowRule : System → List (List Poly) → List Poly → List Poly → Type 0
FollowRule s lists qs us = (m : ℕ) → m < length s.ideal → IsSame (poly_ops (residue_ops s.p)) (get_or us m []) (combination (residue_ops s.p) qs (column lists m))

-- us are the cofactors of the change of f over the group's ideal, made so of the quotients of its division
pub record ProvesInvariance (s : System) (found : Found ℕ) (f : Fraction) (us : List Poly) : Type 0 where
  pub number : length us ≡ length s.ideal
  pub normal : ArePolynomials s.p (change_count s) us
  pub sums_up : IsSame (poly_ops (residue_ops s.p)) (change s f) (combination (residue_ops s.p) us s.ideal)
  pub lists : List (List Poly)
  pub kept : AreKeptCofactors s found lists
  pub quotients : List Poly
  pub rest : Poly
  pub divides : DividesChange s found f quotients rest
  pub rule : FollowRule s lists quotients us

-- a quotient times a cofactor of its element meets these degrees
pub record CofactorMeets (s : System) (found : Found ℕ) (f : Fraction) (x y : ℕ) : Type 0 where
  pub quotients : List Poly
  pub rest : Poly
  pub divides : DividesChange s found f quotients rest
  pub lists : List (List Poly)
  pub kept : AreKeptCofactors s found lists
  pub element : ℕ
  pub given : ℕ
  pub g : Poly
  pub is_cofactor : IsSame (poly_ops (residue_ops s.p)) g (cofactor lists element given)
  pub meets : MonomialsMeet (residue_ops s.p) (get_or quotients element []) g x y

-- the making of the cofactors of f's change meets these degrees: in its test, or in a quotient times a cofactor of the basis
abbrev pub ProofMeets : System → Found ℕ → Fraction → ℕ → ℕ → Type 0
ProofMeets s found f x y = ChangeMeets s found f x y ⊎ CofactorMeets s found f x y

-- ws are the kept elements' cofactors over the group's ideal, in the variables of a change
pub record AreWideCofactors (s : System) (found : Found ℕ) (ws : List (List Poly)) : Type 0 where
  pub lists : List (List Poly)
  pub keep : KeepCofactors s found lists
  pub same : AllZip (AreSame (residue_ops s.p)) ws lists
  pub normal : All (ArePolynomials s.p (change_count s)) ws

-- qs are the quotients of the change of f by the kept elements, which leaves nothing
pub record AreQuotientsOf (s : System) (found : Found ℕ) (f : Fraction) (qs : List Poly) : Type 0 where
  pub normal : ArePolynomials s.p (change_count s) qs
  pub rest : Poly
  pub divides : DividesChange s found f qs rest
  pub nothing : IsTrue (is_zero (residue_ops s.p) rest)
