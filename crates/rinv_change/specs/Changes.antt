-- The change of a fraction: what the test of its invariance answers.
--   change_count                    the variables of a change
--   IsStray                         a fraction that is not invariant, with the normal form of its change
--   DividesChange, DivisionMeets    the division of a change by the kept elements of the group's basis
--   ChangingMeets, ChangeMeets      the degrees that the making of a change meets, and that its test does
use Rattle.std.specs.Prelude.{ℕ, ◌+◌, ◌⊎◌, List, nat_lt}
use Rattle.rinv_algebra.specs.Ring.{IsSame}
use Rattle.rinv_algebra.specs.Residue.{residue_ops}
use Rattle.rinv_algebra.specs.Order.{grevlex}
use Rattle.rinv_algebra.specs.Polynomial.{poly_ops, past}
use Rattle.rinv_algebra.specs.Normal.{IsNormal}
use Rattle.rinv_groebner.specs.Division.{Step, AreSame}
use Rattle.rinv_poly.specs.Faults.{MonomialsMeet}
use Rattle.rinv_sub.specs.Refusal.{never}
use Rattle.rinv_div.specs.Stops.{Divides, StepsMeet}
use Rattle.rinv_buch.specs.Kinds.{Found}
use Rattle.rinv_defs.specs.System.{System, Poly, group_count, space_count}
use Rattle.rinv_defs.specs.Invariant.{Fraction, IsInvariant, at_moved_point, change}
use Rattle.rinv_defs.specs.Rest.{IsRest}
use Rattle.rinv_parts.specs.Substitutions.{TakenMeets}
use Rattle.rinv_laws.specs.Proofs.{kept_elements}

-- the variables of a change: the group's, then the space's
abbrev pub change_count : System → ℕ
change_count s = group_count s + space_count s

-- f is not invariant, and this is the normal form of its change modulo the group's ideal
pub record IsStray (s : System) (f : Fraction) (rest : Poly) : Type 0 where
  pub changes : ¬ (IsInvariant s f)
  pub is_rest : IsRest s.p (change s f) s.ideal rest
  pub normal : IsNormal (residue_ops s.p) (λ c. nat_lt c s.p) (change_count s) rest

-- g is the change of f, and hs are the kept elements of the group's basis
pub record IsAskedOf (s : System) (found : Found ℕ) (f : Fraction) (g : Poly) (hs : List Poly) : Type 0 where
  pub change : IsSame (poly_ops (residue_ops s.p)) g (change s f)
  pub basis : AreSame (residue_ops s.p) hs (kept_elements s found)

-- division of the change of f by them leaves this rest, with these quotients
pub record DividesChange (s : System) (found : Found ℕ) (f : Fraction) (qs : List Poly) (rest : Poly) : Type 0 where
  pub g : Poly
  pub hs : List Poly
  pub asked : IsAskedOf s found f g hs
  pub steps : List (Step ℕ)
  pub divides : Divides (residue_ops s.p) grevlex hs g qs rest steps

-- division of the change of f by them meets these degrees
pub record DivisionMeets (s : System) (found : Found ℕ) (f : Fraction) (x y : ℕ) : Type 0 where
  pub g : Poly
  pub hs : List Poly
  pub asked : IsAskedOf s found f g hs
  pub meets : StepsMeet (residue_ops s.p) grevlex hs g (λ c. nat_lt c s.p) never x y

-- the making of the change of N/D meets these degrees: as N or D is taken at the moved point, or in N(g)*D or N*D(g)
pub data ChangingMeets (s : System) (f : Fraction) (x y : ℕ) : Type 0 where
  in_numerator : TakenMeets s.p (change_count s) s.action f.0 x y → ChangingMeets s f x y
  in_denominator : TakenMeets s.p (change_count s) s.action f.1 x y → ChangingMeets s f x y
  in_first : MonomialsMeet (residue_ops s.p) (at_moved_point s f.0) (past (group_count s) f.1) x y → ChangingMeets s f x y
  in_second : MonomialsMeet (residue_ops s.p) (past (group_count s) f.0) (at_moved_point s f.1) x y → ChangingMeets s f x y

-- the test of f meets these degrees: in the making of its change, or in the division of that
abbrev pub ChangeMeets : System → Found ℕ → Fraction → ℕ → ℕ → Type 0
ChangeMeets s found f x y = ChangingMeets s f x y ⊎ DivisionMeets s found f x y
