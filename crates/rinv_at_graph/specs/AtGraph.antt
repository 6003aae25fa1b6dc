-- Values of polynomials where the moved point stands for Z, and their cofactors over the group's ideal.
--   at_graph             the value of a polynomial in all variables
--   DividesAtGraph       its division by the kept elements of the group's basis
--   ProvesAtGraph        its cofactors, by the rule of that division
--   AtGraphMeets         the degrees that these meet, as they are made and multiplied out
--   IsProved             cofactors that multiply out within the limit
use Rattle.std.specs.Prelude.{◌≡◌, ℕ, List, [], length, get_or, nat_lt, true}
use Rattle.rinv_algebra.specs.Ring.{IsSame}
use Rattle.rinv_algebra.specs.Residue.{residue_ops}
use Rattle.rinv_algebra.specs.Order.{grevlex}
use Rattle.rinv_algebra.specs.Polynomial.{poly_ops}
use Rattle.rinv_algebra.specs.Value.{substitute}
use Rattle.rinv_algebra.specs.Ideal.{combination}
use Rattle.rinv_groebner.specs.Division.{Step, AreSame}
use Rattle.rinv_poly.specs.Faults.{MonomialsMeet}
use Rattle.rinv_sub.specs.Refusal.{never}
use Rattle.rinv_fits.specs.Sums.{SumsMeet}
use Rattle.rinv_div.specs.Stops.{Divides, StepsMeet}
use Rattle.rinv_buch.specs.Kinds.{Found}
use Rattle.rinv_cofactors.specs.Combining.{cofactor}
use Rattle.rinv_defs.specs.System.{System, Poly}
use Rattle.rinv_defs.specs.Conditions.{graph_point}
use Rattle.rinv_parts.specs.Points.{ArePolynomials}
use Rattle.rinv_parts.specs.Substitutions.{TakenMeets}
use Rattle.rinv_laws.specs.Proofs.{AreKeptCofactors, kept_elements}
use Rattle.rinv_acceptance.specs.Fits.{at_graph_multiplies}
use Rattle.rinv_change.specs.Changes.{change_count}
use Rattle.rinv_change.specs.Cofactors.{FollowRule}

-- the value of a polynomial in the group's variables, Z and the space's, at Z = g
abbrev pub at_graph : System → Poly → Poly
at_graph s h = substitute (residue_ops s.p) (graph_point s) h

-- g is this value, and hs are the kept elements of the group's basis
pub record IsAskedAt (s : System) (group : Found ℕ) (h g : Poly) (hs : List Poly) : Type 0 where
  pub value : IsSame (poly_ops (residue_ops s.p)) g (at_graph s h)
  pub basis : AreSame (residue_ops s.p) hs (kept_elements s group)

-- division of the value by them leaves this rest, with these quotients
pub record DividesAtGraph (s : System) (group : Found ℕ) (h : Poly) (qs : List Poly) (rest : Poly) : Type 0 where
  pub g : Poly
  pub hs : List Poly
  pub asked : IsAskedAt s group h g hs
  pub steps : List (Step ℕ)
  pub divides : Divides (residue_ops s.p) grevlex hs g qs rest steps

-- us are the cofactors of the value over the group's ideal, made by the rule of the quotients of such a division
pub record ProvesAtGraph (s : System) (group : Found ℕ) (h : Poly) (us : List Poly) : Type 0 where
  pub number : length us ≡ length s.ideal
  pub normal : ArePolynomials s.p (change_count s) us
  pub sums_up : IsSame (poly_ops (residue_ops s.p)) (at_graph s h) (combination (residue_ops s.p) us s.ideal)
  pub lists : List (List Poly)
  pub kept : AreKeptCofactors s group lists
  pub quotients : List Poly
  pub rest : Poly
  pub divides : DividesAtGraph s group h quotients rest
  pub rule : FollowRule s lists quotients us

-- ---- degrees

-- division of the value by the kept elements meets these degrees
pub record DivisionMeets (s : System) (group : Found ℕ) (h : Poly) (x y : ℕ) : Type 0 where
  pub g : Poly
  pub hs : List Poly
  pub asked : IsAskedAt s group h g hs
  pub meets : StepsMeet (residue_ops s.p) grevlex hs g (λ c. nat_lt c s.p) never x y

-- a quotient times a cofactor of its element does
pub record CofactorMeets (s : System) (group : Found ℕ) (h : Poly) (x y : ℕ) : Type 0 where
  pub quotients : List Poly
  pub rest : Poly
  pub divides : DividesAtGraph s group h quotients rest
  pub lists : List (List Poly)
  pub kept : AreKeptCofactors s group lists
  pub element : ℕ
  pub given : ℕ
  pub g : Poly
  pub is_cofactor : IsSame (poly_ops (residue_ops s.p)) g (cofactor lists element given)
  pub meets : MonomialsMeet (residue_ops s.p) (get_or quotients element []) g x y

-- a cofactor times its generator of the group's ideal, as it is stored, does
pub record IdentityMeets (s : System) (group : Found ℕ) (h : Poly) (x y : ℕ) : Type 0 where
  pub cofactors : List Poly
  pub proves : ProvesAtGraph s group h cofactors
  pub generators : List Poly
  pub are_generators : AreSame (residue_ops s.p) generators s.ideal
  pub meets : SumsMeet s.p (change_count s) cofactors generators x y

-- the cofactors of h at Z = g meet these degrees: in its value, in the division of that, in a quotient times a cofactor of its element, or as
-- they are multiplied out
pub data AtGraphMeets (s : System) (group : Found ℕ) (h : Poly) (x y : ℕ) : Type 0 where
  in_value : TakenMeets s.p (change_count s) (graph_point s) h x y → AtGraphMeets s group h x y
  in_division : DivisionMeets s group h x y → AtGraphMeets s group h x y
  in_cofactor : CofactorMeets s group h x y → AtGraphMeets s group h x y
  in_identity : IdentityMeets s group h x y → AtGraphMeets s group h x y

-- us are the cofactors of the value, and its products and theirs fit
pub record IsProved (s : System) (group : Found ℕ) (h : Poly) (us : List Poly) : Type 0 where
  pub proof : ProvesAtGraph s group h us
  pub fits : at_graph_multiplies s h us ≡ true
