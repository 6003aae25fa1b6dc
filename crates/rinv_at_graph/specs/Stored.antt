-- The point at Z = g and the values there, as they are stored.
--   AddsVariables, AreGraphPoint         the point
--   IsInWhole                            polynomials without Z
--   GivesValue, GivesQuotients, GivesCofactors, GivesProof    what is made on a ground
use Rattle.std.specs.Prelude.{ℕ, ◌++◌, List, map, nat_lt, Result, OnOk}
use Rattle.std.specs.Global.{Vec}
use Rattle.std.specs.List.{range_with_len}
use Rattle.std.specs.Result.{MatchResult}
use Rattle.rinv_algebra.specs.Ring.{IsSame}
use Rattle.rinv_algebra.specs.Residue.{residue_ops}
use Rattle.rinv_algebra.specs.Polynomial.{poly_ops, variable}
use Rattle.rinv_algebra.specs.Normal.{IsNormal}
use Rattle.rinv_algebra.specs.Ideal.{IsMember}
use Rattle.rinv_ring.specs.Fault.{DegreesMeet}
use Rattle.rinv_ring.specs.declared.fault.RingFault.{RingFault}
use Rattle.rinv_buch.specs.Kinds.{Found}
use Rattle.rinv_defs.specs.System.{System, Poly}
use Rattle.rinv_defs.specs.Conditions.{graph_point}
use Rattle.rinv_parts.specs.Points.{AreStored}
use Rattle.rinv_parts.specs.Substitutions.{IsValue, TakenMeets}
use Rattle.rinv_change.specs.Changes.{change_count}
use Rattle.rinv_at_graph.specs.AtGraph.{AtGraphMeets, CofactorMeets, DivisionMeets, IsProved, ProvesAtGraph, at_graph}
use Rattle.rinv_at_graph.specs.Quotients.{AreQuotientsAt}
use Rattle.rinv_at_graph.specs.Grounds.{IsGround}
use Rattle.rinv_at_graph.specs.declared.ground.Ground.{Ground}

-- ---- the point

-- whatever the old list stands for, the new one stands for that and so many variables from a place on
abbrev pub AddsVariables : {T E : Type 0} → Result T E → (p v place count : ℕ) → (old new : List Poly) → Type 0
AddsVariables result p v place count old new =
    (xs : List Poly) → AreStored p v xs old → OnOk result (AreStored p v (xs ++ map (variable (residue_ops p)) (range_with_len place count)) new)

-- the group's variables, the action and the space's variables
abbrev pub AreGraphPoint : (p v group space : ℕ) → (action gs : List Poly) → Type 0
AreGraphPoint p v group space action gs =
    AreStored p v (map (variable (residue_ops p)) (range_with_len 0 group) ++ action ++ map (variable (residue_ops p)) (range_with_len group space)) gs

-- ---- values

-- a polynomial in the variables without Z
abbrev pub IsInWhole : Ground → Poly → Type 0
IsInWhole g f = IsNormal (residue_ops g.whole.coeffs) (λ c. nat_lt c g.whole.coeffs) g.whole.vars f

-- ---- what is made, of whatever system and basis of its group's ideal the ground is the ground of

-- the result is the value of h; or degrees are met as it is taken
abbrev pub GivesValue : Result Poly RingFault → Ground → Poly → Type 0
GivesValue result g h =
    (s : System) (found : Found ℕ) → IsGround s found g
    → MatchResult result (IsValue s.p (change_count s) (graph_point s) h) (DegreesMeet (TakenMeets s.p (change_count s) (graph_point s) h))

-- the result are the quotients of this value of h, where it lies in the group's ideal; or degrees are met in its division
abbrev pub GivesQuotients : Result (Vec Poly) RingFault → Ground → Poly → Type 0
GivesQuotients result g value =
    (s : System) (found : Found ℕ) (h : Poly) → IsGround s found g
    → IsSame (poly_ops (residue_ops s.p)) value (at_graph s h) → IsMember (residue_ops s.p) s.ideal (at_graph s h)
    → MatchResult result (λ qs. AreQuotientsAt s found h qs.items) (DegreesMeet (DivisionMeets s found h))

-- the result are the cofactors that these quotients make; or degrees are met in a quotient times a cofactor
abbrev pub GivesCofactors : Result (Vec Poly) RingFault → Ground → List Poly → Type 0
GivesCofactors result g quotients =
    (s : System) (found : Found ℕ) (h : Poly) → IsGround s found g → AreQuotientsAt s found h quotients
    → MatchResult result (λ us. ProvesAtGraph s found h us.items) (DegreesMeet (CofactorMeets s found h))

-- the result are the cofactors of h, where its value lies in the group's ideal; or degrees are met
abbrev pub GivesProof : Result (Vec Poly) RingFault → Ground → Poly → Type 0
GivesProof result g h =
    (s : System) (found : Found ℕ) → IsGround s found g → IsMember (residue_ops s.p) s.ideal (at_graph s h)
    → MatchResult result (λ us. IsProved s found h us.items) (DegreesMeet (AtGraphMeets s found h))
