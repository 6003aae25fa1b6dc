-- The Gröbner basis of the action's ideal.
use Rattle.std.specs.Prelude.{ℕ, nat_lt, All, List, map}
use Rattle.rinv_algebra.specs.Residue.{residue_ops}
use Rattle.rinv_algebra.specs.Normal.{IsNormal}
use Rattle.rinv_groebner.specs.Journal.{Journal, IsComplete}
use Rattle.rinv_sub.specs.Refusal.{never}
use Rattle.rinv_defs.specs.System.{System, Poly, group_count}
use Rattle.rinv_defs.specs.PairConditions.{action_order}
use Rattle.rinv_defs.specs.Extended.{action_ideal}
use Rattle.rinv_div.specs.declared.budget.Budget.{Budget}
use Rattle.rinv_buch.specs.Kinds.{Found, Halted}
use Rattle.rinv_buch.specs.Causes.{Halts}
use Rattle.rinv_reduction.specs.Localised.{all_count}
use Rattle.rinv_algebra.specs.Polynomial.{difference, variable, past}
use Rattle.rinv_algebra.specs.Value.{rename}
use Rattle.rinv_parts.specs.Points.{AreStored, IsStoredIn}

-- the journal is complete, and makes the list of the action's ideal in the block order
pub record IsActionBasis (s : System) (found : Found ℕ) : Type 0 where
  pub journal : Journal (residue_ops s.p) (action_order s) (action_ideal s) found.journal found.polys
  pub complete : IsComplete (residue_ops s.p) (action_order s) found.journal found.polys
  pub normal : All (IsNormal (residue_ops s.p) (λ c. nat_lt c s.p) (all_count s)) found.polys

-- the run on the action's ideal halts
abbrev pub HaltsInAction : System → Budget → Budget → Halted ℕ → Type 0
HaltsInAction s before after h = Halts (residue_ops s.p) (λ c. nat_lt c s.p) never (all_count s) (action_order s) (action_ideal s) before after h

-- r is the variable at a place less f, whose variables are renamed, as it is stored
abbrev pub IsInputOf : (p v place : ℕ) → List ℕ → (f r : Poly) → Type 0
IsInputOf p v place places f r = IsStoredIn p v (difference (residue_ops p) (variable (residue_ops p) place) (rename (residue_ops p) places f)) r

-- the section behind the group's variables, as it is stored
abbrev pub IsSectionStored : System → List Poly → Type 0
IsSectionStored s gs = AreStored s.p (all_count s) (map (past (group_count s)) s.section) gs
