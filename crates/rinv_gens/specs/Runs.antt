-- The two runs of Buchberger's algorithm on a system: on the group's ideal, and then on the action's, with what the first leaves of the
-- budget.
use Rattle.std.specs.Prelude.{◌≤◌, ℕ, false, List, length}
use Rattle.rinv_defs.specs.System.{Poly}
use Rattle.rinv_groebner.specs.Journal.{Entry}
use Rattle.rinv_text.specs.Told.{Told}
use Rattle.rinv_div.specs.declared.budget.Budget.{Budget}
use Rattle.rinv_buch.specs.Kinds.{Found}
use Rattle.rinv_buch.specs.Spent.{IsKept, SpendsOn, steps_of}
use Rattle.rinv_laws.specs.Group.{IsGroupBasis}
use Rattle.rinv_action.specs.Action.{IsActionBasis}

-- the pairs and steps that a text allows, none of them spent
abbrev pub budget_of : Told → Budget
budget_of told = record { pairs = told.pairs; steps = told.steps; pairs_spent = 0; steps_spent = 0; endless = false }

-- the run on the group's ideal has every pair, and leaves so much of the budget
pub record GroupEnds (told : Told) (group : Found ℕ) (reduced : List Poly) (left : Budget) : Type 0 where
  pub basis : IsGroupBasis told.system group reduced
  pub spent : SpendsOn group.journal 0 (budget_of told) left
  pub kept : IsKept left

-- and so has the run on the action's ideal after it
pub record BothEnd (told : Told) (group action : Found ℕ) : Type 0 where
  pub reduced : List Poly
  pub left : Budget
  pub group_ends : GroupEnds told group reduced left
  pub basis : IsActionBasis told.system action
  pub after : Budget
  pub spent : SpendsOn action.journal 0 left after
  pub kept : IsKept after

-- the journal is within what a text allows
pub record IsWithin (told : Told) (journal : List Entry) : Type 0 where
  pub pairs : length journal ≤ told.pairs
  pub steps : steps_of journal ≤ told.steps
