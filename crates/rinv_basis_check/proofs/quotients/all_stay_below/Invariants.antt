use Rattle.std.proofs.Common.{◌≡◌, drop}
use Rattle.std.specs.Prelude.{zip}
use Rattle.std.specs.List.{list_all}
use Rattle.rinv_defs.specs.Certificate.{Certificate}
use Rattle.rinv_defs.specs.Conditions.{elements}
use Rattle.rinv_defs.specs.PairConditions.{stays_below}
use Rattle.rinv_basis_check.specs.Bases.{IsBasisOf}
use Rattle.rinv_basis_check.proofs.quotients.all_stay_below.Given as goal

abbrev pub invariant-quotients : goal.invariant-quotients
invariant-quotients l =
    (c : Certificate) → IsBasisOf c l.basis → list_all (stays_below c.system l.common) (drop l.k (zip l.quotients (elements c))) ≡ list_all (stays_below c.system l.common) (zip l.quotients (elements c))
