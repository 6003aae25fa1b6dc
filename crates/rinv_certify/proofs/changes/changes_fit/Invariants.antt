use Rattle.std.proofs.Common.{◌≡◌, ◌<◌, ℕ, true, [], get_or}
use Rattle.rinv_acceptance.specs.Fits.{change_multiplies}
use Rattle.rinv_certify.proofs.changes.changes_fit.Given as goal

abbrev pub invariant-fractions : goal.invariant-fractions
invariant-fractions l = (j : ℕ) → j < l.k → change_multiplies l.gens.told.system (get_or l.gens.fractions j ([], []), get_or l.gens.proofs j []) ≡ true
