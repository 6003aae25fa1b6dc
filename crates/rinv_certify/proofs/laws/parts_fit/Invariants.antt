use Rattle.std.proofs.Common.{◌≡◌, ◌<◌, ℕ, true}
use Rattle.rinv_parts.specs.LawNames.{law_of}
use Rattle.rinv_parts.specs.Parts.{part_fits}
use Rattle.rinv_certify.proofs.laws.parts_fit.Given as goal

abbrev pub invariant-parts : goal.invariant-parts
invariant-parts l = (j : ℕ) → j < l.k → part_fits l.system.system (law_of l.fn.law) j ≡ true
