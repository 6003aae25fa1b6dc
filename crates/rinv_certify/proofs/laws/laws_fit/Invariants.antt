use Rattle.std.proofs.Common.{◌≡◌, ◌<◌, ℕ, true}
use Rattle.rinv_defs.specs.Laws.{Law}
use Rattle.rinv_defs.specs.Conditions.{law_fits}
use Rattle.rinv_parts.specs.LawNames.{rank}
use Rattle.rinv_certify.specs.Parts.{ProofFits}
use Rattle.rinv_certify.proofs.laws.laws_fit.Given as goal

abbrev pub invariant-laws : goal.invariant-laws
invariant-laws l = (law : Law) → rank law < l.k → law_fits l.gens.told.system law ≡ true

abbrev pub invariant-proofs : goal.invariant-proofs
invariant-proofs l = (j : ℕ) → j < l.k → ProofFits l.gens j
