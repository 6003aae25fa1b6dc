-- What is known of a system whose queries are answered, case by case.
--   known-laws            the laws hold
--   generated-group       there is a basis of the group's ideal, made within the budget
use Rattle.std.proofs.Common.{◌≡◌, []}
use Rattle.rinv_defs.specs.Laws.{AllLawsHold}
use Rattle.rinv_text.specs.Told.{Told}
use Rattle.rinv_gens.specs.declared.kinds.Findings.{Findings}
use Rattle.rinv_gens.specs.Found.{ArePieces}
use Rattle.rinv_answers.specs.Budgets.{IsLimited}
use Rattle.rinv_queries.specs.declared.known.Known.{Known}
use Rattle.rinv_queries.specs.declared.known.Known.TheVariants.{Lawful, Generated}
use Rattle.rinv_queries.specs.Known.{HasGroup, IsKnown}
use Rattle.rinv_queries.proofs.FromPieces.{pieces-within}

-- the laws hold
pub known-laws : (told : Told) (k : Known) → IsKnown told k → AllLawsHold told.system
known-laws told (Lawful group) h = h.0
known-laws told (Generated found basis) h = h.1.hold

-- there is a basis of the group's ideal, made within the budget
pub generated-group : (told : Told) (g : Findings) → IsLimited told → ArePieces told g → HasGroup told g.group
generated-group told g low h = record { basis = h.group; within = pieces-within told g low h }
