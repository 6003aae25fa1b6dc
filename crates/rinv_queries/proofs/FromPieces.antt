-- What follows of the pieces that are found for a system.
--   pieces-within      the journal of the group's basis is within what the text allows
--   pieces-complete    the generators are complete
use Rattle.std.proofs.Common.{refl}
use Rattle.rinv_defs.specs.SystemForm.{IsSystem}
use Rattle.rinv_text.specs.Told.{Told}
use Rattle.rinv_gens.specs.declared.kinds.Findings.{Findings}
use Rattle.rinv_gens.specs.Found.{ArePieces}
use Rattle.rinv_gens.specs.Runs.{budget_of}
use Rattle.rinv_answers.specs.Budgets.{IsWithin, IsLimited}
use Rattle.rinv_answers.specs.Commands.Generators.{AreComplete}
use Rattle.rinv_answers.proofs.Generators.{complete-of}
use Rattle.rinv_answers.proofs.TextLimits.{spent-within}

-- the journal of the group's basis is within what the text allows
pub pieces-within : (told : Told) (g : Findings) → IsLimited told → ArePieces told g → IsWithin told g.group.basis.journal
pieces-within told g low h = spent-within told g.group.basis.journal 0 (budget_of told) h.both_end.left low refl h.both_end.group_ends.spent h.both_end.group_ends.kept

-- the generators are complete
pub pieces-complete : (told : Told) (g : Findings) → IsSystem told.system → ArePieces told g → AreComplete told.system g.fractions.items
pieces-complete told g system h = complete-of told g system h
