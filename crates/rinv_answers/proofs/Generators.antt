-- What follows of the pieces that are found for a system, and of a halt.
--   complete-of        the generators are complete
--   limits-within      a journal of a halt is within what a text may ask for
use Rattle.std.proofs.Common.{List, arith}
use Rattle.rinv_groebner.specs.Journal.{Entry}
use Rattle.rinv_defs.specs.SystemForm.{IsSystem}
use Rattle.rinv_text.specs.Told.{Told}
use Rattle.rinv_buch.specs.declared.kinds.Why.{Why}
use Rattle.rinv_coefficients.specs.Coefficients.{AreGenerators}
use Rattle.rinv_coefficients.proofs.Invariant.{generators_invariant}
use Rattle.rinv_coefficients.proofs.Sound.{generators_sound}
use Rattle.rinv_gens.specs.declared.kinds.Findings.{Findings}
use Rattle.rinv_gens.specs.declared.kinds.Phase.{Phase}
use Rattle.rinv_gens.specs.Found.{ArePieces}
use Rattle.rinv_gens.specs.Halts.{HaltsIn}
use Rattle.rinv_gens.specs.Runs.{IsWithin as IsWithinRuns}
use Rattle.rinv_gens.proofs.Within.{halts-within}
use Rattle.rinv_answers.specs.Budgets.{IsWithin, IsLimited}
use Rattle.rinv_answers.specs.Commands.Generators.{AreComplete}

-- the generators are complete
pub complete-of : (told : Told) (g : Findings) → IsSystem told.system → ArePieces told g → AreComplete told.system g.fractions.items
complete-of told g system h = record {
  laws = h.hold;
  invariant = generators_invariant told.system g.fractions.items system h.hold are;
  generates = λ without. (generators_sound told.system system h.hold without g.fractions.items are).generates;
  met = h.met;
  generators = are;
}
  where
    are : AreGenerators told.system g.fractions.items
    are = record { relations = g.monic; basis = h.monic; are = h.fractions }

-- a journal of a halt is within what the text allows
pub limits-within : (told : Told) (phase : Phase) (journal : List Entry) (why : Why) → IsLimited told → HaltsIn told phase journal why → IsWithin told journal
limits-within told phase journal why low h = go (halts-within told (let pairs = low.pairs in omega (arith, pairs)) (let steps = low.steps in omega (arith, steps)) phase journal why h)
  where
    go : IsWithinRuns told journal → IsWithin told journal
    go w = record { pairs = w.pairs; steps = w.steps }
