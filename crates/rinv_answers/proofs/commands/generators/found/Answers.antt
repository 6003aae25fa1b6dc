use Rattle.std.proofs.Common.{ℕ, List, ◌∙◌, ap}
use Rattle.rinv_text.specs.Told.{Told}
use Rattle.rinv_lines.specs.declared.ending.Ending.{Ending}
use Rattle.rinv_lines.specs.declared.ending.Ending.TheVariants.{Done, Denied, Refused, Incomplete}
use Rattle.rinv_answers.specs.GeneratorLines.{gen_text}
use Rattle.rinv_answers.specs.Commands.Generators.{IsFound, IsUnfound}
use Rattle.rinv_answers.proofs.Generators.{complete-of}
use Rattle.rinv_answers.proofs.commands.generators.found.Goals as goal

unfound-found : (told : Told) (text : List ℕ) (ending : Ending) → IsUnfound told text ending → IsFound told text ending
unfound-found told text Done h = absurd h
unfound-found told text Denied h = h
unfound-found told text Refused h = h
unfound-found told text Incomplete h = h

pub returns-in_ok-text-in-Ok : goal.returns-in_ok-text-in-Ok
returns-in_ok-text-in-Ok c = record {
  fractions = c.in-Ok.found.fractions.items;
  complete = complete-of c.args.system.now c.in-Ok.found c.requires.system c.in-Ok.ensures.pieces;
  printed = c.in_ok-text-in-Ok.ensures ∙ ap (gen_text c.args.system.now.system) c.deref.ensures.value;
}

pub returns-in-Err-Answer : goal.returns-in-Err-Answer
returns-in-Err-Answer c =
    rw (c.in-Err-Answer.text-is, c.in-Err-Answer.ending-is)
    (unfound-found c.args.system.now c.in-Err-Answer.text.items c.in-Err-Answer.ending (rw c.in-Err-Answer.field-0-is at c.in-Err-Answer.ensures.stop))
