use Rattle.std.proofs.Common.{ℕ, List}
use Rattle.rinv_text.specs.Told.{Told}
use Rattle.rinv_lines.specs.declared.ending.Ending.{Ending}
use Rattle.rinv_lines.specs.declared.ending.Ending.TheVariants.{Done, Denied, Refused, Incomplete}
use Rattle.rinv_answers.specs.Commands.Laws.{IsTested, IsUnlawful}
use Rattle.rinv_answers.proofs.commands.laws.tested.Goals as goal

unlawful-tested : (told : Told) (text : List ℕ) (ending : Ending) → IsUnlawful told text ending → IsTested told text ending
unlawful-tested told text Done h = absurd h
unlawful-tested told text Denied h = h
unlawful-tested told text Refused h = h
unlawful-tested told text Incomplete h = h

pub returns-in-Err-Answer : goal.returns-in-Err-Answer
returns-in-Err-Answer c =
    rw (c.in-Err-Answer.text-is, c.in-Err-Answer.ending-is)
    (unlawful-tested c.args.system.now c.in-Err-Answer.text.items c.in-Err-Answer.ending (rw c.in-Err-Answer.field-0-is at c.in-Err-Answer.ensures.stop))
