use Rattle.std.proofs.Common.{◌∙◌, ap₂}
use Rattle.rinv_buch.specs.Kinds.{journal_of}
use Rattle.rinv_answers.specs.Incomplete.{incomplete_line}
use Rattle.rinv_answers.specs.Commands.Generators.{IsGenDenial}
use Rattle.rinv_answers.proofs.Generators.{limits-within}
use Rattle.rinv_answers.proofs.commands.generators.generated.Goals as goal

pub returns-in-Err-Missed-clause-stop : goal.returns-in-Err-Missed-clause-stop
returns-in-Err-Missed-clause-stop c = IsGenDenial.missed c.in-Err-Missed.element (rw c.in-Err-Missed.field-0-is at c.in-Err-Missed.ensures.stop) c.in_ok-text-in-Err-Missed.ensures

pub returns-in-Err-Incomplete-clause-stop : goal.returns-in-Err-Incomplete-clause-stop
returns-in-Err-Incomplete-clause-stop c = record {
  phase = c.in-Err-Incomplete.phase;
  journal = journal_of c.in-Err-Incomplete.field-0-1.items;
  why = c.in-Err-Incomplete.why;
  halts = rw c.in-Err-Incomplete.field-0-is at c.in-Err-Incomplete.ensures.stop;
  within = limits-within c.args.system.now c.in-Err-Incomplete.phase (journal_of c.in-Err-Incomplete.field-0-1.items) c.in-Err-Incomplete.why c.requires.limits (rw c.in-Err-Incomplete.field-0-is at c.in-Err-Incomplete.ensures.stop);
  printed = c.in_ok-text-in-Err-Incomplete.ensures ∙ ap₂ incomplete_line c.phase_of.ensures c.cause_of-cause.ensures;
}
