use Rattle.std.proofs.Common.{◌∙◌, ap₂}
use Rattle.rinv_buch.specs.Kinds.{journal_of}
use Rattle.rinv_answers.specs.Incomplete.{incomplete_line}
use Rattle.rinv_certificates.specs.Commands.Certify.{IsCutShort}
use Rattle.rinv_certificates.proofs.Halts.{halt-within}
use Rattle.rinv_certificates.proofs.stopping.halted.Goals as goal

pub returns-in-Incomplete : goal.returns-in-Incomplete
returns-in-Incomplete c = IsCutShort.in_phase (record {
  phase = c.in-Incomplete.phase;
  journal = journal_of c.in-Incomplete.journal.items;
  why = c.in-Incomplete.why;
  halts = rw c.in-Incomplete.is at c.requires.stop;
  within = halt-within c.args.system.now c.in-Incomplete.phase (journal_of c.in-Incomplete.journal.items) c.in-Incomplete.why c.requires.limits (rw c.in-Incomplete.is at c.requires.stop);
  printed = c.in_ok-text-in-Incomplete.ensures ∙ ap₂ incomplete_line c.phase_of.ensures c.cause_of-cause.ensures;
})
