use Rattle.std.proofs.Common.{◌∙◌, ap, sym}
use Rattle.rinv_cert.specs.Seen.{plain}
use Rattle.rinv_check.specs.Verdicts.{failure_of}
use Rattle.rinv_verdict.proofs.Accepted.{format_failure-accepted}
use Rattle.rinv_verdict.proofs.checking.answer.Goals as goal

pub yes_lines-requires : goal.yes_lines-requires
yes_lines-requires c = format_failure-accepted _ (sym c.in_ok-check.ensures.exact ∙ ap failure_of c.in-Yes.is)

pub returns-in-Yes : goal.returns-in-Yes
returns-in-Yes c = record {
  certificate = plain c.in-Ok.certificate;
  denoted = c.in-Ok.ensures.ok;
  accepted = sym c.in_ok-check.ensures.exact ∙ ap failure_of c.in-Yes.is;
  invariant = c.in_ok-check.ensures.invariant (ap failure_of c.in-Yes.is);
  laws = c.in_ok-check.ensures.laws (ap failure_of c.in-Yes.is);
  complete = c.in_ok-check.ensures.sound (ap failure_of c.in-Yes.is);
  printed = c.in_ok-text-in-Yes.ensures;
}
