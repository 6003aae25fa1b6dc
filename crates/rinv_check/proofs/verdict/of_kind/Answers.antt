use Rattle.std.proofs.Common.{◌∙◌, sym, ap}
use Rattle.rinv_cert.specs.Seen.{kind_of}
use Rattle.rinv_check.proofs.FirstFailures.{of_invariance, of_sound, of_full}
use Rattle.rinv_check.proofs.verdict.of_kind.Goals as goal

pub returns-in_ok-verdict-in-Invariance : goal.returns-in_ok-verdict-in-Invariance
returns-in_ok-verdict-in-Invariance c = c.in_ok-verdict-in-Invariance.ensures ∙ sym (of_invariance _ (ap kind_of c.in-Invariance.is) c.requires)

pub returns-in_ok-verdict-in-Sound : goal.returns-in_ok-verdict-in-Sound
returns-in_ok-verdict-in-Sound c = c.in_ok-verdict-in-Sound.ensures ∙ sym (of_sound _ (ap kind_of c.in-Sound.is) c.requires)

pub returns-in_ok-verdict-in-Full : goal.returns-in_ok-verdict-in-Full
returns-in_ok-verdict-in-Full c = c.in_ok-verdict-in-Full.ensures ∙ sym (of_full _ (ap kind_of c.in-Full.is) c.requires)
