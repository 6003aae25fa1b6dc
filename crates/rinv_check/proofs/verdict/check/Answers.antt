use Rattle.std.proofs.Common.{◌∙◌, sym, ap, refl, ℕ, Some}
use Rattle.rinv_defs.specs.Accepted.{first_failure}
use Rattle.rinv_defs.proofs.Sound.{accepted-is_invariant}
use Rattle.rinv_defs.proofs.LawsHold.{accepted-laws_hold}
use Rattle.rinv_soundness.proofs.Expressed.{accepted_sound}
use Rattle.rinv_cert.specs.Seen.{plain}
use Rattle.rinv_check.proofs.FirstFailures.{format_fails, first_failure-trimmed}
use Rattle.rinv_check.proofs.verdict.check.Goals as goal

pub returns-in-Err-Part-clause-exact : goal.returns-in-Err-Part-clause-exact
returns-in-Err-Part-clause-exact c =
    ap (λ (i : ℕ). Some (1, i)) c.in-Err-Part.index-is ∙ sym (format_fails (plain c.args.certificate.now) _ c.in-Err-Part.index refl (rw c.in-Err-Part.field-0-is at c.in-Err-Part.ensures.part))

pub returns-clause-exact : goal.returns-clause-exact
returns-clause-exact c = c.in_ok-verdict.ensures ∙ ap first_failure c.in-Ok.ensures.keys ∙ first_failure-trimmed (plain c.args.certificate.now)

pub returns-clause-invariant : goal.returns-clause-invariant
returns-clause-invariant c = λ none. accepted-is_invariant (plain c.args.certificate.now) (sym (returns-clause-exact c) ∙ none)

pub returns-clause-laws : goal.returns-clause-laws
returns-clause-laws c = λ none other. accepted-laws_hold (plain c.args.certificate.now) (sym (returns-clause-exact c) ∙ none) other

pub returns-clause-sound : goal.returns-clause-sound
returns-clause-sound c = λ none whole. accepted_sound (plain c.args.certificate.now) whole (sym (returns-clause-exact c) ∙ none)
