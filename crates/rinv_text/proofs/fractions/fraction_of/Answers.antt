use Rattle.std.proofs.Common.{◌≡◌, Err}
use Rattle.rinv_text.specs.declared.fault.TextFault.{TextFault}
use Rattle.rinv_text.specs.declared.fault.TextCode.TheVariants.{Expression}
use Rattle.rinv_text.specs.Automaton.{initial, parsed}
use Rattle.rinv_text.specs.Stops.{AreRefused, fraction_refusal}
use Rattle.rinv_text.proofs.Denoted.{tokens-malformed, fault-weaker}
use Rattle.rinv_text.proofs.fractions.fraction_of.Goals as goal

pub returns-in-Ok-clause-value : goal.returns-in-Ok-clause-value
returns-in-Ok-clause-value c = λ names ps seen. c.accepted.ensures.value names ps c.args.end (record { tokens = seen; steps = rw c.deref.ensures.value c.in-Ok.ensures.ok })

pub returns-in-Err-clause-fault : goal.returns-in-Err-clause-fault
returns-in-Err-clause-fault c = λ names ps seen.
    fault-weaker (λ (f : TextFault). (parsed c.args.end initial c.args.tokens.now ≡ Err f.place) × (f.code ≡ Expression)) (AreRefused (fraction_refusal c.args.field.now.base.coeffs names c.args.defs.now ps) ps c.args.end)
    (λ f h. tokens-malformed c.args.field.now.base.coeffs c.args.known.now ps c.args.end c.args.tokens.now seen.are (fraction_refusal c.args.field.now.base.coeffs names c.args.defs.now ps) f h.0 h.1)
    c.in-Err.stop c.in-Err.ensures.fault
