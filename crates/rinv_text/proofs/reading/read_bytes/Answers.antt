use Rattle.std.proofs.Common.{◌≡◌, Err, length, ◌∙◌}
use Rattle.rinv_text.specs.declared.fault.TextFault.{TextFault}
use Rattle.rinv_text.specs.declared.fault.TextCode.TheVariants.{Expression}
use Rattle.rinv_text.specs.Automaton.{initial, parsed}
use Rattle.rinv_text.specs.Tokens.{tokens}
use Rattle.rinv_text.specs.Stops.{IsRefused, refusal}
use Rattle.rinv_text.proofs.Denoted.{tokens-malformed, fault-weaker}
use Rattle.rinv_text.proofs.reading.read_bytes.Goals as goal

pub returns-clause-fault : goal.returns-clause-fault
returns-clause-fault c =
    fault-weaker (λ (f : TextFault). (parsed (length c.args.bytes.now) initial c.deref.result.now ≡ Err f.place) × (f.code ≡ Expression)) (IsRefused c.args.names.now c.args.bytes.now)
    (λ f h. tokens-malformed c.args.field.now c.args.names.now (tokens c.args.bytes.now) (length c.args.bytes.now) c.deref.result.now (c.deref.ensures.value ∙ c.in_ok-tokens.ensures) (refusal c.args.names.now (tokens c.args.bytes.now)) f h.0 h.1)
    c.in-Err.stop c.in-Err.ensures.fault
