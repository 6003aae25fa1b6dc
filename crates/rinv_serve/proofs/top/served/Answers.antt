use Rattle.std.proofs.Common.{◌≡◌, ◌∙◌, Err, codes, refl, sym, ap, inr}
use Rattle.rinv_lines.specs.declared.ending.Ending.TheVariants as ends
use Rattle.rinv_serve.specs.declared.status.Status.TheVariants.{ReadFault, NoMemory}
use Rattle.rinv_serve.proofs.Ranges.{in-range}
use Rattle.rinv_serve.proofs.Runs.{run-sent}
use Rattle.rinv_serve.proofs.top.served.Goals as goal

pub answer-requires-clause-numbers : goal.answer-requires-clause-numbers
answer-requires-clause-numbers g c = in-range c.args.words.now c.in-Some.command (sym c.command_of.ensures ∙ c.in-Some.is)

pub returns-in-Err-TooLong-clause-run : goal.returns-in-Err-TooLong-clause-run
returns-in-Err-TooLong-clause-run g c =
    let many = c.in-Err-TooLong.ensures.too_long (ap Err c.in-Err-TooLong.field-0-is) in
    run-sent c.args.words.now _ _ _ _ _ _ (codes "refused input too long\n") ends.Refused _
    (record { asked = c.in-Some.command; words_ask = sym c.command_of.ensures ∙ c.in-Some.is; defined = inr (record { reading = many.0; bytes = many.1.0; taken = many.1.1; many = many.1.2; refused = refl; printed = refl }) })
    c.send-in-Err-TooLong.ensures

-- the status is another: a fault in its place is refused at once, where a search would look for its cause
pub returns-clause-read : goal.returns-clause-read
returns-clause-read g c = λ (e : NoMemory ≡ ReadFault). cc
