use Rattle.std.proofs.Common.{◌+◌, sym, subst, ◌∙◌}
use Rattle.rinv_system.specs.declared.refused.Code.TheVariants.{Missing}
use Rattle.rinv_system.specs.LineTexts.{IsRefusedText}
use Rattle.rinv_system.proofs.reader.read_text.Goals as goal

pub returns-in-Some-clause-fault : goal.returns-in-Some-clause-fault
returns-in-Some-clause-fault g c = IsRefusedText.bad_byte (sym c.in-Some.ensures)

pub returns-then-not-has_all-clause-fault : goal.returns-then-not-has_all-clause-fault
returns-then-not-has_all-clause-fault g c =
    subst (λ n. IsRefusedText (g.R.LineReader.refuses) (g.R.LineReader.takes) c.args.blank (g.R.LineReader.is_whole) c.args.bytes.now (record { line = n + 1; code = Missing })) (sym c.in_ok-reader.ensures.count.0)
    (IsRefusedText.unfinished (sym c.in_default.ensures) c.in_ok-reader.ensures.taken (sym c.has_all.ensures ∙ c.if-not-has_all.true))

pub returns-clause-ok : goal.returns-clause-ok
returns-clause-ok g c = record { good_bytes = sym c.in_default.ensures; taken = c.in_ok-reader.ensures.taken; whole = sym c.has_all.ensures ∙ c.if-not-has_all.false }
