use Rattle.std.proofs.Common.{◌≡◌, ◌≤◌, length, sym, ap, subst, IsTrue, ◌∙◌, arith}
use Rattle.std.specs.List.{list_all}
use Rattle.std.proofs.lemmas.Bool.Decides.{nat_tests}
use Rattle.rinv_system.specs.Lines.{is_allowed, content_of}
use Rattle.rinv_system.proofs.ShortFacts.{first_line-short, content_of-short}
use Rattle.rinv_system.proofs.ReadFacts.{HasTaken-none, HasTaken-allowed, HasTaken-more, HasTaken-stop, HasTaken-all}
use Rattle.rinv_system.proofs.reader.read_lines.Goals as goal

pub lines-init : goal.lines-init
lines-init g c = (HasTaken-none (g.R.LineReader.takes) _ _ c.requires.good, c.requires.reached, omega arith)

pub add_line-requires-clause-short : goal.add_line-requires-clause-short
add_line-requires-clause-short g c =
    let content : length c.content.result.now ≡ length (content_of c.first_line.result.0.now) = ap length c.content.ensures in
    let le : length c.first_line.result.0.now ≤ length c.lines.rest.now = first_line-short _ _ _ c.first_line.ensures.lines in
    omega (arith, content, content_of-short c.first_line.result.0.now, le, c.lines.invariant.2, c.requires.short)

pub add_line-requires-clause-allowed : goal.add_line-requires-clause-allowed
add_line-requires-clause-allowed g c = subst (λ bs. IsTrue (list_all is_allowed bs)) (sym c.content.ensures)
    (HasTaken-allowed (g.R.LineReader.takes) _ c.args.text.now c.lines.rest.now c.first_line.result.0.now c.first_line.result.1.now c.lines.reader c.lines.count c.first_line.ensures.lines c.lines.invariant.0)

pub returns-in-Err-clause-fault : goal.returns-in-Err-clause-fault
returns-in-Err-clause-fault g c = rw c.stop_at.ensures
    (HasTaken-stop (g.R.LineReader.takes) _ c.args.text.now c.lines.rest.now c.first_line.result.0.now c.first_line.result.1.now c.lines.reader c.lines.count c.first_line.ensures.lines c.lines.invariant.0
    (g.R.LineReader.refuses) (g.R.LineReader.is_whole) c.requires.good c.in-Err.stop
    (rw (sym c.content.ensures) c.in-Err.ensures.fault))

pub lines-preserved : goal.lines-preserved
lines-preserved g c = (
  HasTaken-more (g.R.LineReader.takes) _ c.args.text.now c.lines.rest.now c.first_line.result.0.now c.first_line.result.1.now c.lines.reader c.lines.count c.first_line.ensures.lines c.lines.invariant.0 c.add_line.new.self (rw (sym c.content.ensures) c.in-Ok.ensures.ok),
  c.in-Ok.ensures.reached,
  omega (arith, c.first_line.ensures.shorter, c.lines.invariant.2),
)

pub returns-clause-taken : goal.returns-clause-taken
returns-clause-taken g c =
    let empty = sym c.is_empty.ensures ∙ c.lines-test.false in
    (HasTaken-all (g.R.LineReader.takes) _ c.args.text.now c.lines.rest.now c.lines.reader c.lines.count (grind (arith, nat_tests, empty)) c.lines.invariant.0).0

pub returns-clause-count : goal.returns-clause-count
returns-clause-count g c =
    let empty = sym c.is_empty.ensures ∙ c.lines-test.false in
    ((HasTaken-all (g.R.LineReader.takes) _ c.args.text.now c.lines.rest.now c.lines.reader c.lines.count (grind (arith, nat_tests, empty)) c.lines.invariant.0).1, omega (arith, c.lines.invariant.2, c.requires.short))
