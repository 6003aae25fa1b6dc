use Rattle.std.proofs.Common.{sym, ◌∙◌, arith}
use Rattle.std.proofs.lemmas.Result.{err_from_is_err_and}
use Rattle.rinv_system.specs.Forms.{IsRestRefused}
use Rattle.rinv_system.specs.Texts.{IsLineTaken, IsLineRefused}
use Rattle.rinv_system.proofs.LineSteps.{is_nil, not_nil}
use Rattle.rinv_system.proofs.ShortFacts.{head_of-short}
use Rattle.rinv_system.proofs.StopFacts.{OnCode-weaker}
use Rattle.rinv_system.proofs.line.add_line.Goals as goal

pub returns-then-is_empty-clause-ok : goal.returns-then-is_empty-clause-ok
returns-then-is_empty-clause-ok c = IsLineTaken.empty (is_nil _ (sym c.is_empty.ensures ∙ c.if-is_empty.true))

pub returns-in_default-clause-fault : goal.returns-in_default-clause-fault
returns-in_default-clause-fault c = IsLineRefused.no_word (not_nil _ (sym c.is_empty.ensures ∙ c.if-is_empty.false)) c.in_default.ensures

pub returns-in-Some-order_fault-clause-fault : goal.returns-in-Some-order_fault-clause-fault
returns-in-Some-order_fault-clause-fault c = IsLineRefused.no_place (not_nil _ (sym c.is_empty.ensures ∙ c.if-is_empty.false)) c.in-Some.ensures (sym c.in-Some-order_fault.ensures)

pub add_rest-requires-clause-short : goal.add_rest-requires-clause-short
add_rest-requires-clause-short c = omega (arith, head_of-short c.args.line.now c.in-Some.rest.now c.in-Some.keyword c.in-Some.ensures, c.requires.short)

pub returns-in_err-add_rest-clause-fault : goal.returns-in_err-add_rest-clause-fault
returns-in_err-add_rest-clause-fault c = let p = err_from_is_err_and c.from_residual.result c.from_residual.ensures.1 in rw (p.1, p.2)
    (OnCode-weaker (IsRestRefused c.args.draft.now c.in-Some.rest.now c.in-Some.keyword) (IsLineRefused c.args.draft.now c.args.line.now)
    (λ code h. IsLineRefused.no_rest (not_nil _ (sym c.is_empty.ensures ∙ c.if-is_empty.false)) c.in-Some.ensures (sym c.in_default-order_fault.ensures) h)
    _ c.in_err-add_rest.ensures.fault)

pub returns-clause-ok : goal.returns-clause-ok
returns-clause-ok c = IsLineTaken.taken (not_nil _ (sym c.is_empty.ensures ∙ c.if-is_empty.false)) c.in-Some.ensures (sym c.in_default-order_fault.ensures) c.in_ok-add_rest.ensures.ok
