use Rattle.std.proofs.Common.{inr}
use Rattle.std.proofs.lemmas.Result.{err_from_is_err_and}
use Rattle.rinv_rewrite.specs.Prepared.{symbol_relations}
use Rattle.rinv_rewrite.proofs.rewriting.rewritten_by.Goals as goal

pub returns-in_err-tested-clause-answer : goal.returns-in_err-tested-clause-answer
returns-in_err-tested-clause-answer c =
    let q = err_from_is_err_and c.from_residual.result c.from_residual.ensures.1 in
    λ ts tied ready. rw (q.1, q.2) (c.in_err-tested.ensures.stop c.args.fractions.now (symbol_relations c.args.system.now.system.p ts))

pub returns-in-Err-Degree-clause-answer : goal.returns-in-Err-Degree-clause-answer
returns-in-Err-Degree-clause-answer c =
    λ ts tied ready. inr (c.in_ok-tested.ensures.invariant, (rw c.in-Err-Degree.field-0-is at (c.in-Err-Degree.ensures ts tied ready)))
