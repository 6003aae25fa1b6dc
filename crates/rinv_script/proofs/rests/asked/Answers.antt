use Rattle.std.proofs.lemmas.Result.{err_from_is_err_and}
use Rattle.std.proofs.Common.{ℕ}
use Rattle.rinv_algebra.specs.Fraction.{Fraction}
use Rattle.rinv_system.proofs.StopFacts.{OnCode-weaker}
use Rattle.rinv_script.specs.declared.words.ScriptWord.{ScriptWord}
use Rattle.rinv_script.specs.Queries.{Query}
use Rattle.rinv_script.specs.Words.{AsksOf}
use Rattle.rinv_script.specs.Scripts.{IsScriptRestRefused}
use Rattle.rinv_script.specs.Kept.{IsValueRefused}
use Rattle.rinv_script.proofs.Steps.{query-refused, query-taken}
use Rattle.rinv_script.proofs.rests.asked.Goals as goal

pub returns-in_err-fraction-clause-fault : goal.returns-in_err-fraction-clause-fault
returns-in_err-fraction-clause-fault c = let p = err_from_is_err_and c.from_residual.result c.from_residual.ensures.1 in rw (p.1, p.2)
    (OnCode-weaker (IsValueRefused c.args.draft.now c.ascii_text.result.now c.query_fault-next.result)
    (λ code. (w : ScriptWord) → (ask : Fraction ℕ → Query) → AsksOf w ask → IsScriptRestRefused c.args.draft.now c.args.rest.now w code)
    (query-refused c.args.draft.now c.args.rest.now c.ascii_text.result.now c.query_fault-next.result c.ascii_text.ensures c.query_fault-next.ensures)
    _ c.in_err-fraction.ensures.fault)

pub returns-clause-ok : goal.returns-clause-ok
returns-clause-ok c = query-taken c.args.draft.now c.args.rest.now c.ascii_text.result.now c.query_fault-next.result c.ascii_text.ensures c.query_fault-next.ensures c.in_ok-fraction.fraction _ c.in_ok-fraction.ensures.ok
