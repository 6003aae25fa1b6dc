use Rattle.std.proofs.Common.{map, length, true}
use Rattle.std.proofs.lemmas.Result.{err_from_is_err_and}
use Rattle.rinv_script.specs.Stored.{query_of}
use Rattle.rinv_queries.specs.Commands.Script.{asking}
use Rattle.rinv_queries.specs.Commands.Run.{IsUnknown}
use Rattle.rinv_queries.specs.Cuts.{IsUnanswered}
use Rattle.rinv_queries.specs.Known.{fractions_of}
use Rattle.rinv_queries.proofs.Endings.{stops-weaker}
use Rattle.rinv_bench.specs.Commands.Bench.{IsMeasured}
use Rattle.rinv_bench.proofs.Measures.{sums-up, unknown-measured, unanswered-measured, stored-in, all-suffice}
use Rattle.rinv_bench.proofs.commands.bench.measured.Goals as goal

pub outcomes_of-requires-clause-enough : goal.outcomes_of-requires-clause-enough
outcomes_of-requires-clause-enough c = all-suffice c.in_ok-known.known (map query_of c.args.queries.now) c.in_ok-known.ensures.enough

pub summary-requires-clause-outcomes : goal.summary-requires-clause-outcomes
summary-requires-clause-outcomes c =
    stored-in c.args.system.now.system c.count.result (length (fractions_of c.in_ok-known.known)) c.in_ok-outcomes.outcomes.items c.as_slice.result.now c.count.ensures c.as_slice.ensures.value c.in_ok-outcomes.ensures.stored

pub returns-in_err-known-clause-stop : goal.returns-in_err-known-clause-stop
returns-in_err-known-clause-stop c =
    let script = asking c.args.system.now (map query_of c.args.queries.now) in
    let q = err_from_is_err_and c.from_residual.result c.from_residual.ensures.1 in
    rw (q.1, q.2) (stops-weaker (IsUnknown true c.args.system.now) (IsMeasured c.args.k script) (λ text ending. unknown-measured c.args.k script text ending) _ c.in_err-known.ensures.stop)

pub returns-in_err-outcomes-clause-stop : goal.returns-in_err-outcomes-clause-stop
returns-in_err-outcomes-clause-stop c =
    let script = asking c.args.system.now (map query_of c.args.queries.now) in
    let q = err_from_is_err_and c.from_residual-in_err-outcomes.result c.from_residual-in_err-outcomes.ensures.1 in
    rw (q.1, q.2) (stops-weaker (IsUnanswered script.told script.queries) (IsMeasured c.args.k script) (λ text ending. unanswered-measured c.args.k script text ending) _ c.in_err-outcomes.ensures.stop)

pub returns-clause-shown : goal.returns-clause-shown
returns-clause-shown c =
    sums-up c.args.k c.count.result c.args.system.now (map query_of c.args.queries.now) (fractions_of c.in_ok-known.known) c.in_ok-outcomes.outcomes.items c.as_slice.result.now _
    c.in_ok-known.ensures.complete c.in_ok-outcomes.ensures.answered c.count.ensures c.as_slice.ensures.value c.in_ok-text.ensures
