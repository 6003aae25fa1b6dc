use Rattle.std.proofs.Common.{◌∙◌, ◌++◌, List, ℕ, ap, true, map}
use Rattle.std.proofs.lemmas.Result.{err_from_is_err_and}
use Rattle.rinv_script.specs.Stored.{query_of}
use Rattle.rinv_answers.specs.GeneratorLines.{generator_lines}
use Rattle.rinv_queries.specs.Known.{fractions_of}
use Rattle.rinv_queries.specs.Commands.Script.{asking}
use Rattle.rinv_queries.specs.Commands.Rewrite.{IsRewritten}
use Rattle.rinv_queries.specs.Commands.Run.{IsUnknown}
use Rattle.rinv_queries.proofs.Endings.{stops-weaker, unknown-rewritten}
use Rattle.rinv_queries.proofs.Shown.{rewritten-shown}
use Rattle.rinv_queries.proofs.commands.rewrite.rewritten.Goals as goal

pub returns-in_err-known-clause-stop : goal.returns-in_err-known-clause-stop
returns-in_err-known-clause-stop c =
    let script = asking c.args.system.now (map query_of c.args.queries.now) in
    let q = err_from_is_err_and c.from_residual.result c.from_residual.ensures.1 in
    rw (q.1, q.2) (stops-weaker (IsUnknown true c.args.system.now) (IsRewritten script) (unknown-rewritten script) _ c.in_err-known.ensures.stop)

pub returns-clause-shown : goal.returns-clause-shown
returns-clause-shown c =
    let told = c.args.system.now in
    let cs = fractions_of c.in_ok-known.known in
    rewritten-shown told (map query_of c.args.queries.now) cs c.in_ok-page.page c.extend_from_slice.new.self.items _ c.ending_of.result
    c.in_ok-extend_from_slice.ensures.items c.ending_of.ensures c.write_generators.new.out.items c.in_ok-known.ensures.complete
    (c.in_ok-write_generators.ensures ∙ ap (λ (r : List ℕ). r ++ generator_lines told.system cs) c.new-head.ensures.items)
    c.complete_line.ensures c.in_ok-page.ensures.answered
