use Rattle.std.proofs.Common.{◌≡◌, ◌+◌, ◌-◌, ◌∙◌, false, length, refl, sym, subst, arith}
use Rattle.rinv_queries.specs.declared.outcome.Outcome.{Outcome}
use Rattle.rinv_bench.specs.Summary.{is_rewritten}
use Rattle.rinv_bench.proofs.Summaries.{ends, step, none-left, found-at, none-printed, printed}
use Rattle.rinv_bench.proofs.summary.write_last.Goals as goal

pub outcomes-init : goal.outcomes-init
outcomes-init c = (refl, ends c.args.outcomes.now)

pub outcomes-preserved : goal.outcomes-preserved
outcomes-preserved c = (
  c.outcomes.invariant.0,
  step c.outcomes.i _ c.args.outcomes.now _ c.outcomes-test.true refl c.outcomes.invariant.1 (subst (λ (o : Outcome). is_rewritten o ≡ false) c.index-outcomes-place.is c.in-None.ensures),
)

pub returns-in-Some : goal.returns-in-Some
returns-in-Some c =
    let os = c.args.outcomes.now in
    printed c.args.system.now.system c.args.symbols.now os c.args.out.now.items (length os - 1 - c.outcomes.i + 1) c.in-Some.expression.now c.outcomes.out.items _ _
    c.outcomes.invariant.0 c.in_ok-write_head-in-Some.ensures c.in_ok-write_expression-in-Some.ensures
    (found-at c.outcomes.i (length os - 1 - c.outcomes.i) os _ c.in-Some.expression.now c.outcomes-test.true refl c.outcomes.invariant.1 (sym c.index-outcomes-place.is ∙ c.in-Some.ensures))

pub returns : goal.returns
returns c =
    let os = c.args.outcomes.now in
    let whole : c.outcomes.i ≡ length os = omega (arith, c.outcomes-test.false, c.outcomes.auto.i-end) in
    none-printed c.args.system.now.system c.args.symbols.now os c.args.out.now.items _ c.outcomes.invariant.0 (none-left c.outcomes.i os whole c.outcomes.invariant.1)
