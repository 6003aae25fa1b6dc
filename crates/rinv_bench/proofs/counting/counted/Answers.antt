use Rattle.std.proofs.Common.{◌∙◌, Bool, ap, refl}
use Rattle.std.specs.Prelude.{if◌then◌else◌}
use Rattle.rinv_bench.specs.Summary.{is_rewritten, is_not_invariant}
use Rattle.rinv_bench.proofs.Counts.{more, all}
use Rattle.rinv_bench.proofs.counting.counted.Goals as goal

pub outcomes-init : goal.outcomes-init
outcomes-init c = (refl, refl)

pub outcomes-preserved : goal.outcomes-preserved
outcomes-preserved c =
    let so_far = c.outcomes.invariant in (
      more is_rewritten c.args.outcomes.now c.outcomes.k _ _ _ _ c.outcomes-test.true c.index-outcomes-k.is so_far.0 (c.one_if-rewritten.ensures ∙ ap (λ (b : Bool). if b then 1 else 0) c.is_rewritten.ensures),
      more is_not_invariant c.args.outcomes.now c.outcomes.k _ _ _ _ c.outcomes-test.true c.index-outcomes-k.is so_far.1 (c.one_if-not_invariant.ensures ∙ ap (λ (b : Bool). if b then 1 else 0) c.is_not_invariant.ensures),
    )

pub returns-clause-rewritten : goal.returns-clause-rewritten
returns-clause-rewritten c = all is_rewritten c.args.outcomes.now c.outcomes.k _ c.outcomes-test.false c.outcomes.invariant.0

pub returns-clause-not_invariant : goal.returns-clause-not_invariant
returns-clause-not_invariant c = all is_not_invariant c.args.outcomes.now c.outcomes.k _ c.outcomes-test.false c.outcomes.invariant.1
