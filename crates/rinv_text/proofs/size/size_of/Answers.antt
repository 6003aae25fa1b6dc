use Rattle.std.proofs.Common.{◌+◌, drop, ◌∷◌, List, All, reverse, ap, sym, subst, ◌∙◌}
use Rattle.std.proofs.lemmas.List.Elements.{All-push}
use Rattle.rinv_text.specs.declared.size.Size.{Size}
use Rattle.rinv_text.specs.Evaluation.{evaluate}
use Rattle.rinv_text.specs.Reading.{formal_at}
use Rattle.rinv_text.specs.Sizes.{sizes, IsSize}
use Rattle.rinv_text.proofs.Stepwise.{outcome-none, evaluate-on, outcome-end, pushed}
use Rattle.rinv_text.proofs.size.size_of.Goals as goal

pub returns-in_default : goal.returns-in_default
returns-in_default c = outcome-none (sizes (formal_at c.args.count c.args.defs.now)) c.args.steps.now c.loop-step.step-index (reverse c.loop-step.stack.items) c.loop-step.invariant.rest _ c.loop-step-test.true c.in_default.ensures.value

pub loop-step-preserved : goal.loop-step-preserved
loop-step-preserved c = record {
  all = subst (λ (l : List Size). All IsSize l) (sym c.in_ok-push.ensures.items) (All-push IsSize c.size_after.new.stack.items c.in-Some.size c.in-Some.ensures.left c.in-Some.ensures.size);
  rest =
      evaluate-on (sizes (formal_at c.args.count c.args.defs.now)) c.args.steps.now c.loop-step.step-index (reverse c.loop-step.stack.items) c.loop-step.invariant.rest _ (c.in-Some.size ∷ reverse c.size_after.new.stack.items) c.loop-step-test.true c.in-Some.ensures.value
      ∙ ap (λ (l : List Size). evaluate (sizes (formal_at c.args.count c.args.defs.now)) (drop (c.loop-step.step-index + 1) c.args.steps.now) l) (pushed c.push.new.self.items c.size_after.new.stack.items c.in-Some.size c.in_ok-push.ensures.items);
}

pub returns : goal.returns
returns c =
    c.take_top.ensures ∙ outcome-end (sizes (formal_at c.args.count c.args.defs.now)) c.args.steps.now c.loop-step.step-index (reverse c.loop-step.stack.items) c.loop-step.invariant.rest c.loop-step-test.false
