use Rattle.std.proofs.Common.{List, reverse, sym, subst, ◌∙◌}
use Rattle.rinv_text.specs.declared.parts.Parts.{Parts}
use Rattle.rinv_text.specs.Meanings.{meanings, named_at, Piled}
use Rattle.rinv_text.proofs.Stepwise.{step-some, evaluate-on, outcome-end, pushed}
use Rattle.rinv_text.proofs.Piles.{whole-there, whole-stands}
use Rattle.rinv_text.proofs.value.value_of.Goals as goal

pub value_after-requires-clause-may : goal.value_after-requires-clause-may
value_after-requires-clause-may c =
    let (gs, pile, rest) = c.loop-step.invariant in
    let (g, e) = c.requires.may in
    let (hs, s) = step-some (meanings c.args.field.now.base.coeffs (named_at c.args.field.now.base.coeffs c.args.field.now.base.vars c.args.defs.now)) c.args.steps.now c.loop-step.step-index gs rest _ g c.loop-step-test.true e in
    (gs, hs, pile, s)

pub loop-step-preserved : goal.loop-step-preserved
loop-step-preserved c =
    let (gs, pile, rest) = c.loop-step.invariant in
    let (g, e) = c.requires.may in
    let (hs, s) = step-some (meanings c.args.field.now.base.coeffs (named_at c.args.field.now.base.coeffs c.args.field.now.base.vars c.args.defs.now)) c.args.steps.now c.loop-step.step-index gs rest _ g c.loop-step-test.true e in (
      hs,
      subst (λ (l : List Parts). Piled c.args.field.now.base.coeffs c.args.field.now.base.vars l hs) (pushed c.push.new.self.items c.value_after.new.stack.items c.in_ok-value.value c.in_ok-push.ensures.items) (c.in_ok-value.ensures gs hs pile s),
      evaluate-on (meanings c.args.field.now.base.coeffs (named_at c.args.field.now.base.coeffs c.args.field.now.base.vars c.args.defs.now)) c.args.steps.now c.loop-step.step-index gs rest _ hs c.loop-step-test.true (sym s),
    )

pub take_top-whole-requires : goal.take_top-whole-requires
take_top-whole-requires c =
    let (gs, pile, rest) = c.loop-step.invariant in
    let (g, e) = c.requires.may in
    whole-there c.args.field.now.base.coeffs c.args.field.now.base.vars (reverse c.loop-step.stack.items) gs g pile (outcome-end (meanings c.args.field.now.base.coeffs (named_at c.args.field.now.base.coeffs c.args.field.now.base.vars c.args.defs.now)) c.args.steps.now c.loop-step.step-index gs rest c.loop-step-test.false ∙ e)

pub returns : goal.returns
returns c = λ g e.
    let (gs, pile, rest) = c.loop-step.invariant in
    whole-stands c.args.field.now.base.coeffs c.args.field.now.base.vars (reverse c.loop-step.stack.items) (reverse c.take_top-whole.new.stack.items) c.take_top-whole.result gs g c.take_top-whole.ensures pile
    (outcome-end (meanings c.args.field.now.base.coeffs (named_at c.args.field.now.base.coeffs c.args.field.now.base.vars c.args.defs.now)) c.args.steps.now c.loop-step.step-index gs rest c.loop-step-test.false ∙ e)
