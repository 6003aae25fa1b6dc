use Rattle.std.proofs.Common.{reverse, sym, ap, ◌∙◌}
use Rattle.rinv_text.specs.declared.step.Step.{Step}
use Rattle.rinv_text.specs.Evaluation.{step}
use Rattle.rinv_text.specs.Meanings.{meanings, named_at}
use Rattle.rinv_text.proofs.Piles.{none-returns}
use Rattle.rinv_text.proofs.value.value_after.Goals as goal

pub returns-in_ok-value-in-Variable : goal.returns-in_ok-value-in-Variable
returns-in_ok-value-in-Variable c = λ gs hs pile e.
    none-returns c.args.field.now.base.coeffs c.args.field.now.base.vars (reverse c.args.stack.now.items) c.in_ok-value-in-Variable.value gs hs (named_at c.args.field.now.base.coeffs c.args.field.now.base.vars c.args.defs.now c.in-Variable.k) pile
    (sym (ap (λ (n : Step). step (meanings c.args.field.now.base.coeffs (named_at c.args.field.now.base.coeffs c.args.field.now.base.vars c.args.defs.now)) n gs) c.in-Variable.is) ∙ e)
    (λ z h. c.in_ok-value-in-Variable.ensures z h)
