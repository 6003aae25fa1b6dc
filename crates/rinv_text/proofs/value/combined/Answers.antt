use Rattle.std.proofs.Common.{sym, ap, ◌∙◌}
use Rattle.rinv_text.specs.declared.step.Step.{Step}
use Rattle.rinv_text.specs.Meanings.{negative_meaning, binary}
use Rattle.rinv_text.proofs.value.combined.Goals as goal

pub returns-in-Sum : goal.returns-in-Sum
returns-in-Sum c = λ a b z sa sb e. c.sum.ensures a b z sa sb (sym (ap (λ (n : Step). binary c.args.ring.now.coeffs n a b) c.in-Sum.is) ∙ e)

pub returns-in-Difference : goal.returns-in-Difference
returns-in-Difference c = λ a b z sa sb e. c.sum-in-Difference.ensures a (negative_meaning c.args.ring.now.coeffs b) z sa (c.negative-opposite.ensures b sb) (sym (ap (λ (n : Step). binary c.args.ring.now.coeffs n a b) c.in-Difference.is) ∙ e)

pub returns-in-Product : goal.returns-in-Product
returns-in-Product c = λ a b z sa sb e. c.product.ensures a b z sa sb (sym (ap (λ (n : Step). binary c.args.ring.now.coeffs n a b) c.in-Product.is) ∙ e)

pub returns-in-Quotient : goal.returns-in-Quotient
returns-in-Quotient c = λ a b z sa sb e. c.quotient.ensures a b z sa sb (sym (ap (λ (n : Step). binary c.args.ring.now.coeffs n a b) c.in-Quotient.is) ∙ e)
