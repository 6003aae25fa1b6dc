use Rattle.std.proofs.Common.{sym, ◌∙◌}
use Rattle.rinv_identities.proofs.SumsOfProducts.{zero-fits, zero-adds, product-adds}
use Rattle.rinv_identities.proofs.sums.add_product.Goals as goal

pub returns-then-is_zero-clause-fits : goal.returns-then-is_zero-clause-fits
returns-then-is_zero-clause-fits c = sym (zero-fits c.args.ring.now.coeffs c.args.cofactor.now c.args.generator.now (sym c.is_zero.ensures ∙ c.if-is_zero.true))

pub returns-then-is_zero-clause-sum : goal.returns-then-is_zero-clause-sum
returns-then-is_zero-clause-sum c = λ _. zero-adds c.args.ring.now.coeffs _ c.args.cofactor.now c.args.generator.now (sym c.is_zero.ensures ∙ c.if-is_zero.true)

pub returns-in_ok-push-in-Ok-clause-sum : goal.returns-in_ok-push-in-Ok-clause-sum
returns-in_ok-push-in-Ok-clause-sum c = λ _.
    rw c.in_ok-push-in-Ok.ensures.items (product-adds c.args.ring.now.coeffs c.args.products.now.items c.in-Ok.product c.args.cofactor.now c.args.generator.now c.in-Ok.ensures.value)
