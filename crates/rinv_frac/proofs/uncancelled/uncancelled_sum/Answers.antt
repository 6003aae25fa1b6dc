use Rattle.std.proofs.Common.{◌∙◌, sym}
use Rattle.rinv_frac.proofs.Sums.{over_one_case, crossed_case}
use Rattle.rinv_frac.proofs.uncancelled.uncancelled_sum.Goals as goal

pub returns-then-branch-clause-sum : goal.returns-then-branch-clause-sum
returns-then-branch-clause-sum c =
    over_one_case c.args.ring.now.coeffs c.args.ring.now.vars c.args.how c.args.a.now c.args.b.now c.requires.left c.requires.right c.a.view_is c.b.view_is c.in_ok-num.num c.in_ok-sum.sum c.in_ok-num.ensures.element c.in_ok-num.ensures.value c.in_ok-num.ensures.low (sym c.if-branch.true ∙ c.in_ok-are_same.ensures) c.in_ok-sum.ensures

pub returns-clause-sum : goal.returns-clause-sum
returns-clause-sum c =
    crossed_case c.args.ring.now.coeffs c.args.ring.now.vars c.args.how c.args.a.now c.args.b.now c.requires.left c.requires.right c.a.view_is c.b.view_is c.in_ok-products.products.left c.in_ok-products.products.right c.in_ok-num-2.num c.in_ok-products.products.den
    c.in_ok-products.ensures.left c.in_ok-products.ensures.right c.in_ok-products.ensures.den c.in_ok-num-2.ensures.element c.in_ok-num-2.ensures.value c.in_ok-num-2.ensures.low (sym c.if-branch.false ∙ c.in_ok-are_same.ensures)
