use Rattle.rinv_frac.proofs.Crossed.{low-left, low-right, by_view}
use Rattle.rinv_frac.proofs.Sums.{product_case}
use Rattle.rinv_frac.proofs.uncancelled.uncancelled_product.Goals as goal

pub returns-clause-product : goal.returns-clause-product
returns-clause-product c =
    let p = c.args.ring.now.coeffs in
    let v = c.args.ring.now.vars in
    let a = c.args.a.now in
    let b = c.args.b.now in
    product_case p v a b c.requires.left c.requires.right c.in_ok-num.num c.in_ok-den.den
    (by_view p v a b (λ f. f.0) (λ f. f.0) (low-left p) (low-left p) c.a.view_is c.b.view_is c.in_ok-num.num c.in_ok-num.ensures.value)
    (by_view p v a b (λ f. f.1) (λ f. f.1) (low-right p) (low-right p) c.a.view_is c.b.view_is c.in_ok-den.den c.in_ok-den.ensures.value)
