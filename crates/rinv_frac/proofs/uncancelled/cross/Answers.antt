use Rattle.rinv_frac.proofs.Crossed.{low-left, low-right, by_view, by_view_turned}
use Rattle.rinv_frac.proofs.uncancelled.cross.Goals as goal

pub returns-clause-left : goal.returns-clause-left
returns-clause-left c =
    let p = c.args.ring.now.coeffs in
    by_view p c.args.ring.now.vars c.args.a.now c.args.b.now (λ f. f.0) (λ f. f.1) (low-left p) (low-right p) c.a.view_is c.b.view_is c.in_ok-left.left c.in_ok-left.ensures.value

pub returns-clause-right : goal.returns-clause-right
returns-clause-right c =
    let p = c.args.ring.now.coeffs in
    by_view_turned p c.args.ring.now.vars c.args.a.now c.args.b.now (λ f. f.0) (λ f. f.1) (low-left p) (low-right p) c.a.view_is c.b.view_is c.in_ok-right.right c.in_ok-right.ensures.value

pub returns-clause-den : goal.returns-clause-den
returns-clause-den c =
    let p = c.args.ring.now.coeffs in
    by_view p c.args.ring.now.vars c.args.a.now c.args.b.now (λ f. f.1) (λ f. f.1) (low-right p) (low-right p) c.a.view_is c.b.view_is c.in_ok-den.den c.in_ok-den.ensures.value
