use Rattle.std.proofs.Common.{arith, [], ◌++◌, ◌≤◌}
use Rattle.std.proofs.lemmas.List.{take_all}
use Rattle.std.proofs.lemmas.List.Elements.{All-nil}
use Rattle.rinv_algebra.specs.Polynomial.{product}
use Rattle.rinv_poly.specs.Terms.{FitWith, IsTerm}
use Rattle.rinv_poly.proofs.Units.{nil-normal}
use Rattle.rinv_poly.proofs.Gather.{same-refl, same-then}
use Rattle.rinv_poly.proofs.Built.{piece-more, All-taken}
use Rattle.rinv_poly.proofs.pieces.product_by_pieces.Goals as goal

pub loop-mono-init : goal.loop-mono-init
unfolding product
loop-mono-init g c =
    let o = g.R.Ring.ops c.args.coeffs.now in
    let l = g.R.Ring.laws c.args.coeffs.now in
    let e = g.R.Ring.is_element c.args.coeffs.now in
    rw (c.new-sum.ensures.items, c.new-piece.ensures.items)
    (record { normal = nil-normal o l e c.args.vars; terms = All-nil (IsTerm e c.args.vars); fits = All-nil (λ s. FitWith s.0 c.args.b.now); value = same-refl o l [] })

pub loop-mono-preserved : goal.loop-mono-preserved
loop-mono-preserved g c =
    let o = g.R.Ring.ops c.args.coeffs.now in
    let l = g.R.Ring.laws c.args.coeffs.now in
    let t = c.loop-mono-item.result in
    record {
      normal = c.in_ok-so_far.ensures.sum;
      terms = c.in_ok-so_far.ensures.piece;
      fits = All-taken (λ s. FitWith s.0 c.args.b.now) c.args.a.now c.loop-mono.mono-index t (omega arith) c.loop-mono-item.is c.loop-mono.invariant.fits c.in_ok-push_products.ensures.fits;
      value = piece-more o l c.loop-mono.sum.items c.loop-mono.piece.items c.push_products.new.out.items (c.in_ok-so_far.so_far.items ++ c.in_ok-so_far.left.items) c.args.a.now c.args.b.now c.loop-mono.mono-index t (omega arith) c.loop-mono-item.is c.loop-mono.invariant.value c.in_ok-push_products.ensures.value
          c.in_ok-so_far.ensures.value;
    }

pub returns-clause-value : goal.returns-clause-value
returns-clause-value g c =
    let o = g.R.Ring.ops c.args.coeffs.now in
    let l = g.R.Ring.laws c.args.coeffs.now in
    let a = c.args.a.now in
    let whole = take_all c.loop-mono.mono-index a c.loop-mono-test.false in
    same-then o l c.in_ok-product.product.items (c.loop-mono.sum.items ++ c.loop-mono.piece.items) (product o a c.args.b.now) c.in_ok-product.ensures.value (rw whole at c.loop-mono.invariant.value)
