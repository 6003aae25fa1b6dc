use Rattle.std.proofs.Common.{◌≡◌, length}
use Rattle.rinv_algebra.specs.Polynomial.{Term}
use Rattle.rinv_div.specs.Arranged.{put_over, put_between}
use Rattle.rinv_div.proofs.Arranging.{arranged-vars}
use Rattle.rinv_div.proofs.MovedLast.{All-reversed}
use Rattle.rinv_div.proofs.replacing.place.Goals as goal

pub place_of-requires-clause-terms : goal.place_of-requires-clause-terms
place_of-requires-clause-terms g c =
    rw c.deref.ensures.value (All-reversed (λ (t : Term _). length t.0 ≡ c.args.vars) c.args.left.now.items (arranged-vars (g.O.MonoOrder.cmp c.args.order.now) (g.R.Ring.ops c.args.coeffs.now) (g.R.Ring.is_element c.args.coeffs.now) c.args.vars _ c.requires.left))

pub returns-in-Ok-clause-placed : goal.returns-in-Ok-clause-placed
returns-in-Ok-clause-placed g c = put_over c.in-Ok.k (rw c.deref.ensures.value at c.in-Ok.ensures.inside) (rw c.deref.ensures.value at c.in-Ok.ensures.some) c.put_over-moved.ensures

pub returns-in_ok-moved-in-Err-clause-placed : goal.returns-in_ok-moved-in-Err-clause-placed
returns-in_ok-moved-in-Err-clause-placed g c = put_between c.in-Err.k (rw c.deref.ensures.value at c.in-Err.ensures.place) c.in_ok-moved-in-Err.ensures
