use Rattle.std.proofs.Common.{◌≡◌, List, ℕ, arith, drop, sum, ap₂}
use Rattle.std.proofs.lemmas.List.{drop_all}
use Rattle.rinv_algebra.specs.Monomial.{lcm}
use Rattle.rinv_mono.proofs.Pairwise.{sum-lcm-le}
use Rattle.rinv_pairs.proofs.Places.{sum-lcm-place}
use Rattle.rinv_pairs.proofs.multiples.sum_of_greater.Goals as goal

pub overflow_add-degree : goal.overflow_add-degree
overflow_add-degree c = omega (arith, sum-lcm-place c.args.left.now c.args.right.now c.loop-k.k, sum-lcm-le c.args.left.now c.args.right.now)

pub loop-k-preserved : goal.loop-k-preserved
loop-k-preserved c = omega (arith, sum-lcm-place c.args.left.now c.args.right.now c.loop-k.k)

pub returns : goal.returns
unfolding lcm
returns c =
    let none : sum (lcm (drop c.loop-k.k c.args.left.now) (drop c.loop-k.k c.args.right.now)) ≡ 0 = ap₂ (λ (a b : List ℕ). sum (lcm a b)) (drop_all c.loop-k.k c.args.left.now (omega arith)) (drop_all c.loop-k.k c.args.right.now (omega arith)) in
    omega (arith, none)
