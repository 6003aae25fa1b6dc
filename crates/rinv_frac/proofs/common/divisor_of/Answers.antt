use Rattle.std.proofs.Common.{◌<◌, refl, arith}
use Rattle.rinv_algebra.specs.Monomial.{total_degree, max_degree}
use Rattle.rinv_frac.proofs.LeastExponents.{low-sum}
use Rattle.rinv_frac.proofs.common.divisor_of.Goals as goal

pub unreachable-requires : goal.unreachable-requires
unreachable-requires c =
    let none = rw c.in-None.is at c.in_ok-mono.ensures.none in
    let high : max_degree < total_degree c.args.exponents.now = none.0 refl in
    let low = low-sum c.args.exponents.now c.args.of.now c.requires.least in
    omega (arith, high, low, c.degree-low.ensures.limit)
