use Rattle.std.proofs.Common.{arith}
use Rattle.rinv_frac.proofs.LeastExponents.{least-both, least-push}
use Rattle.rinv_frac.proofs.common.least_exponents.Goals as goal

pub loop-k-preserved : goal.loop-k-preserved
loop-k-preserved c = record {
  long = omega (arith, c.in_ok-push.ensures.len, c.loop-k.invariant.long);
  least = least-push c.args.first.now c.args.num.now c.args.den.now c.loop-k.out.items c.push.new.self.items c.loop-k.k c.least_exponent.result c.in_ok-push.ensures.items c.loop-k.invariant.long c.loop-k.invariant.least
      (least-both c.args.first.now c.args.num.now c.args.den.now c.loop-k.k c.exponent_or_zero.result c.least_exponent-low.result c.least_exponent.result c.exponent_or_zero.ensures c.least_exponent-low.ensures.start c.least_exponent-low.ensures.terms c.least_exponent-low.ensures.greatest
      c.least_exponent.ensures.start c.least_exponent.ensures.terms c.least_exponent.ensures.greatest);
}
