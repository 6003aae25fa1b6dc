use Rattle.std.proofs.Common.{◌≡◌, ◌-◌, ◌∙◌, get_or, length, arith, refl}
use Rattle.rinv_algebra.specs.BlockEnds.{sizes_from}
use Rattle.rinv_mono.proofs.Degrees.{low-exponent}
use Rattle.rinv_mono.proofs.PartialSums.{length-sizes}
use Rattle.rinv_mono.proofs.RankLoops.{part-begins, part-place, part-ends}
use Rattle.rinv_mono.proofs.ranks.push_turned.Goals as goal

pub places-init : goal.places-init
places-init c = (c.requires.order, omega arith, part-begins (sizes_from 0 c.args.sums.now) c.args.out.now.items c.args.start c.args.end c.args.end refl)

pub overflow_sub-from : goal.overflow_sub-from
overflow_sub-from c = low-exponent c.args.sums.now (c.places.k - 1) c.from.result c.requires.sums (omega (arith, c.places-test.true, c.places.invariant.1, c.requires.inside)) (c.from.ensures ∙ c.exponent_of.ensures)

pub places-preserved : goal.places-preserved
places-preserved c =
    let read : c.from.result ≡ get_or (sizes_from 0 c.args.sums.now) (c.places.k - 1) 0 = c.from.ensures ∙ c.exponent_of.ensures in (
      omega (arith, c.places-test.true),
      omega (arith, c.places.invariant.1),
      c.in_ok-push.ensures.items
          ∙ part-place (sizes_from 0 c.args.sums.now) c.args.out.now.items c.places.out.items c.args.start c.args.end c.places.k c.from.result c.places-test.true c.places.invariant.1 (omega (arith, c.requires.inside, length-sizes 0 c.args.sums.now)) read c.places.invariant.2,
    )

pub returns : goal.returns
returns c = part-ends (sizes_from 0 c.args.sums.now) c.args.out.now.items c.places.out.items c.args.start c.args.end c.places.k (omega (arith, c.places.invariant.0, c.places-test.false)) c.places.invariant.2
