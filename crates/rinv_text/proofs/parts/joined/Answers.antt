use Rattle.rinv_text.proofs.Low.{low-fits}
use Rattle.rinv_text.proofs.Crossings.{none-over, some-over, over-first, over-second, over-both}
use Rattle.rinv_text.proofs.parts.joined.Goals as goal

pub returns-in_default : goal.returns-in_default
returns-in_default c = λ d e f g h k. over-first c.args.ring.now.coeffs c.args.ring.now.vars d e f g c.args.second (none-over c.args.ring.now.coeffs c.args.ring.now.vars d f c.args.first c.in_default.is h) k

pub returns-in_default-second : goal.returns-in_default-second
returns-in_default-second c = λ d e f g h k.
    over-second c.args.ring.now.coeffs c.args.ring.now.vars d e f g c.in-Some.first (none-over c.args.ring.now.coeffs c.args.ring.now.vars e g c.args.second c.in_default-second.is k)
    (some-over c.args.ring.now.coeffs c.args.ring.now.vars d f c.in-Some.first c.args.first c.in-Some.is h)

pub multiplied-requires-clause-fits : goal.multiplied-requires-clause-fits
multiplied-requires-clause-fits c =
    let m = c.requires in
    low-fits c.args.ring.now.coeffs c.args.ring.now.vars m.left m.right c.in-Some.first c.in-Some-second.second m.low
    (some-over c.args.ring.now.coeffs c.args.ring.now.vars m.left m.f c.in-Some.first c.args.first c.in-Some.is m.first).low
    (some-over c.args.ring.now.coeffs c.args.ring.now.vars m.right m.g c.in-Some-second.second c.args.second c.in-Some-second.is m.second).low

pub returns : goal.returns
returns c = λ d e f g h k.
    over-both c.args.ring.now.coeffs c.args.ring.now.vars d e f g c.in-Some.first c.in-Some-second.second c.in_ok-den.den
    (some-over c.args.ring.now.coeffs c.args.ring.now.vars d f c.in-Some.first c.args.first c.in-Some.is h)
    (some-over c.args.ring.now.coeffs c.args.ring.now.vars e g c.in-Some-second.second c.args.second c.in-Some-second.is k)
    c.in_ok-den.ensures.element c.in_ok-den.ensures.value
