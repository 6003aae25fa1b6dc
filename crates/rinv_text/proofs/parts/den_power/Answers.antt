use Rattle.rinv_text.proofs.Crossings.{none-over, some-over, over-power}
use Rattle.rinv_text.proofs.parts.den_power.Goals as goal

pub returns-in-None : goal.returns-in-None
returns-in-None c = λ d f h. over-power c.args.ring.now.coeffs c.args.ring.now.vars f c.args.exponent (none-over c.args.ring.now.coeffs c.args.ring.now.vars d f c.args.den c.in-None.is h)

pub returns-in_ok-power-in-Some : goal.returns-in_ok-power-in-Some
returns-in_ok-power-in-Some c = λ d f h. c.in_ok-power-in-Some.ensures d f (some-over c.args.ring.now.coeffs c.args.ring.now.vars d f c.in-Some.den c.args.den c.in-Some.is h)
