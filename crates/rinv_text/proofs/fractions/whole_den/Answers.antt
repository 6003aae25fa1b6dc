use Rattle.rinv_text.proofs.Crossings.{some-over}
use Rattle.rinv_text.proofs.KeptFractions.{one-kept}
use Rattle.rinv_text.proofs.fractions.whole_den.Goals as goal

pub returns-in_ok-one-in-None : goal.returns-in_ok-one-in-None
returns-in_ok-one-in-None c = λ d f h. one-kept c.args.ring.now.coeffs c.args.ring.now.vars d f c.in_ok-one-in-None.one c.args.den c.in-None.is h c.in_ok-one-in-None.ensures.element c.in_ok-one-in-None.ensures.value

pub returns-in-Some : goal.returns-in-Some
returns-in-Some c = λ d f h. some-over c.args.ring.now.coeffs c.args.ring.now.vars d f c.in-Some.den c.args.den c.in-Some.is h
