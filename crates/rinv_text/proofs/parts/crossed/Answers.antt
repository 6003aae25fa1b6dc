use Rattle.std.proofs.Common.{sym, subst}
use Rattle.rinv_algebra.specs.Polynomial.{Polynomial}
use Rattle.std.proofs.Common.{ℕ}
use Rattle.rinv_text.specs.Values.{IsStored}
use Rattle.rinv_text.proofs.Crossings.{none-over, some-over, over-alone}
use Rattle.rinv_text.proofs.parts.crossed.Goals as goal

pub returns-in-None : goal.returns-in-None
returns-in-None c = λ d e f g x h. over-alone c.args.ring.now.coeffs c.args.ring.now.vars c.args.num.scalar d e c.args.num.summands.items f g x (none-over c.args.ring.now.coeffs c.args.ring.now.vars e g c.args.den.now c.in-None.is h)

pub product-requires-clause-fits : goal.product-requires-clause-fits
product-requires-clause-fits c =
    let m = c.requires in
    let stored = some-over c.args.ring.now.coeffs c.args.ring.now.vars m.right m.g c.in-Some.den c.args.den.now c.in-Some.is m.over in
    (m.left, m.right, m.stands.low, (c.in_ok-factor-in-Some.ensures.value m.right m.g (subst (λ (r : Polynomial ℕ). IsStored c.args.ring.now.coeffs c.args.ring.now.vars m.right m.g r) (sym c.in_ok-den-in-Some.ensures) stored)).low, m.low)

pub returns-in_ok-crossed-in-Some : goal.returns-in_ok-crossed-in-Some
returns-in_ok-crossed-in-Some c = λ d e f g x h.
    let stored = some-over c.args.ring.now.coeffs c.args.ring.now.vars e g c.in-Some.den c.args.den.now c.in-Some.is h in
    c.in_ok-crossed-in-Some.ensures d e f g x (c.in_ok-factor-in-Some.ensures.value e g (subst (λ (r : Polynomial ℕ). IsStored c.args.ring.now.coeffs c.args.ring.now.vars e g r) (sym c.in_ok-den-in-Some.ensures) stored))
