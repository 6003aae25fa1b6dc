use Rattle.std.proofs.Common.{refl}
use Rattle.rinv_text.proofs.Standing.{split-alone}
use Rattle.rinv_text.proofs.partial.Partial.whole.Goals as goal

pub returns-clause-value : goal.returns-clause-value
returns-clause-value c = λ d g stored.
    split-alone c.args.ring.now.coeffs c.args.ring.now.vars c.modulus-p.ensures.listed 1 d c.in_ok-summands.summands.items c.args.f g refl c.modulus-p.ensures.least c.in_ok-summands.ensures.items stored
