use Rattle.std.proofs.Common.{ℕ, ◌≡◌, ◌∙◌, ap, arith, get_or}
use Rattle.std.proofs.lemmas.List.{get_or_default}
use Rattle.rinv_algebra.specs.Polynomial.{Term}
use Rattle.rinv_frac.proofs.LeastExponents.{least-step}
use Rattle.rinv_frac.proofs.common.least_exponent.Goals as goal

pub returns-then-least-eq0-clause-greatest : goal.returns-then-least-eq0-clause-greatest
returns-then-least-eq0-clause-greatest c = λ m low all.
    let h = c.loop-mono.invariant.greatest m low (λ i d inside. all i d (omega (arith, inside, c.loop-mono-test.true))) in
    omega (arith, h, c.if-least-eq0.true)

pub loop-mono-preserved : goal.loop-mono-preserved
loop-mono-preserved c =
    let n = c.loop-mono.mono-index in
    let terms = c.args.terms.now in
    let t = c.loop-mono-item.result in
    let at : (d : Term ℕ) → c.exponent_or_zero.result ≡ get_or (get_or terms n d).0 c.args.k 0 = λ d. c.exponent_or_zero.ensures ∙ ap (λ (s : Term ℕ). get_or s.0 c.args.k 0) (c.loop-mono-item.is ∙ get_or_default terms n t d (omega (arith, c.loop-mono-test.true))) in
    let e = c.min-least.ensures in
    let s = least-step c.args.start terms c.args.k n c.loop-mono.least c.exponent_or_zero.result at c.loop-mono.invariant in
    rw e s
