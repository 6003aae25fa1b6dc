use Rattle.std.proofs.Common.{rules, ◌≡◌, ◌+◌, max, ℕ, subst, sym, arith}
use Rattle.rinv_fits.proofs.Greatest.{IsGreatest, greatest-all, greatest-more}
use Rattle.rinv_fits.proofs.degrees.greatest_degree.Goals as goal

pub terms-preserved : goal.terms-preserved
terms-preserved c =
    let f = c.args.terms.now in
    let k = c.terms.k in
    let e : c.max-greatest.result ≡ max c.degree.result c.terms.greatest = search rules in
    subst (λ (n : ℕ). IsGreatest f (k + 1) n) (sym e)
    (greatest-more f k c.terms.greatest c.degree.result c.index-terms-k.result (omega (arith, c.terms-test.true)) c.index-terms-k.is c.degree.ensures.value (rw c.degree.ensures.value c.degree.ensures.limit) c.terms.invariant)

pub returns-clause-all : goal.returns-clause-all
returns-clause-all c = greatest-all c.args.terms.now c.terms.k c.terms.greatest (omega (arith, c.terms-test.false)) c.terms.invariant
