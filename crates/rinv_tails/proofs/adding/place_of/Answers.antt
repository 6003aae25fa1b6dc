use Rattle.std.proofs.Common.{◌∙◌, sym, arith}
use Rattle.rinv_tails.proofs.Gaps.{above-more, is-there, gap-before, gap-end}
use Rattle.rinv_tails.proofs.adding.place_of.Goals as goal

pub terms-preserved : goal.terms-preserved
terms-preserved c = above-more c.args.mono.now c.args.terms.now c.terms.k c.index-terms-k.result (omega (arith, c.terms-test.true)) c.index-terms-k.is c.terms.invariant (sym c.compare.ensures ∙ c.in-Greater.is)

pub returns-in-Equal-clause-there : goal.returns-in-Equal-clause-there
returns-in-Equal-clause-there c =
    let low = c.terms-test.true in
    is-there c.args.mono.now c.args.terms.now c.terms.k c.index-terms-k.result low c.index-terms-k.is (c.requires.vars c.terms.k c.index-terms-k.result low) (sym c.compare.ensures ∙ c.in-Equal.is)

pub returns-in-Less-clause-gap : goal.returns-in-Less-clause-gap
returns-in-Less-clause-gap c = gap-before c.args.mono.now c.args.terms.now c.terms.k c.index-terms-k.result c.requires.descending c.terms-test.true c.index-terms-k.is c.terms.invariant (sym c.compare.ensures ∙ c.in-Less.is)

pub returns-clause-gap : goal.returns-clause-gap
returns-clause-gap c = gap-end c.args.mono.now c.args.terms.now c.terms.k (omega (arith, c.terms-test.false)) c.terms.invariant
