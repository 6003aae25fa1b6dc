use Rattle.std.proofs.Common.{◌≡◌, ◌<◌, ◌≤◌, arith}
use Rattle.rinv_gens.proofs.SearchedTerms.{compared-equal, compared-other, found-coefficient, found-element, none-found, passed-more}
use Rattle.rinv_gens.proofs.constants.coefficient_at.Goals as goal

pub terms-init : goal.terms-init
terms-init c = λ i d low. absurd (omega (arith, low))

pub terms-preserved : goal.terms-preserved
terms-preserved c =
    passed-more c.args.mono.now c.args.f.now c.terms.k c.mono.result.now (omega (arith, c.terms-test.true, c.len-k-end.ensures)) c.mono.ensures c.terms.invariant
    (compared-other c.mono.result.now c.args.mono.now c.lex.result c.eq.result c.lex.ensures c.eq.ensures c.if-eq.false)

pub returns-then-eq-clause-element : goal.returns-then-eq-clause-element
returns-then-eq-clause-element c =
    found-element c.args.ring.now.coeffs c.args.ring.now.vars c.args.f.now c.requires.polynomial c.args.mono.now c.terms.k c.coeff.result.now c.mono.result.now (omega (arith, c.terms-test.true, c.len-k-end.ensures)) c.mono.ensures c.coeff.ensures

pub returns-then-eq-clause-value : goal.returns-then-eq-clause-value
returns-then-eq-clause-value c =
    found-coefficient c.args.ring.now.coeffs c.args.ring.now.vars c.args.f.now c.requires.polynomial c.args.mono.now c.terms.k c.coeff.result.now c.mono.result.now (omega (arith, c.terms-test.true, c.len-k-end.ensures)) c.mono.ensures c.coeff.ensures
    (compared-equal c.mono.result.now c.args.mono.now c.lex.result c.eq.result c.lex.ensures c.eq.ensures c.if-eq.true)

pub returns-clause-value : goal.returns-clause-value
returns-clause-value c =
    none-found c.args.ring.now.coeffs c.args.ring.now.vars c.args.f.now c.requires.polynomial c.args.mono.now c.requires.vars c.terms.k (omega (arith, c.terms-test.false, c.len-k-end.ensures)) c.terms.invariant
