use Rattle.std.proofs.Common.{◌∙◌, sym, arith}
use Rattle.rinv_laws.proofs.LawsModulo.{in-more}
use Rattle.rinv_laws.proofs.quickly.are_zero.Goals as goal

pub polynomials-init : goal.polynomials-init
polynomials-init c = λ j low. absurd (omega (arith, low))

pub reduced-requires-clause-divisors : goal.reduced-requires-clause-divisors
reduced-requires-clause-divisors c = rw c.deref.ensures.value c.requires.divisors

pub polynomials-preserved : goal.polynomials-preserved
polynomials-preserved c =
    in-more c.args.ring.now.coeffs c.args.ring.now.vars c.args.basis.now.polys.items c.args.fs.now c.polynomials.k c.index-fs-k.result c.in_ok-rest.rest c.index-fs-k.is c.polynomials-test.true
    (rw c.deref.ensures.value at c.in_ok-rest.ensures) (sym c.is_zero.ensures ∙ c.if-not-is_zero.false) c.polynomials.invariant

pub returns : goal.returns
returns c = λ e j few. c.polynomials.invariant j (omega (arith, few, c.polynomials-test.false))
