use Rattle.std.proofs.Common.{◌∙◌, sym, arith}
use Rattle.rinv_laws.proofs.LawsModulo.{differ-more}
use Rattle.rinv_laws.proofs.quickly.are_same.Goals as goal

pub places-init : goal.places-init
places-init c = λ j low. absurd (omega (arith, low))

pub reduced-requires-clause-divisors : goal.reduced-requires-clause-divisors
reduced-requires-clause-divisors c = rw c.deref.ensures.value c.requires.divisors

pub places-preserved : goal.places-preserved
places-preserved c =
    differ-more c.args.ring.now.coeffs c.args.ring.now.vars c.args.basis.now.polys.items c.args.left.now c.args.right.now c.places.k c.index-left-k.result c.index-right-k.result c.in_ok-difference.difference c.in_ok-rest.rest
    c.index-left-k.is c.index-right-k.is c.places-test.true c.requires.many c.in_ok-difference.ensures.value (rw c.deref.ensures.value at c.in_ok-rest.ensures) (sym c.is_zero.ensures ∙ c.if-not-is_zero.false) c.places.invariant

pub returns : goal.returns
returns c = λ e j few. c.places.invariant j (omega (arith, few, c.places-test.false))
