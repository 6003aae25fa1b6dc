use Rattle.std.proofs.Common.{◌≡◌, ◌<◌, ◌≤◌, arith}
use Rattle.rinv_algebra.specs.Residue.{residue_ops}
use Rattle.rinv_algebra.specs.Polynomial.{poly_ops}
use Rattle.rinv_algebra.proofs.PolynomialLaws.{poly_laws}
use Rattle.rinv_algebra.proofs.ResidueLaws.{residue_laws}
use Rattle.rinv_rewrite.specs.Symbols.{is_symbolic}
use Rattle.rinv_rewrite.proofs.SearchedCoefficients.{compared-equal, compared-other, found-coefficient, found-element, none-found, passed-more}
use Rattle.rinv_rewrite.proofs.coefficients.coefficient_at.Goals as goal

pub terms-init : goal.terms-init
terms-init c = λ i d low. absurd (omega (arith, low))

pub terms-preserved : goal.terms-preserved
terms-preserved c =
    passed-more c.args.mono.now c.args.f.now c.terms.k c.mono.result.now c.mono.ensures c.terms.invariant
    (compared-other c.mono.result.now c.args.mono.now c.lex.result c.eq.result c.lex.ensures c.eq.ensures c.if-eq.false)

pub copy-requires : goal.copy-requires
copy-requires c =
    let p = c.args.ring.now.coeffs.coeffs in
    rw c.coeffs.ensures (found-element (poly_ops (residue_ops p)) (poly_laws (residue_ops p) (residue_laws p)) (is_symbolic p c.args.ring.now.coeffs.vars) c.args.ring.now.vars c.args.f.now c.requires.polynomial c.args.mono.now c.terms.k c.coeff.result.now c.mono.result.now
    (omega (arith, c.terms-test.true, c.len-k-end.ensures)) c.mono.ensures c.coeff.ensures)

pub returns-then-eq-clause-element : goal.returns-then-eq-clause-element
returns-then-eq-clause-element c =
    let p = c.args.ring.now.coeffs.coeffs in
    rw c.in_ok-coefficient.ensures (found-element (poly_ops (residue_ops p)) (poly_laws (residue_ops p) (residue_laws p)) (is_symbolic p c.args.ring.now.coeffs.vars) c.args.ring.now.vars c.args.f.now c.requires.polynomial c.args.mono.now c.terms.k c.coeff.result.now c.mono.result.now
    (omega (arith, c.terms-test.true, c.len-k-end.ensures)) c.mono.ensures c.coeff.ensures)

pub returns-then-eq-clause-value : goal.returns-then-eq-clause-value
returns-then-eq-clause-value c =
    let p = c.args.ring.now.coeffs.coeffs in
    rw c.in_ok-coefficient.ensures (found-coefficient (poly_ops (residue_ops p)) (poly_laws (residue_ops p) (residue_laws p)) (is_symbolic p c.args.ring.now.coeffs.vars) c.args.ring.now.vars c.args.f.now c.requires.polynomial c.args.mono.now c.terms.k c.coeff.result.now c.mono.result.now
    (omega (arith, c.terms-test.true, c.len-k-end.ensures)) c.mono.ensures c.coeff.ensures (compared-equal c.mono.result.now c.args.mono.now c.lex.result c.eq.result c.lex.ensures c.eq.ensures c.if-eq.true))

pub returns-clause-element : goal.returns-clause-element
returns-clause-element c = rw c.coeffs-2.ensures at c.in_ok-zero.ensures.element

pub returns-clause-value : goal.returns-clause-value
returns-clause-value c =
    let p = c.args.ring.now.coeffs.coeffs in
    let zero = rw c.coeffs-2.ensures at c.in_ok-zero.ensures.value in
    none-found (poly_ops (residue_ops p)) (poly_laws (residue_ops p) (residue_laws p)) (is_symbolic p c.args.ring.now.coeffs.vars) c.args.ring.now.vars c.args.f.now c.requires.polynomial c.args.mono.now c.requires.vars c.terms.k
    (omega (arith, c.terms-test.false, c.len-k-end.ensures)) c.terms.invariant c.in_ok-zero.zero zero
