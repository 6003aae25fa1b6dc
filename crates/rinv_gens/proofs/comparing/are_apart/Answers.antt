use Rattle.std.proofs.Common.{◌≡◌, ◌∙◌, false, refl}
use Rattle.rinv_algebra.specs.Polynomial.{is_zero}
use Rattle.rinv_gens.proofs.Apart.{apart-answer, lead-over, nonzero-over, numerator-nonzero}
use Rattle.rinv_gens.proofs.comparing.are_apart.Goals as goal

pub lead-n-requires-clause-nonzero : goal.lead-n-requires-clause-nonzero
lead-n-requires-clause-nonzero c =
    let base = c.args.field.now.base in
    let first : c.base-ring.result.now.coeffs ≡ base.coeffs = rw c.base-ring.ensures refl in
    nonzero-over base.coeffs c.base-ring.result.now.coeffs c.num.result.now c.args.a.now.0 first c.num.ensures
    (numerator-nonzero base.coeffs base.vars c.args.a.now c.is_zero.result c.requires.left c.is_zero.ensures c.if-is_zero.false)

pub lead-m-requires-clause-nonzero : goal.lead-m-requires-clause-nonzero
lead-m-requires-clause-nonzero c =
    let base = c.args.field.now.base in
    let first : c.base-ring.result.now.coeffs ≡ base.coeffs = rw c.base-ring.ensures refl in
    nonzero-over base.coeffs c.base-ring.result.now.coeffs c.num-2.result.now c.args.b.now.0 first c.num-2.ensures
    (numerator-nonzero base.coeffs base.vars c.args.b.now c.is_zero-else-is_zero.result c.requires.right c.is_zero-else-is_zero.ensures c.if-is_zero-2.false)

pub returns : goal.returns
returns c = λ e.
    let base = c.args.field.now.base in
    let ring = c.base-ring.result.now in
    let first : ring.coeffs ≡ base.coeffs = rw c.base-ring.ensures refl in
    let a = c.args.a.now in
    let b = c.args.b.now in
    apart-answer base.coeffs base.vars a b c.requires.left c.requires.right
    (numerator-nonzero base.coeffs base.vars a c.is_zero.result c.requires.left c.is_zero.ensures c.if-is_zero.false)
    (numerator-nonzero base.coeffs base.vars b c.is_zero-else-is_zero.result c.requires.right c.is_zero-else-is_zero.ensures c.if-is_zero-2.false)
    c.lead-n.result.now c.lead-e.result.now c.lead-m.result.now c.lead-d.result.now
    (lead-over base.coeffs ring.coeffs c.num.result.now a.0 c.lead-n.result.now first c.num.ensures c.lead-n.ensures.monomial)
    (lead-over base.coeffs ring.coeffs c.den-2.result.now b.1 c.lead-e.result.now first c.den-2.ensures c.lead-e.ensures.monomial)
    (lead-over base.coeffs ring.coeffs c.num-2.result.now b.0 c.lead-m.result.now first c.num-2.ensures c.lead-m.ensures.monomial)
    (lead-over base.coeffs ring.coeffs c.den.result.now a.1 c.lead-d.result.now first c.den.ensures c.lead-d.ensures.monomial)
    (c.are_products_apart.ensures e)
