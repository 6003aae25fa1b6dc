use Rattle.std.proofs.Common.{◌≡◌, ◌<◌, ◌≤◌, ◌∙◌, List, [], length, get_or, refl, sym, ap₂, subst₂, inl, arith}
use Rattle.std.proofs.lemmas.Result.{err_from_is_err_and}
use Rattle.std.proofs.lemmas.List.{take_all, get_or_default}
use Rattle.rinv_algebra.specs.Residue.{residue_ops}
use Rattle.rinv_algebra.specs.Fits.{combination_fits}
use Rattle.rinv_algebra.proofs.ResidueLaws.{residue_laws}
use Rattle.rinv_defs.specs.System.{Poly}
use Rattle.rinv_poly.specs.Faults.{MonomialsMeet}
use Rattle.rinv_poly.proofs.Meets.{meet-weaker}
use Rattle.rinv_sub.specs.Refusal.{in_product}
use Rattle.rinv_sub.proofs.Sums.{combination_fits-more}
use Rattle.rinv_fits.specs.Sums.{SumsMeet}
use Rattle.rinv_fits.proofs.products.check_sums.Goals as goal

pub products-init : goal.products-init
unfolding combination_fits
products-init c = refl

pub returns-in_err-check_product-clause-degree : goal.returns-in_err-check_product-clause-degree
returns-in_err-check_product-clause-degree c =
    let p = c.args.ring.now.coeffs in
    let us = c.args.cofactors.now in
    let fs = c.args.generators.now in
    let u = c.index-cofactors-k.result in
    let f = c.index-generators-k.result in
    let k = c.products.k in
    let below : k < length us = omega (arith, c.products-test.true) in
    let few : k < length fs = omega (arith, below, c.requires.many) in
    let au : u ≡ get_or us k [] = c.index-cofactors-k.is ∙ get_or_default us k u [] below in
    let af : f ≡ get_or fs k [] = c.index-generators-k.is ∙ get_or_default fs k f [] few in
    let q = err_from_is_err_and c.from_residual.result c.from_residual.ensures.1 in
    rw (q.1, q.2) (meet-weaker (MonomialsMeet (residue_ops p) u f) (SumsMeet p c.args.ring.now.vars us fs)
    (λ x y h. in_product k below (inl (subst₂ (λ (a b : Poly). MonomialsMeet (residue_ops p) a b x y) au af h))) c.in_err-check_product.field-0.0 c.in_err-check_product.ensures.degree)

pub products-preserved : goal.products-preserved
products-preserved c =
    let p = c.args.ring.now.coeffs in
    combination_fits-more (residue_ops p) (residue_laws p) c.args.cofactors.now c.args.generators.now c.products.k c.index-cofactors-k.result c.index-generators-k.result (omega (arith, c.products-test.true)) c.requires.many
    c.index-cofactors-k.is c.index-generators-k.is c.products.invariant c.in_ok-check_product.ensures.fits

pub returns-clause-fits : goal.returns-clause-fits
returns-clause-fits c =
    let us = c.args.cofactors.now in
    let fs = c.args.generators.now in
    let past : length us ≤ c.products.k = omega (arith, c.products-test.false) in
    let past' : length fs ≤ c.products.k = omega (arith, past, c.requires.many) in
    sym (ap₂ (λ (xs ys : List Poly). combination_fits (residue_ops c.args.ring.now.coeffs) xs ys) (take_all c.products.k us past) (take_all c.products.k fs past')) ∙ c.products.invariant
