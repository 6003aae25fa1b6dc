use Rattle.std.proofs.Common.{◌≡◌, [], false, nat_lt, sym, refl, ◌∙◌, arith}
use Rattle.std.proofs.lemmas.List.Elements.{All-nil}
use Rattle.rinv_algebra.specs.Residue.{residue_ops}
use Rattle.rinv_algebra.specs.Normal.{IsNormal}
use Rattle.rinv_algebra.specs.Ideal.{combination}
use Rattle.rinv_algebra.specs.Fits.{product_fits, combination_fits}
use Rattle.rinv_algebra.proofs.PolynomialLaws.{poly_laws}
use Rattle.rinv_algebra.proofs.ResidueLaws.{residue_laws}
use Rattle.rinv_poly.specs.Sums.{sum_of}
use Rattle.rinv_sub.proofs.Sums.{combination_fits-more, combination_fits-stuck}
use Rattle.rinv_identities.proofs.SumsOfProducts.{sum-more}
use Rattle.rinv_identities.proofs.sums.products_of.Goals as goal

pub products-init : goal.products-init
unfolding combination combination_fits
products-init c =
    let p = c.args.ring.now.coeffs in
    rw c.new-products.ensures.items (record { normal = All-nil (IsNormal (residue_ops p) (λ x. nat_lt x p) c.args.ring.now.vars); sum = (poly_laws (residue_ops p) (residue_laws p)).same_refl []; fits = refl })

pub returns-then-not-branch-clause-fits : goal.returns-then-not-branch-clause-fits
returns-then-not-branch-clause-fits c =
    let p = c.args.ring.now.coeffs in
    let unfit : product_fits (residue_ops p) c.index-cofactors-k.result c.index-generators-k.result ≡ false = sym c.in_ok-add_product.ensures.fits ∙ c.if-not-branch.true in
    sym (combination_fits-stuck (residue_ops p) (residue_laws p) c.args.cofactors.now c.args.generators.now c.products.k c.index-cofactors-k.result c.index-generators-k.result (omega (arith, c.products-test.true)) c.requires.many
    c.index-cofactors-k.is c.index-generators-k.is unfit)

pub products-preserved : goal.products-preserved
products-preserved c =
    let p = c.args.ring.now.coeffs in
    let us = c.args.cofactors.now in
    let fs = c.args.generators.now in
    let k = c.products.k in
    let u = c.index-cofactors-k.result in
    let f = c.index-generators-k.result in
    record {
      normal = c.in_ok-add_product.ensures.products;
      sum = sum-more p us fs k u f (sum_of c.products.products.items) (sum_of c.add_product.new.products.items) (omega (arith, c.products-test.true)) c.requires.many c.index-cofactors-k.is c.index-generators-k.is c.products.invariant.sum (c.in_ok-add_product.ensures.sum c.if-not-branch.false);
      fits = combination_fits-more (residue_ops p) (residue_laws p) us fs k u f (omega (arith, c.products-test.true)) c.requires.many c.index-cofactors-k.is c.index-generators-k.is c.products.invariant.fits (sym c.in_ok-add_product.ensures.fits ∙ c.if-not-branch.false);
    }
