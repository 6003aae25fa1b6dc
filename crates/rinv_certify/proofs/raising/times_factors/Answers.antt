use Rattle.std.proofs.Common.{◌∙◌, ℕ, length, ap, subst, subst₂, nat_lt}
use Rattle.std.proofs.lemmas.Result.{err_from_is_err_and}
use Rattle.rinv_algebra.specs.Ring.{IsSame}
use Rattle.rinv_algebra.specs.Residue.{residue_ops}
use Rattle.rinv_algebra.specs.Polynomial.{poly_ops, product}
use Rattle.rinv_algebra.specs.Normal.{IsNormal}
use Rattle.rinv_algebra.proofs.PolynomialLaws.{poly_laws}
use Rattle.rinv_algebra.proofs.ResidueLaws.{residue_laws}
use Rattle.rinv_ring.specs.Fault.{DegreesMeet}
use Rattle.rinv_poly.specs.Faults.{MonomialsMeet}
use Rattle.rinv_poly.proofs.Meets.{meet-weaker}
use Rattle.rinv_text.specs.Told.{Told}
use Rattle.rinv_certify.specs.Meets.{FactorsMeet}
use Rattle.rinv_certify.proofs.Factors.{factor-meets, factor-more}
use Rattle.rinv_certify.proofs.raising.times_factors.Goals as goal

pub factors-init : goal.factors-init
factors-init c = let p = c.args.system.now.system.p in record { normal = c.requires.polynomial; value = (poly_laws (residue_ops p) (residue_laws p)).same_refl c.args.f }

pub factors-preserved : goal.factors-preserved
factors-preserved c =
    let s = c.args.system.now.system in
    let field = c.new-space.ensures.ring ∙ ap (λ (t : Told). t.system.p) c.system.view_is in
    let vars = c.new-space.ensures.count ∙ c.len.ensures.len ∙ ap (λ (t : Told). length t.system.space) c.system.view_is in
    record {
      normal = subst₂ (λ (p v : ℕ). IsNormal (residue_ops p) (λ n. nat_lt n p) v c.in_ok-product.product) field vars c.in_ok-product.ensures.normal;
      value = factor-more s c.args.f c.args.factors.now c.factors.k c.index-factors-k.result c.factors-test.true c.index-factors-k.is c.factors.product c.factors.invariant.value c.in_ok-product.product
          (subst (λ (p : ℕ). IsSame (poly_ops (residue_ops p)) c.in_ok-product.product (product (residue_ops p) c.factors.product c.index-factors-k.result)) field c.in_ok-product.ensures.value);
    }

pub returns-in_err-product-clause-degree : goal.returns-in_err-product-clause-degree
returns-in_err-product-clause-degree c =
    let s = c.args.system.now.system in
    let field = c.new-space.ensures.ring ∙ ap (λ (t : Told). t.system.p) c.system.view_is in
    let q = err_from_is_err_and c.from_residual.result c.from_residual.ensures.1 in
    rw (q.1, q.2) (meet-weaker (MonomialsMeet (residue_ops s.p) c.factors.product c.index-factors-k.result) (FactorsMeet s c.args.f c.args.factors.now)
    (factor-meets s c.args.f c.args.factors.now c.factors.k c.index-factors-k.result c.factors-test.true c.index-factors-k.is c.factors.product c.factors.invariant.value) c.in_err-product.field-0.0
    (subst (λ (p : ℕ). DegreesMeet (MonomialsMeet (residue_ops p) c.factors.product c.index-factors-k.result) c.in_err-product.field-0.0) field c.in_err-product.ensures.degree))
