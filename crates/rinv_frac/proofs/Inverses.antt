-- Inverses of fractions.
--   inverse-value        a fraction that is not zero, times what is the same turned over, is one
use Rattle.std.proofs.Common.{◌≡◌, false}
use Rattle.rinv_algebra.specs.Ring.{RingOps, RingLaws, FieldLaws, IsSame}
use Rattle.rinv_algebra.specs.Polynomial.{poly_ops, product, constant, is_zero}
use Rattle.rinv_algebra.specs.Fraction.{Fraction, over_one, fraction_ops, fraction_product}
use Rattle.rinv_algebra.proofs.PolynomialLaws.{poly_laws}
use Rattle.rinv_algebra.proofs.RingFacts as facts
use Rattle.rinv_theory.proofs.Fields.{fraction_laws}
use Rattle.rinv_frac.proofs.CancelledValues.{one_nonzero}
use Rattle.rinv_frac.proofs.Sums.{product-nonzero, product-value}
use Rattle.rinv_frac.proofs.Values.{value-by_parts}

module _ {E : Type 0} (o : RingOps E) (l : RingLaws o) (F : FieldLaws o) where
  turned : (f : Fraction E) → is_zero o f.0 ≡ false → is_zero o f.1 ≡ false → IsSame (fraction_ops o) ((fraction_ops o).mul f (f.1, f.0)) (fraction_ops o).one
  turned f above below =
      let k = fraction_laws o l F in
      let q = poly_laws o l in
      let P = poly_ops o in
      k.same_trans ((fraction_ops o).mul f (f.1, f.0)) (fraction_product o f (f.1, f.0)) (fraction_ops o).one (k.same_sym (fraction_product o f (f.1, f.0)) ((fraction_ops o).mul f (f.1, f.0)) (product-value o l F f (f.1, f.0) below above))
      (value-by_parts o l (fraction_product o f (f.1, f.0)) (over_one o (constant o o.one)) (product-nonzero o l F f.1 f.0 below above) (one_nonzero o l F)
      (facts.then P q (q.mul_one (product o f.0 f.1)) (facts.then P q (q.mul_comm f.0 f.1) (facts.back P q (facts.one_mul P q (product o f.1 f.0))))))

  -- a fraction that is not zero, times what is the same turned over, is one
  pub inverse-value : (f g : Fraction E) → is_zero o f.0 ≡ false → is_zero o f.1 ≡ false → IsSame (fraction_ops o) g (f.1, f.0) → IsSame (fraction_ops o) ((fraction_ops o).mul f g) (fraction_ops o).one
  inverse-value f g above below s =
      let k = fraction_laws o l F in
      k.same_trans ((fraction_ops o).mul f g) ((fraction_ops o).mul f (f.1, f.0)) (fraction_ops o).one (k.mul_same f f g (f.1, f.0) (k.same_refl f) s) (turned f above below)
