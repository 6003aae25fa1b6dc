-- One part divided by the other.
--   no-quotient          there is no quotient where the first monomial of the divisor does not divide that of the dividend
--   quotient-nonzero     a quotient of what is not zero is not zero
--   whole-divided, reciprocal-divided, not-divided    the three cases
use Rattle.std.proofs.Common.{◌≡◌, ℕ, Bool, false, [], ◌∷◌, sym, ◌∙◌, subst, subst₂, true≢false}
use Rattle.std.specs.Prelude.{nat_lt}
use Rattle.rinv_algebra.specs.Ring.{RingOps, RingLaws, FieldLaws, IsSame}
use Rattle.rinv_algebra.specs.Residue.{residue_ops}
use Rattle.rinv_algebra.specs.Monomial.{divides}
use Rattle.rinv_algebra.specs.Polynomial.{Term, Polynomial, poly_ops, product, constant, is_zero}
use Rattle.rinv_algebra.specs.Fraction.{Fraction, over_one}
use Rattle.rinv_algebra.proofs.Degrees.{is_zero-same}
use Rattle.rinv_algebra.proofs.PolynomialLaws.{poly_laws}
use Rattle.rinv_algebra.proofs.ResidueLaws.{residue_laws}
use Rattle.rinv_algebra.proofs.ResidueField.{residue_field_laws}
use Rattle.rinv_poly.proofs.Forms.{ordered-from_normal}
use Rattle.rinv_poly.proofs.Dividing.{dividing-start, stuck-divides}
use Rattle.rinv_frac.specs.Fractions.{IsPart}
use Rattle.rinv_frac.specs.Cancelling.{HasQuotient, IsSamePair, IsDividedTo, whole, reciprocal, neither}
use Rattle.rinv_frac.proofs.CancelledValues.{zero_product, not_true}

-- there is no quotient where the first monomial of the divisor does not divide that of the dividend
pub no-quotient : (p v : ℕ) (t u : Term ℕ) (f g : Polynomial ℕ) → IsPart p v (t ∷ f) → IsPart p v (u ∷ g) → divides u.0 t.0 ≡ false → ¬ (HasQuotient (residue_ops p) (t ∷ f) (u ∷ g))
no-quotient p v t u f g nf ng off (k, e) =
    let o = residue_ops p in
    let l = residue_laws p in
    let is = λ (c : ℕ). nat_lt c p in
    let left = ordered-from_normal o is v (t ∷ f) nf in
    let right = ordered-from_normal o is v (u ∷ g) ng in
    stuck-divides o l is v u g right (residue_field_laws p) t (t ∷ f) [] f (dividing-start o l is v u g right (t ∷ f) left) off k e

-- the same of polynomials with these first terms
pub no-quotient-at : (p v : ℕ) {f d : Polynomial ℕ} (t u : Term ℕ) (h g : Polynomial ℕ) → f ≡ t ∷ h → d ≡ u ∷ g → IsPart p v f → IsPart p v d → (b : Bool) → b ≡ divides u.0 t.0 → b ≡ false → ¬ (HasQuotient (residue_ops p) f d)
no-quotient-at p v {f} {d} t u h g ef ed nf nd b is off = subst₂ (λ (x y : Polynomial ℕ). ¬ (HasQuotient (residue_ops p) x y)) (sym ef) (sym ed) (no-quotient p v t u h g (subst (IsPart p v) ef nf) (subst (IsPart p v) ed nd) (sym is ∙ off))

-- a quotient of what is not zero is not zero
pub quotient-nonzero : {E : Type 0} (o : RingOps E) (l : RingLaws o) (F : FieldLaws o) (f k d : Polynomial E) → is_zero o f ≡ false → IsSame (poly_ops o) f (product o k d) → is_zero o k ≡ false
quotient-nonzero o l F f k d n e = not_true o l F (is_zero o k) (λ z. true≢false (sym (is_zero-same o l f (product o k d) e ∙ is_zero-same o l (product o k d) (product o d k) ((poly_laws o l).mul_comm k d) ∙ zero_product o l F d k z) ∙ n))

module _ {E : Type 0} (o : RingOps E) (l : RingLaws o) where
  -- the denominator divides the numerator
  pub whole-divided : {x f : Fraction E} → x ≡ f → (q : Polynomial E) (r : Fraction E) → IsSame (poly_ops o) x.0 (product o q x.1) → IsSamePair o r (over_one o q) → IsDividedTo o f r
  whole-divided {x} {f} at q r e s = record { exact = over_one o q; divided = whole q (subst (λ (y : Fraction E). IsSame (poly_ops o) y.0 (product o q y.1)) at e); pair = s }

  -- it does not, but the numerator divides the denominator
  pub reciprocal-divided : {x f : Fraction E} → x ≡ f → (q : Polynomial E) (r : Fraction E) → ¬ (HasQuotient o x.0 x.1) → IsSame (poly_ops o) x.1 (product o q x.0) → IsSamePair o r (constant o o.one, q) → IsDividedTo o f r
  reciprocal-divided {x} {f} at q r n e s = record {
    exact = (constant o o.one, q);
    divided = reciprocal q (subst (λ (y : Fraction E). ¬ (HasQuotient o y.0 y.1)) at n) (subst (λ (y : Fraction E). IsSame (poly_ops o) y.1 (product o q y.0)) at e);
    pair = s;
  }

  -- neither divides the other
  pub not-divided : {x f : Fraction E} → x ≡ f → ¬ (HasQuotient o x.0 x.1) → ¬ (HasQuotient o x.1 x.0) → IsDividedTo o f f
  not-divided {x} {f} at m n = record {
    exact = f;
    divided = neither (subst (λ (y : Fraction E). ¬ (HasQuotient o y.0 y.1)) at m) (subst (λ (y : Fraction E). ¬ (HasQuotient o y.1 y.0)) at n);
    pair = record { numerator = (poly_laws o l).same_refl f.0; denominator = (poly_laws o l).same_refl f.1 };
  }
