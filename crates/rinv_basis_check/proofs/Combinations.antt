-- Sums of quotients times elements, and products that stay below a monomial.
--   combined-same         whether a polynomial is the sum depends on its coefficients alone
--   fits-at               each product of a sum that fits does
--   all-next, all-ends    a test of all elements, by those that are left
--   zip-at                what stands at a place of two lists
use Rattle.std.proofs.Common.{◌≡◌, ℕ, zero, suc, ◌+◌, ◌<◌, ◌≤◌, Bool, true, false, ◌&&◌, List, [], ◌∷◌, length, zip, get_or, drop, refl, sym, ap, ◌∙◌, arith, add-one, drop-cons}
use Rattle.std.specs.List.{list_all}
use Rattle.std.proofs.lemmas.List.{drop_all}
use Rattle.rinv_algebra.specs.Ring.{IsSame}
use Rattle.rinv_algebra.specs.Residue.{residue_ops}
use Rattle.rinv_algebra.specs.Polynomial.{poly_ops}
use Rattle.rinv_algebra.specs.Ideal.{combination}
use Rattle.rinv_algebra.specs.Fits.{product_fits, combination_fits, multiplies_out}
use Rattle.rinv_algebra.proofs.Degrees.{same-left}
use Rattle.rinv_algebra.proofs.PolynomialLaws.{poly_laws}
use Rattle.rinv_algebra.proofs.ResidueLaws.{residue_laws}
use Rattle.rinv_algebra.proofs.Same.{both}
use Rattle.rinv_defs.specs.System.{Poly}

module _ (p : ℕ) where
  -- whether a polynomial is the sum depends on its coefficients alone
  pub combined-same : (f g : Poly) (us fs : List Poly) → IsSame (poly_ops (residue_ops p)) f g → multiplies_out (residue_ops p) f us fs ≡ multiplies_out (residue_ops p) g us fs
  combined-same f g us fs is =
      ap (λ (b : Bool). combination_fits (residue_ops p) us fs && b) (same-left (poly_ops (residue_ops p)) (poly_laws (residue_ops p) (residue_laws p)) f g (combination (residue_ops p) us fs) is)

  -- each product of a sum that fits does
  pub fits-at : (us fs : List Poly) → combination_fits (residue_ops p) us fs ≡ true → (k : ℕ) (u f : Poly) → k < length us → k < length fs → u ≡ get_or us k u → f ≡ get_or fs k f → product_fits (residue_ops p) u f ≡ true
  unfolding combination_fits
  fits-at [] fs fits k u f few many at at' = absurd (omega (arith, few))
  fits-at (v ∷ us) [] fits k u f few many at at' = absurd (omega (arith, many))
  fits-at (v ∷ us) (g ∷ fs) fits zero u f few many at at' = rw (at, at') (both (product_fits (residue_ops p) v g) (combination_fits (residue_ops p) us fs) fits).0
  fits-at (v ∷ us) (g ∷ fs) fits (suc k) u f few many at at' = fits-at us fs (both (product_fits (residue_ops p) v g) (combination_fits (residue_ops p) us fs) fits).1 k u f (omega (arith, few)) (omega (arith, many)) at at'

-- what stands at a place of two lists
pub zip-at : {A B : Type 0} (xs : List A) (ys : List B) (k : ℕ) (x : A) (y : B) → k < length xs → k < length ys → x ≡ get_or xs k x → y ≡ get_or ys k y → drop k (zip xs ys) ≡ (x, y) ∷ drop (k + 1) (zip xs ys)
zip-at xs ys k x y few many at at' = rw (add-one) (step xs ys k x y few many at at')
  where
    step : {A B : Type 0} (xs : List A) (ys : List B) (k : ℕ) (x : A) (y : B) → k < length xs → k < length ys → x ≡ get_or xs k x → y ≡ get_or ys k y → drop k (zip xs ys) ≡ (x, y) ∷ drop (suc k) (zip xs ys)
    step [] ys k x y few many at at' = absurd (omega (arith, few))
    step (a ∷ xs) [] k x y few many at at' = absurd (omega (arith, many))
    step (a ∷ xs) (b ∷ ys) zero x y few many at at' = rw (at, at') refl
    step (a ∷ xs) (b ∷ ys) (suc k) x y few many at at' = step xs ys k x y (omega (arith, few)) (omega (arith, many)) at at'

-- what stands at a place of a list
pub drop-at : {A : Type 0} (xs : List A) (k : ℕ) (x : A) → k < length xs → x ≡ get_or xs k x → drop k xs ≡ x ∷ drop (k + 1) xs
drop-at xs k x within is = rw (add-one, drop-cons xs k x within, ← is) refl

-- a test of all elements, by those that are left
pub all-next : {A : Type 0} (test : A → Bool) (x : A) (xs rest : List A) (whole : Bool) → xs ≡ x ∷ rest → test x ≡ true → list_all test xs ≡ whole → list_all test rest ≡ whole
all-next test x xs rest whole e is h = sym (ap (λ (b : Bool). b && list_all test rest) is) ∙ sym (ap (list_all test) e) ∙ h

pub all-fails : {A : Type 0} (test : A → Bool) (x : A) (xs rest : List A) (whole : Bool) → xs ≡ x ∷ rest → test x ≡ false → list_all test xs ≡ whole → false ≡ whole
all-fails test x xs rest whole e is h = sym (ap (λ (b : Bool). b && list_all test rest) is) ∙ sym (ap (list_all test) e) ∙ h

pub all-ends : {A : Type 0} (test : A → Bool) (k : ℕ) (xs : List A) (whole : Bool) → length xs ≤ k → list_all test (drop k xs) ≡ whole → true ≡ whole
all-ends test k xs whole past h = sym (ap (list_all test) (drop_all k xs past)) ∙ h
