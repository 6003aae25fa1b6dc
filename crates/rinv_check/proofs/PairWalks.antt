-- Walks along two lists at once, up to the first pair that fails.
--   pairs-more, pairs-stop, pairs-end     the place of the failure, by the pairs that are left
--   stored-walk                           polynomials as they are stored fail at the same place
use Rattle.std.proofs.Common.{◌≡◌, ℕ, zero, suc, ◌+◌, ◌<◌, ◌≤◌, List, [], ◌∷◌, length, get_or, Bool, true, false, ◌&&◌, not, Some, None, refl, sym, ap, ◌∙◌, arith}
use Rattle.std.specs.Prelude.{zip}
use Rattle.std.specs.List.{position_from}
use Rattle.std.proofs.lemmas.Slice.Zip.{get_or-zip}
use Rattle.rinv_algebra.specs.Ring.{IsSame}
use Rattle.rinv_algebra.specs.Residue.{residue_ops}
use Rattle.rinv_algebra.specs.Polynomial.{poly_ops, same}
use Rattle.rinv_algebra.specs.Ideal.{combination}
use Rattle.rinv_algebra.specs.Fits.{combination_fits, multiplies_out}
use Rattle.rinv_algebra.proofs.PolynomialLaws.{poly_laws}
use Rattle.rinv_algebra.proofs.ResidueLaws.{residue_laws}
use Rattle.rinv_algebra.proofs.RingFacts as facts
use Rattle.rinv_algebra.proofs.Degrees.{iff-equal}
use Rattle.rinv_defs.specs.System.{Poly}
use Rattle.rinv_parts.specs.Points.{AreStored}
use Rattle.rinv_identities.proofs.Walks.{Walks, walk-more, walk-stop, walk-end}

module _ {A B : Type 0} where
  pair-within : (xs : List A) (ys : List B) (k : ℕ) → k < length xs → k < length ys → k < length (zip xs ys)
  pair-within [] ys k h g = absurd (omega (arith, h))
  pair-within (x ∷ xs) [] k h g = absurd (omega (arith, g))
  pair-within (x ∷ xs) (y ∷ ys) zero h g = omega arith
  pair-within (x ∷ xs) (y ∷ ys) (suc k) h g = let e = pair-within xs ys k (omega (arith, h)) (omega (arith, g)) in omega (arith, e)

  pairs-few : (xs : List A) (ys : List B) → length (zip xs ys) ≤ length xs
  pairs-few [] ys = omega arith
  pairs-few (x ∷ xs) [] = omega arith
  pairs-few (x ∷ xs) (y ∷ ys) = let h = pairs-few xs ys in omega arith

  pair-at : (xs : List A) (ys : List B) (k : ℕ) (x : A) (y : B) → k < length xs → k < length ys → x ≡ get_or xs k x → y ≡ get_or ys k y → (x, y) ≡ get_or (zip xs ys) k (x, y)
  pair-at xs ys k x y h g ix iy = sym (get_or-zip xs ys k (x, y) h g ∙ both-are)
    where
      both-are : ◌≡◌ {A = A × B} (get_or xs k x, get_or ys k y) (x, y)
      both-are = rw (← ix, ← iy) refl

  module _ (test : A × B → Bool) (xs : List A) (ys : List B) (k : ℕ) where
    module _ (x : A) (y : B) (h : k < length xs) (g : k < length ys) (ix : x ≡ get_or xs k x) (iy : y ≡ get_or ys k y) (w : Walks test (zip xs ys) k) where
      pub pairs-more : test (x, y) ≡ false → Walks test (zip xs ys) (k + 1)
      pairs-more e = walk-more test (zip xs ys) k (x, y) (pair-within xs ys k h g) (pair-at xs ys k x y h g ix iy) e w

      pub pairs-stop : test (x, y) ≡ true → position_from test 1 (zip xs ys) ≡ Some (k + 1)
      pairs-stop e = walk-stop test (zip xs ys) k (x, y) (pair-within xs ys k h g) (pair-at xs ys k x y h g ix iy) e w

    pub pairs-end : length xs ≤ k → Walks test (zip xs ys) k → position_from test 1 (zip xs ys) ≡ None
    pairs-end past w = walk-end test (zip xs ys) k (let few = pairs-few xs ys in omega (arith, past, few)) w

-- a polynomial that stands for another
multiplies_out-stands : (p : ℕ) (f g : Poly) (us fs : List Poly) → IsSame (poly_ops (residue_ops p)) f g → multiplies_out (residue_ops p) f us fs ≡ multiplies_out (residue_ops p) g us fs
multiplies_out-stands p f g us fs e =
    let ops = poly_ops (residue_ops p) in
    let laws = poly_laws (residue_ops p) (residue_laws p) in
    let sum = combination (residue_ops p) us fs in
    ap (λ b. combination_fits (residue_ops p) us fs && b) (iff-equal (same (residue_ops p) f sum) (same (residue_ops p) g sum) (λ h. facts.then ops laws (facts.back ops laws e) h) (λ h. facts.then ops laws e h))

-- the polynomials as they are stored
pub stored-walk : (p v : ℕ) (es fs gs : List Poly) (uss : List (List Poly)) (k : ℕ) → AreStored p v fs gs
    → position_from (λ x. not (multiplies_out (residue_ops p) x.0 x.1 es)) k (zip gs uss) ≡ position_from (λ x. not (multiplies_out (residue_ops p) x.0 x.1 es)) k (zip fs uss)
stored-walk p v es [] [] uss k h = refl
stored-walk p v es [] (g ∷ gs) uss k h = absurd h
stored-walk p v es (f ∷ fs) [] uss k h = absurd h
stored-walk p v es (f ∷ fs) (g ∷ gs) [] k h = refl
stored-walk p v es (f ∷ fs) (g ∷ gs) (us ∷ uss) k h =
    rw (multiplies_out-stands p g f us es h.0.value, stored-walk p v es fs gs uss (k + 1) h.1) refl
