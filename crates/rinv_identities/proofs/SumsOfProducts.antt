-- Sums of products over the numbers modulo a prime, of which those with a cofactor that is zero are left out.
--   zero-fits, zero-adds      a cofactor that is zero
--   product-adds, sum-more    one product more
--   sums-same, not-fitting    a polynomial is the sum, or is not
use Rattle.std.proofs.Common.{◌≡◌, ℕ, ◌+◌, ◌<◌, List, [], ◌∷◌, ◌++◌, length, get_or, take, true, false, ◌&&◌, refl, sym, ap, ◌∙◌, arith}
use Rattle.rinv_algebra.specs.Ring.{IsSame}
use Rattle.rinv_algebra.specs.Residue.{residue_ops}
use Rattle.rinv_algebra.specs.Polynomial.{poly_ops, product, is_zero, same}
use Rattle.rinv_algebra.specs.Ideal.{combination}
use Rattle.rinv_algebra.specs.Fits.{product_fits, combination_fits, multiplies_out}
use Rattle.rinv_algebra.proofs.Degrees.{iff-equal}
use Rattle.rinv_algebra.proofs.PolynomialLaws.{poly_laws}
use Rattle.rinv_algebra.proofs.Products.{combination-push}
use Rattle.rinv_algebra.proofs.ResidueLaws.{residue_laws}
use Rattle.rinv_algebra.proofs.RingFacts as facts
use Rattle.rinv_defs.specs.System.{Poly}
use Rattle.rinv_poly.specs.Sums.{sum_of}
use Rattle.rinv_poly.proofs.Summands.{sum_of-push}
use Rattle.rinv_sub.proofs.Sums.{fronts, take-at}

module _ (p : ℕ) where
  -- a product with zero fits
  pub zero-fits : (u f : Poly) → is_zero (residue_ops p) u ≡ true → product_fits (residue_ops p) u f ≡ true
  unfolding product_fits
  zero-fits u f e = rw e refl

  -- and adds nothing
  pub zero-adds : (s u f : Poly) → is_zero (residue_ops p) u ≡ true → IsSame (poly_ops (residue_ops p)) s (s ++ product (residue_ops p) u f)
  zero-adds s u f e =
      let o = poly_ops (residue_ops p) in
      let l = poly_laws (residue_ops p) (residue_laws p) in
      facts.back o l (facts.then o l (l.add_same s s (product (residue_ops p) u f) [] (l.same_refl s) (facts.then o l (l.mul_same u [] f f e (l.same_refl f)) (facts.zero_mul o l f))) (l.add_zero s))

  -- any other is added
  pub product-adds : (products : List Poly) (r u f : Poly) → IsSame (poly_ops (residue_ops p)) r (product (residue_ops p) u f)
      → IsSame (poly_ops (residue_ops p)) (sum_of (products ++ r ∷ [])) (sum_of products ++ product (residue_ops p) u f)
  product-adds products r u f is =
      let o = poly_ops (residue_ops p) in
      let l = poly_laws (residue_ops p) (residue_laws p) in
      facts.then o l (facts.of_same o l (sum_of-push products r)) (l.add_same (sum_of products) (sum_of products) r (product (residue_ops p) u f) (l.same_refl (sum_of products)) is)

  -- one product more
  pub sum-more : (us fs : List Poly) (k : ℕ) (u f s s' : Poly) → k < length us → length us ≡ length fs → u ≡ get_or us k u → f ≡ get_or fs k f
      → IsSame (poly_ops (residue_ops p)) s (combination (residue_ops p) (take k us) (take k fs)) → IsSame (poly_ops (residue_ops p)) s' (s ++ product (residue_ops p) u f)
      → IsSame (poly_ops (residue_ops p)) s' (combination (residue_ops p) (take (k + 1) us) (take (k + 1) fs))
  sum-more us fs k u f s s' h many at at' so_far here =
      let laws = poly_laws (residue_ops p) (residue_laws p) in
      let few : k < length fs = omega (arith, h, many) in
      facts.then (poly_ops (residue_ops p)) laws here
      (facts.then (poly_ops (residue_ops p)) laws
      (laws.add_same s (combination (residue_ops p) (take k us) (take k fs)) (product (residue_ops p) u f) (product (residue_ops p) u f) so_far (laws.same_refl (product (residue_ops p) u f)))
      (facts.of_same (poly_ops (residue_ops p)) laws
      (sym (rw (take-at us k u h at, take-at fs k f few at') (combination-push (residue_ops p) (residue_laws p) (take k us) (take k fs) u f (fronts us fs k h few))))))

  -- whether a polynomial is the sum
  pub sums-same : (f sum : Poly) (us fs : List Poly) → combination_fits (residue_ops p) us fs ≡ true → IsSame (poly_ops (residue_ops p)) sum (combination (residue_ops p) us fs)
      → same (residue_ops p) f sum ≡ multiplies_out (residue_ops p) f us fs
  sums-same f sum us fs fits is =
      let laws = poly_laws (residue_ops p) (residue_laws p) in
      let ops = poly_ops (residue_ops p) in
      let e : same (residue_ops p) f sum ≡ same (residue_ops p) f (combination (residue_ops p) us fs) = iff-equal (same (residue_ops p) f sum) (same (residue_ops p) f (combination (residue_ops p) us fs)) (λ h. facts.then ops laws h is) (λ h. facts.then ops laws h (facts.back ops laws is)) in
      e ∙ sym (ap (λ b. b && same (residue_ops p) f (combination (residue_ops p) us fs)) fits)

  -- products that do not fit
  pub not-fitting : (f : Poly) (us fs : List Poly) → false ≡ combination_fits (residue_ops p) us fs → false ≡ multiplies_out (residue_ops p) f us fs
  not-fitting f us fs e = ap (λ b. b && same (residue_ops p) f (combination (residue_ops p) us fs)) e
