-- Products and substitutions by halves of lists of terms.
--   rows-none, rows-halves, row-turned       products with no term, with two lists of terms, with one term
--   values-none, values-halves, values-one    the same for the values of terms
use Rattle.std.proofs.Common.{◌≡◌, ◌==◌, ℕ, true, List, [], ◌∷◌, ◌++◌, length, get_or, take, drop, ◌-◌, sym, ap, ◌∙◌, arith}
use Rattle.std.proofs.lemmas.Bool.Decides.{nat_tests}
use Rattle.std.proofs.lemmas.List.{nil_from_length, take_all, length-drop, take-append-drop}
use Rattle.rinv_algebra.specs.Ring.{RingOps, RingLaws, IsSame}
use Rattle.rinv_algebra.specs.Polynomial.{Term, Polynomial, poly_ops, product, constant}
use Rattle.rinv_algebra.specs.Value.{times_all, factors, value}
use Rattle.rinv_algebra.proofs.PolynomialLaws.{poly_laws}
use Rattle.rinv_algebra.proofs.Products.{value-append}
use Rattle.rinv_algebra.proofs.RingFacts as facts

module _ {E : Type 0} (o : RingOps E) (l : RingLaws o) where
  pub rows-none : (f terms r : Polynomial E) → terms ≡ [] → IsSame (poly_ops o) r [] → IsSame (poly_ops o) r (product o f terms)
  rows-none f terms r e s =
      let p = poly_laws o l in
      rw e (facts.then (poly_ops o) p s (facts.back (poly_ops o) p (facts.mul_zero (poly_ops o) p f)))

  pub rows-halves : (f a b whole x y r : Polynomial E) → whole ≡ a ++ b → IsSame (poly_ops o) x (product o f a) → IsSame (poly_ops o) y (product o f b) → IsSame (poly_ops o) r (x ++ y) → IsSame (poly_ops o) r (product o f whole)
  rows-halves f a b whole x y r e s t u =
      let p = poly_laws o l in
      rw e (facts.then (poly_ops o) p u (facts.then (poly_ops o) p (facts.add2 (poly_ops o) p s t) (facts.back (poly_ops o) p (p.mul_add f a b))))

  pub row-turned : (f term one r : Polynomial E) → IsSame (poly_ops o) term one → IsSame (poly_ops o) r (product o term f) → IsSame (poly_ops o) r (product o f one)
  row-turned f term one r s t =
      let p = poly_laws o l in
      facts.then (poly_ops o) p t (facts.then (poly_ops o) p (p.mul_comm term f) (facts.mul2 (poly_ops o) p (p.same_refl f) s))

  module _ (images : List (Polynomial E)) where
    pub values-none : (terms r : Polynomial E) → terms ≡ [] → IsSame (poly_ops o) r [] → IsSame (poly_ops o) r (value (poly_ops o) (constant o) images terms)
    unfolding value
    values-none terms r e s = rw e s

    pub values-halves : (a b whole x y r : Polynomial E) → whole ≡ a ++ b → IsSame (poly_ops o) x (value (poly_ops o) (constant o) images a) → IsSame (poly_ops o) y (value (poly_ops o) (constant o) images b) → IsSame (poly_ops o) r (x ++ y) → IsSame (poly_ops o) r (value (poly_ops o) (constant o) images whole)
    values-halves a b whole x y r e s t u =
        let p = poly_laws o l in
        rw e (facts.then (poly_ops o) p u (facts.then (poly_ops o) p (facts.add2 (poly_ops o) p s t) (facts.back (poly_ops o) p (value-append (poly_ops o) p (constant o) images a b))))

    pub values-one : (terms : Polynomial E) (t : Term E) (r : Polynomial E) → terms ≡ t ∷ [] → IsSame (poly_ops o) r (times_all (poly_ops o) (constant o t.1) (factors images t.0)) → IsSame (poly_ops o) r (value (poly_ops o) (constant o) images terms)
    unfolding value
    values-one terms t r e s =
        let p = poly_laws o l in
        rw e (facts.then (poly_ops o) p s (facts.back (poly_ops o) p (p.add_zero (times_all (poly_ops o) (constant o t.1) (factors images t.0)))))

-- a list without elements, and with one
pub no-item : {X : Type 0} (xs : List X) → (length xs == 0) ≡ true → xs ≡ []
no-item xs e = nil_from_length xs (grind (arith, nat_tests, e))

pub one-item : {X : Type 0} (xs : List X) (x : X) → length xs ≡ 1 → x ≡ get_or xs 0 x → xs ≡ x ∷ []
one-item [] x e at = absurd (omega (arith, e))
one-item (y ∷ []) x e at = ap (λ z. z ∷ []) (sym at)
one-item (y ∷ z ∷ zs) x e at = absurd (omega (arith, e))

-- a list is its first elements and the others
pub two-parts : {X : Type 0} (xs : List X) (k : ℕ) → xs ≡ take k xs ++ take (length xs - k) (drop k xs)
two-parts xs k = sym (ap (λ r. take k xs ++ r) (take_all (length xs - k) (drop k xs) (omega (arith, length-drop k xs))) ∙ take-append-drop k xs)
