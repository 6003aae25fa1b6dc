-- The multiples of two elements whose leading terms cancel, and their difference.
--   multiple-fits, multiple-value    the product with the multiplier as it is stored
--   high-misfits                     where the least common multiple is over the limit, they do not fit
--   lcm-swapped                      it does not depend on the order of the two
--   difference-value                 the difference of two multiples is the S-polynomial
use Rattle.std.proofs.Common.{◌≡◌, ℕ, ◌+◌, ◌<◌, Bool, true, false, not, List, [], ◌∷◌, refl, sym, ap, ap₂, ◌∙◌, subst, arith, inl, inr, true≢false, append-nil}
use Rattle.std.proofs.lemmas.Bool.{cases_Bool}
use Rattle.std.specs.List.{IsDistinct}
use Rattle.std.specs.declared.cmp.Ordering.{Ordering}
use Rattle.rinv_algebra.specs.Ring.{IsSame}
use Rattle.rinv_algebra.specs.Residue.{residue_ops}
use Rattle.rinv_algebra.specs.Monomial.{same_monomial, monomial_product, quotient, lcm, total_degree, max_degree}
use Rattle.rinv_algebra.specs.Polynomial.{poly_ops, coefficient, has_monomial, product, term_product, difference, opposite}
use Rattle.rinv_algebra.specs.Leading.{leading_monomial, leading_coefficient, multiplier, s_polynomial}
use Rattle.rinv_algebra.specs.Fits.{product_fits}
use Rattle.rinv_algebra.proofs.BlockOrder.{sum-product}
use Rattle.rinv_algebra.proofs.Degrees.{product_fits-same, total_degree-same}
use Rattle.rinv_algebra.proofs.MonomialLaws.{same_monomial_refl}
use Rattle.rinv_algebra.proofs.PolynomialLaws.{poly_laws}
use Rattle.rinv_algebra.proofs.ResidueLaws.{residue_laws}
use Rattle.rinv_algebra.proofs.RingFacts as facts
use Rattle.rinv_groebner.proofs.MonomialLists.{product-quotient, lcm_left}
use Rattle.rinv_poly.proofs.Degrees.{product_fits-meet}
use Rattle.rinv_poly.proofs.Gather.{same-then, same-equal, same-refl, append-same, term-same}
use Rattle.rinv_defs.specs.System.{Poly}

-- a least common multiple does not depend on the order of the two
pub lcm-swapped : (a b : List ℕ) → lcm a b ≡ lcm b a
unfolding lcm
lcm-swapped [] [] = refl
lcm-swapped [] (y ∷ b) = refl
lcm-swapped (x ∷ a) [] = refl
lcm-swapped (x ∷ a) (y ∷ b) = ap₂ (λ (n : ℕ) (m : List ℕ). n ∷ m) (omega arith) (lcm-swapped a b)

-- one term has distinct monomials
pub one-distinct : (m : List ℕ) → IsDistinct same_monomial (m ∷ [])
unfolding IsDistinct
one-distinct m = (tt, tt)

module _ (p : ℕ) (cmp : List ℕ → List ℕ → Ordering) (f g : Poly) where
  module _ (m : List ℕ) (c : ℕ) (t : Poly) (is_m : m ≡ (multiplier (residue_ops p) cmp f g).0) (is_c : IsSame (residue_ops p) c (leading_coefficient (residue_ops p) cmp g)) (is : IsSame (poly_ops (residue_ops p)) t ((m, c) ∷ [])) where
    -- the term as it is stored is the multiplier
    stands : IsSame (poly_ops (residue_ops p)) t (multiplier (residue_ops p) cmp f g ∷ [])
    stands =
        let d = leading_coefficient (residue_ops p) cmp g in
        subst (λ (n : List ℕ). IsSame (poly_ops (residue_ops p)) t ((n, d) ∷ [])) is_m
        (same-then (residue_ops p) (residue_laws p) t ((m, c) ∷ []) ((m, d) ∷ []) is (term-same (residue_ops p) (residue_laws p) m c d is_c))

    pub multiple-fits : product_fits (residue_ops p) t f ≡ product_fits (residue_ops p) (multiplier (residue_ops p) cmp f g ∷ []) f
    multiple-fits = product_fits-same (residue_ops p) (residue_laws p) t (multiplier (residue_ops p) cmp f g ∷ []) f f stands (same-refl (residue_ops p) (residue_laws p) f)

    pub multiple-value : (r : Poly) → IsSame (poly_ops (residue_ops p)) r (product (residue_ops p) t f) → IsSame (poly_ops (residue_ops p)) r (term_product (residue_ops p) (multiplier (residue_ops p) cmp f g) f)
    unfolding product
    multiple-value r e =
        let o = residue_ops p in
        let l = residue_laws p in
        let u = multiplier o cmp f g in
        same-then o l r (product o t f) (term_product o u f) e
        (same-then o l (product o t f) (product o (u ∷ []) f) (term_product o u f) ((poly_laws o l).mul_same t (u ∷ []) f f stands (same-refl o l f)) (same-equal o l (product o (u ∷ []) f) (term_product o u f) (append-nil (term_product o u f))))

  -- a coefficient that is not zero is that of its term
  one-has : (m : List ℕ) (c : ℕ) → (residue_ops p).same c 0 ≡ false → has_monomial (residue_ops p) ((m, c) ∷ []) m ≡ true
  unfolding coefficient
  one-has m c off =
      let o = residue_ops p in
      rw (same_monomial_refl m) (elim (cases_Bool (o.same (o.add c o.zero) o.zero)) [
        | inl zero ↦ absurd (true≢false (sym (facts.then o (residue_laws p) (facts.back o (residue_laws p) ((residue_laws p).add_zero c)) zero) ∙ off))
        | inr other ↦ ap not other
      ])

  -- where the least common multiple is over the limit, the multiple does not fit
  pub high-misfits : has_monomial (residue_ops p) f (leading_monomial (residue_ops p) cmp f) ≡ true → has_monomial (residue_ops p) g (leading_monomial (residue_ops p) cmp g) ≡ true
      → max_degree < total_degree (lcm (leading_monomial (residue_ops p) cmp f) (leading_monomial (residue_ops p) cmp g)) → product_fits (residue_ops p) (multiplier (residue_ops p) cmp f g ∷ []) f ≡ false
  high-misfits has_f has_g over =
      let o = residue_ops p in
      let a = leading_monomial o cmp f in
      let whole = lcm a (leading_monomial o cmp g) in
      let m = quotient whole a in
      let c = leading_coefficient o cmp g in
      let nonzero : o.same c 0 ≡ false = off (o.same c 0) has_g in
      let degrees : total_degree m + total_degree a ≡ total_degree whole = sym (sum-product m a) ∙ total_degree-same (monomial_product m a) whole (product-quotient whole a (lcm_left a (leading_monomial o cmp g))) in
      product_fits-meet o (residue_laws p) ((m, c) ∷ []) f (total_degree m) (total_degree a) (record {
        left = record { monomial = m; has = one-has m c nonzero; degree = refl };
        right = record { monomial = a; has = has_f; degree = refl };
        over = subst (λ (n : ℕ). max_degree < n) (sym degrees) over;
      })
    where
      off : (b : Bool) → not b ≡ true → b ≡ false
      off false e = refl
      off true e = sym e

  -- the difference of the two multiples is the S-polynomial
  pub difference-value : (left right r : Poly) → IsSame (poly_ops (residue_ops p)) left (term_product (residue_ops p) (multiplier (residue_ops p) cmp f g) f)
      → IsSame (poly_ops (residue_ops p)) right (term_product (residue_ops p) (multiplier (residue_ops p) cmp g f) g)
      → IsSame (poly_ops (residue_ops p)) r (difference (residue_ops p) left right) → IsSame (poly_ops (residue_ops p)) r (s_polynomial (residue_ops p) cmp f g)
  unfolding s_polynomial
  difference-value left right r el er e =
      let o = residue_ops p in
      let l = residue_laws p in
      let first = term_product o (multiplier o cmp f g) f in
      let second = term_product o (multiplier o cmp g f) g in
      same-then o l r (difference o left right) (difference o first second) e (append-same o l left first (opposite o right) (opposite o second) el ((poly_laws o l).neg_same right second er))
