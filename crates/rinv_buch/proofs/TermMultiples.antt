-- Multiples of a polynomial by a term, and the S-polynomial made of two.
use Rattle.std.proofs.Common.{◌≡◌, ℕ, Bool, List, [], ◌∷◌, refl, sym, ap, ap₂, ◌∙◌, arith, subst, inl, inr, append-nil}
use Rattle.std.specs.List.{IsDistinct}
use Rattle.std.specs.declared.cmp.Ordering.{Ordering}
use Rattle.rinv_algebra.specs.Ring.{RingOps, RingLaws, IsSame}
use Rattle.rinv_algebra.specs.Monomial.{same_monomial, quotient, lcm}
use Rattle.rinv_algebra.specs.Polynomial.{Polynomial, poly_ops, product, term_product, difference, opposite}
use Rattle.rinv_algebra.specs.Normal.{IsNormal}
use Rattle.rinv_algebra.specs.Leading.{leading_monomial, leading_coefficient, multiplier, s_polynomial}
use Rattle.rinv_algebra.proofs.PolynomialLaws.{poly_laws}
use Rattle.rinv_ring.specs.Operation.{RingOp, subtracts, multiplies}
use Rattle.rinv_poly.specs.Faults.{polynomials_meet}
use Rattle.rinv_poly.specs.Combined.{TermMeets}
use Rattle.rinv_poly.proofs.Gather.{same-then, same-equal, same-refl, append-same, term-same}
use Rattle.rinv_buch.specs.Causes.{SPolynomialMeets}

-- a least common multiple does not depend on the order of the two
pub lcm-swapped : (a b : List ℕ) → lcm a b ≡ lcm b a
unfolding lcm
lcm-swapped [] [] = refl
lcm-swapped [] (y ∷ b) = refl
lcm-swapped (x ∷ a) [] = refl
lcm-swapped (x ∷ a) (y ∷ b) = ap₂ (λ (n : ℕ) (m : List ℕ). n ∷ m) (omega arith) (lcm-swapped a b)

-- one term has distinct monomials
pub one-distinct : (m : List ℕ) → IsDistinct same_monomial (m ∷ [])
unfolding IsDistinct
one-distinct m = (tt, tt)

module _ {E : Type 0} (o : RingOps E) (l : RingLaws o) where
  module _ (m : List ℕ) (c : E) (t f : Polynomial E) (is : IsSame (poly_ops o) t ((m, c) ∷ [])) where
    -- the product with one term is the multiple
    pub multiple-value : (r : Polynomial E) → IsSame (poly_ops o) r ((poly_ops o).mul t f) → IsSame (poly_ops o) r (term_product o (m, c) f)
    unfolding product
    multiple-value r e = same-then o l r (product o t f) (term_product o (m, c) f) e (same-then o l (product o t f) (product o ((m, c) ∷ []) f) (term_product o (m, c) f) ((poly_laws o l).mul_same t ((m, c) ∷ []) f f is (same-refl o l f)) (same-equal o l (product o ((m, c) ∷ []) f) (term_product o (m, c) f) (append-nil (term_product o (m, c) f))))

    -- the degrees of the product with the term as it is stored
    pub multiple-meets : (is_element : E → Bool) (v : ℕ) → IsNormal o is_element v t → (high : RingOp → E → E → ℕ → ℕ → Type 0) (x y : ℕ) → polynomials_meet o is_element high multiplies t f x y → TermMeets o is_element high v (m, c) f x y
    multiple-meets is_element v normal high x y meets = (t, record { normal = normal; value = is }, meets)

  -- they depend on the coefficient only up to sameness
  term-moved : (m n : List ℕ) (c d : E) (f : Polynomial E) (is_element : E → Bool) (v : ℕ) (high : RingOp → E → E → ℕ → ℕ → Type 0) → m ≡ n → IsSame o c d → (x y : ℕ) → TermMeets o is_element high v (m, c) f x y → TermMeets o is_element high v (n, d) f x y
  term-moved m n c d f is_element v high is e x y (t, stored, meets) = (
    t,
    record {
      normal = stored.normal;
      value = subst (λ (m : List ℕ). IsSame (poly_ops o) t ((m, d) ∷ [])) is (same-then o l t ((m, c) ∷ []) ((m, d) ∷ []) stored.value (term-same o l m c d e));
    },
    meets,
  )

  -- a multiple depends on the coefficient only up to sameness
  multiple-at : (m n : List ℕ) (c d : E) (f r : Polynomial E) → m ≡ n → IsSame o c d → IsSame (poly_ops o) r (term_product o (m, c) f) → IsSame (poly_ops o) r (term_product o (n, d) f)
  unfolding product
  multiple-at m n c d f r is e s =
      subst (λ (m : List ℕ). IsSame (poly_ops o) r (term_product o (m, d) f)) is
      (multiple-value m d ((m, c) ∷ []) f (term-same o l m c d e) r
      (same-then o l r (term_product o (m, c) f) (product o ((m, c) ∷ []) f) s (same-equal o l (term_product o (m, c) f) (product o ((m, c) ∷ []) f) (sym (append-nil (term_product o (m, c) f))))))

  module _ (cmp : List ℕ → List ℕ → Ordering) (f g : Polynomial E) (a b m n : List ℕ) (is_a : a ≡ leading_monomial o cmp f) (is_b : b ≡ leading_monomial o cmp g) where
    first-multiplier : m ≡ quotient (lcm a b) a → m ≡ (multiplier o cmp f g).0
    first-multiplier e = e ∙ ap₂ (λ (x y : List ℕ). quotient (lcm x y) x) is_a is_b

    second-multiplier : n ≡ quotient (lcm a b) b → n ≡ (multiplier o cmp g f).0
    second-multiplier e = e ∙ ap (λ (x : List ℕ). quotient x b) (lcm-swapped a b) ∙ ap₂ (λ (x y : List ℕ). quotient (lcm y x) y) is_a is_b

    -- the difference of the two multiples is the S-polynomial
    pub s-value : (c d : E) (left right r : Polynomial E) → m ≡ quotient (lcm a b) a → n ≡ quotient (lcm a b) b → IsSame o c (leading_coefficient o cmp f) → IsSame o d (leading_coefficient o cmp g)
        → IsSame (poly_ops o) left (term_product o (m, d) f) → IsSame (poly_ops o) right (term_product o (n, c) g) → IsSame (poly_ops o) r (difference o left right) → IsSame (poly_ops o) r (s_polynomial o cmp f g)
    unfolding s_polynomial
    s-value c d left right r em en ec ed el er e =
        let first = term_product o (multiplier o cmp f g) f in
        let second = term_product o (multiplier o cmp g f) g in
        same-then o l r (difference o left right) (difference o first second) e
        (append-same o l left first (opposite o right) (opposite o second) (multiple-at m (multiplier o cmp f g).0 d (leading_coefficient o cmp g) f left (first-multiplier em) ed el)
        ((poly_laws o l).neg_same right second (multiple-at n (multiplier o cmp g f).0 c (leading_coefficient o cmp f) g right (second-multiplier en) ec er)))

    -- where a multiple meets degrees, or the difference of the two, the S-polynomial does
    module _ (is_element : E → Bool) (high : RingOp → E → E → ℕ → ℕ → Type 0) (v : ℕ) (em : m ≡ quotient (lcm a b) a) (en : n ≡ quotient (lcm a b) b) where
      pub first-meets : (d : E) → IsSame o d (leading_coefficient o cmp g) → (x y : ℕ) → TermMeets o is_element high v (m, d) f x y → SPolynomialMeets o is_element high v cmp f g x y
      first-meets d ed x y h = inl (term-moved m (multiplier o cmp f g).0 d (leading_coefficient o cmp g) f is_element v high (first-multiplier em) ed x y h)

      pub second-meets : (c : E) → IsSame o c (leading_coefficient o cmp f) → (x y : ℕ) → TermMeets o is_element high v (n, c) g x y → SPolynomialMeets o is_element high v cmp f g x y
      second-meets c ec x y h = inr (inl (term-moved n (multiplier o cmp g f).0 c (leading_coefficient o cmp f) g is_element v high (second-multiplier en) ec x y h))

      pub difference-meets : (c d : E) (left right : Polynomial E) → IsSame o c (leading_coefficient o cmp f) → IsSame o d (leading_coefficient o cmp g) → IsNormal o is_element v left → IsNormal o is_element v right
          → IsSame (poly_ops o) left (term_product o (m, d) f) → IsSame (poly_ops o) right (term_product o (n, c) g) → (x y : ℕ) → polynomials_meet o is_element high subtracts left right x y → SPolynomialMeets o is_element high v cmp f g x y
      difference-meets c d left right ec ed nl nr el er x y h = inr (inr (
        left,
        right,
        record { normal = nl; value = multiple-at m (multiplier o cmp f g).0 d (leading_coefficient o cmp g) f left (first-multiplier em) ed el },
        record { normal = nr; value = multiple-at n (multiplier o cmp g f).0 c (leading_coefficient o cmp f) g right (second-multiplier en) ec er },
        h,
      ))
