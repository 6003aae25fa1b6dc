-- The degree of a polynomial depends on its coefficients alone.
--   has_monomial-same    polynomials that are the same have the same monomials
--   degree-above         no monomial that f has is above its degree
--   degree-bound         the degree is the least such bound
--   degree-same, is_zero-same, product_fits-same    what depends on the coefficients alone
use Rattle.std.proofs.Common.{◌≡◌, ℕ, ◌≤◌, Bool, true, false, not, ◌||◌, List, [], ◌∷◌, ◌++◌, map, ◌⊎◌, inl, inr, refl, sym, ap, ◌∙◌, arith, true≢false}
use Rattle.std.specs.Prelude.{◌==◌, max, ◌+◌, fold, filter}
use Rattle.std.proofs.lemmas.Bool.{cases_Bool}
use Rattle.std.proofs.lemmas.List.Sums.{sum_by-cons}
use Rattle.std.proofs.lemmas.Bool.{eqb-true}
use Rattle.rinv_algebra.specs.Ring.{RingOps, RingLaws, IsSame}
use Rattle.rinv_algebra.specs.Monomial.{same_monomial, total_degree}
use Rattle.rinv_algebra.specs.Polynomial.{Polynomial, coefficient, same, poly_ops, is_zero, has_monomial, monomials, degree}
use Rattle.rinv_algebra.specs.Fits.{product_fits}
use Rattle.rinv_algebra.proofs.PolynomialLaws.{poly_laws}
use Rattle.rinv_algebra.proofs.RingFacts as facts
use Rattle.rinv_algebra.proofs.Same.{both, same-coefficients, coefficient-same_monomial}

-- two tests that follow from one another are equal
pub iff-equal : (a b : Bool) → (a ≡ true → b ≡ true) → (b ≡ true → a ≡ true) → a ≡ b
iff-equal true b f g = sym (f refl)
iff-equal false true f g = g refl
iff-equal false false f g = refl

-- one monomial has one degree
pub total_degree-same : (a b : List ℕ) → same_monomial a b ≡ true → total_degree a ≡ total_degree b
unfolding same_monomial
total_degree-same [] [] e = refl
total_degree-same [] (y ∷ b) e =
    let h : ((y == 0) ≡ true) × (same_monomial [] b ≡ true) = both _ _ e in
    omega (arith, eqb-true _ _ h.0, total_degree-same [] b h.1, sum_by-cons (λ (n : ℕ). n) y b)
total_degree-same (x ∷ a) [] e =
    let h : ((x == 0) ≡ true) × (same_monomial a [] ≡ true) = both _ _ e in
    omega (arith, eqb-true _ _ h.0, total_degree-same a [] h.1, sum_by-cons (λ (n : ℕ). n) x a)
total_degree-same (x ∷ a) (y ∷ b) e =
    let h : ((x == y) ≡ true) × (same_monomial a b ≡ true) = both _ _ e in
    omega (arith, eqb-true _ _ h.0, total_degree-same a b h.1, sum_by-cons (λ (n : ℕ). n) x a, sum_by-cons (λ (n : ℕ). n) y b)

-- ---- the greatest degree in a list of monomials

grown : (a : ℕ) (ms : List (List ℕ)) → a ≤ fold max a (map total_degree ms)
grown a [] = omega arith
grown a (m ∷ ms) = let h = grown (max a (total_degree m)) ms in omega (arith, h)

fold-bound : (test : List ℕ → Bool) (a d : ℕ) → a ≤ d → ((m : List ℕ) → test m ≡ true → total_degree m ≤ d) → (ms : List (List ℕ)) → fold max a (map total_degree (filter test ms)) ≤ d
fold-bound test a d low h [] = low
fold-bound test a d low h (m ∷ ms) = elim (cases_Bool (test m)) [
  | inl e ↦ rw e (fold-bound test (max a (total_degree m)) d (let k = h m e in omega (arith, k)) h ms)
  | inr e ↦ rw e (fold-bound test a d low h ms)
]

module _ {E : Type 0} (o : RingOps E) (l : RingLaws o) where
  -- a test of sameness answers one thing for what is the same
  pub same-left : (x y z : E) → IsSame o x y → o.same x z ≡ o.same y z
  same-left x y z e = iff-equal (o.same x z) (o.same y z) (λ h. facts.then o l (facts.back o l e) h) (λ h. facts.then o l e h)

  pub has_monomial-same_monomial : (f : Polynomial E) (a b : List ℕ) → same_monomial a b ≡ true → has_monomial o f a ≡ has_monomial o f b
  has_monomial-same_monomial f a b s = ap (λ (c : E). not (o.same c o.zero)) (coefficient-same_monomial o f a b s)

  pub has_monomial-same : (f g : Polynomial E) → IsSame (poly_ops o) f g → (e : List ℕ) → has_monomial o f e ≡ has_monomial o g e
  has_monomial-same f g s e = ap not (same-left (coefficient o f e) (coefficient o g e) o.zero (same-coefficients o l f g s e))

  -- the degree of a monomial in the list whose test holds
  fold-above : (f : Polynomial E) (e : List ℕ) → has_monomial o f e ≡ true → (a : ℕ) (g : Polynomial E) → not (o.same (coefficient o g e) o.zero) ≡ true
      → total_degree e ≤ fold max a (map total_degree (filter (has_monomial o f) (map (λ t. t.0) g)))
  unfolding coefficient
  fold-above f e has a [] here = absurd (true≢false (sym here ∙ ap not (l.same_refl o.zero)))
  fold-above f e has a ((m, c) ∷ g) here =
      let rest = filter (has_monomial o f) (map (λ t. t.0) g) in
      elim (cases_Bool (same_monomial m e)) [
        | inl at ↦
            let here' : has_monomial o f m ≡ true = has_monomial-same_monomial f m e at ∙ has in
            let high = grown (max a (total_degree m)) rest in
            rw here' (omega (arith, high, total_degree-same m e at))
        | inr off ↦
            let there : not (o.same (coefficient o g e) o.zero) ≡ true = rw off at here in
            elim (cases_Bool (has_monomial o f m)) [
              | inl kept ↦ rw kept (fold-above f e has (max a (total_degree m)) g there)
              | inr dropped ↦ rw dropped (fold-above f e has a g there)
            ]
      ]

  -- no monomial that f has is above its degree
  pub degree-above : (f : Polynomial E) (e : List ℕ) → has_monomial o f e ≡ true → total_degree e ≤ degree o f
  unfolding degree
  degree-above f e has = fold-above f e has 0 f has

  -- the degree is the least such bound
  pub degree-bound : (f : Polynomial E) (d : ℕ) → ((e : List ℕ) → has_monomial o f e ≡ true → total_degree e ≤ d) → degree o f ≤ d
  unfolding degree
  degree-bound f d h = fold-bound (has_monomial o f) 0 d (omega arith) h (map (λ t. t.0) f)

  degree-le : (f g : Polynomial E) → IsSame (poly_ops o) f g → degree o f ≤ degree o g
  degree-le f g s = degree-bound f (degree o g) (λ e has. degree-above g e (sym (has_monomial-same f g s e) ∙ has))

  pub degree-same : (f g : Polynomial E) → IsSame (poly_ops o) f g → degree o f ≡ degree o g
  degree-same f g s = let a = degree-le f g s in let b = degree-le g f (facts.back (poly_ops o) (poly_laws o l) s) in omega (arith, a, b)

  pub is_zero-same : (f g : Polynomial E) → IsSame (poly_ops o) f g → is_zero o f ≡ is_zero o g
  is_zero-same f g s =
      let p = poly_laws o l in
      iff-equal (same o f []) (same o g []) (λ h. facts.then (poly_ops o) p (facts.back (poly_ops o) p s) h) (λ h. facts.then (poly_ops o) p s h)

  -- whether a product fits depends on the coefficients of its factors alone
  pub product_fits-same : (f f' g g' : Polynomial E) → IsSame (poly_ops o) f f' → IsSame (poly_ops o) g g' → product_fits o f g ≡ product_fits o f' g'
  unfolding product_fits
  product_fits-same f f' g g' p q = rw (is_zero-same f f' p, is_zero-same g g' q, degree-same f f' p, degree-same g g' q) refl

  -- a polynomial that has a monomial is not zero
  pub is_zero-false : (f : Polynomial E) (e : List ℕ) → has_monomial o f e ≡ true → is_zero o f ≡ false
  unfolding coefficient
  is_zero-false f e has = go (cases_Bool (is_zero o f))
    where
      absent : has_monomial o [] e ≡ false
      absent = ap not (l.same_refl o.zero)

      go : (is_zero o f ≡ true) ⊎ (is_zero o f ≡ false) → is_zero o f ≡ false
      go (inl z) = absurd (true≢false (sym has ∙ has_monomial-same f [] z e ∙ absent))
      go (inr h) = h
