-- The greatest monomial of a product over a field, and its degree.
--   product-lead         it is the product of the greatest monomials of the factors
--   degree-factors       the degrees of the factors add up to at most the degree of the product
--   IsHeaded o v t f     the term t is above all terms of f in lexicographic order, in v variables
--   lead-divides, lead-degree    the first term of a product, against that of a factor and the degree of the other
use Rattle.std.proofs.Common.{◌≡◌, ◌⊎◌, ℕ, suc, ◌+◌, ◌≤◌, Bool, true, false, not, List, [], ◌∷◌, length, replicate, get_or, All, refl, sym, ap, ◌∙◌, subst, subst₂, arith, inl, inr, true≢false, nat_le}
use Rattle.std.specs.declared.cmp.Ordering.TheVariants.{Less}
use Rattle.std.proofs.lemmas.Bool.{cases_Bool, cases_order, le-leb, leb-true}
use Rattle.std.proofs.lemmas.Bool.Decides.{nat_tests}
use Rattle.std.proofs.lemmas.List.Elements.{All-head, All-tail}
use mathlib.Core.Bool.{Bool-set}
use mathlib.Core.Logic.{∥∥₁_elim, ∥∥₁_prop}
use Rattle.rinv_algebra.specs.Ring.{RingOps, RingLaws, FieldLaws, IsSame}
use Rattle.rinv_algebra.specs.Monomial.{same_monomial, monomial_product, divides, total_degree}
use Rattle.rinv_algebra.specs.Order.{lex, grevlex, block_order, last_cmp}
use Rattle.rinv_algebra.specs.Polynomial.{Term, Polynomial, coefficient, poly_ops, product, is_zero, has_monomial, degree}
use Rattle.rinv_algebra.proofs.RingFacts as facts
use Rattle.rinv_algebra.proofs.MonomialLaws.{get_or-product, same_at}
use Rattle.rinv_algebra.proofs.PolynomialLaws.{poly_laws}
use Rattle.rinv_algebra.proofs.Degrees.{total_degree-same, degree-above, degree-bound, degree-same, is_zero-false}
use Rattle.rinv_algebra.proofs.BlockOrder.{sum-product, block_order_laws}
use Rattle.rinv_algebra.proofs.Grevlex.{grevlex_laws}
use Rattle.rinv_theory.proofs.CRing.{CRing, zero_mul, add_mul}
use Rattle.rinv_theory.proofs.Classes.{Class, class, class_ring, class_sound, class_exact, class_dec, class-mul, class-zero}
use Rattle.rinv_theory.proofs.Monoid.{Monoid, Monomial, monomial, monomial_ind, monomial_exact, monomial-mul}
use Rattle.rinv_theory.proofs.TermRing.{TermRing}
use Rattle.rinv_theory.proofs.Polynomials.{polynomials, poly_ring, class-coefficient, class-cons}
use Rattle.rinv_theory.proofs.Of.{Of, of_any, of-add, of-times, of-weaken, of-coefficient}
use Rattle.rinv_theory.proofs.Leads.{MonomialOrder, IsUpTo, below-ne, below-upto, upto-below, mul-upto, upto-from, Leads, lead-of, lead-greatest, lead-unique, zero_or_lead}
use Rattle.rinv_theory.proofs.ListOrders.{ListOrder, order_of, less-below, below-less}
use Rattle.rinv_theory.proofs.WellOrders.{extended, extended_order, extended-less}
use Rattle.rinv_theory.proofs.Domain.{IsDomain, top-coefficient}
use Rattle.rinv_theory.proofs.Fields.{class_domain}

module _ {K M P : Type 0} {𝓚 : CRing K} {𝓜 : Monoid M} (𝓣 : TermRing 𝓚 𝓜 P) (𝓞 : MonomialOrder 𝓜) where
  upto-trans : (a b c : M) → IsUpTo 𝓞 a b → IsUpTo 𝓞 b c → IsUpTo 𝓞 a c
  upto-trans a b c (inl h) k = inl (below-upto 𝓞 a b c h k)
  upto-trans a b c (inr e) k = subst (λ x. IsUpTo 𝓞 x c) (sym e) k

  -- the monomials of a product are up to the product of bounds
  of-product : (m n : M) {f g : P} → Of 𝓣 (λ k. IsUpTo 𝓞 k m) f → Of 𝓣 (λ k. IsUpTo 𝓞 k n) g → Of 𝓣 (λ k. IsUpTo 𝓞 k (𝓜.mul m n)) (𝓣.ring.mul f g)
  of-product m n {g = g} Of.none s = subst (Of 𝓣 (λ k. IsUpTo 𝓞 k (𝓜.mul m n))) (sym (zero_mul 𝓣.ring g)) Of.none
  of-product m n {g = g} (Of.more {f = f} c k q r) s =
      subst (Of 𝓣 (λ k. IsUpTo 𝓞 k (𝓜.mul m n))) (sym (add_mul 𝓣.ring _ _ _))
      (of-add 𝓣 (of-times 𝓣 c k (λ x u. upto-trans (𝓜.mul k x) (𝓜.mul k n) (𝓜.mul m n) (mul-upto 𝓞 k x n u) (subst₂ (IsUpTo 𝓞) (𝓜.mul_comm n k) (𝓜.mul_comm n m) (mul-upto 𝓞 n k m q))) s) (of-product m n r s))

  upto : {f : P} (m : M) → Leads 𝓣 𝓞 f m → Of 𝓣 (λ n. Unit {0}) f → Of 𝓣 (λ k. IsUpTo 𝓞 k m) f
  upto m l o = of-weaken 𝓣 (λ n h. upto-from 𝓞 n m h.1) (lead-of 𝓣 𝓞 l o)

  -- nothing above a bound occurs
  bounded : (m : M) {f : P} → Of 𝓣 (λ k. IsUpTo 𝓞 k m) f → (e : M) → 𝓞.below m e → 𝓣.coefficient f e ≡ 𝓚.zero
  bounded m o e b = of-coefficient 𝓣 {Q = λ k. IsUpTo 𝓞 k m} e (λ n q i. below-ne 𝓞 n e (upto-below 𝓞 n m e q b) i) o

  -- the greatest monomial of a product is the product of the greatest ones
  pub product-lead : IsDomain 𝓚 → (f g : P) (m n : M) → Leads 𝓣 𝓞 f m → Leads 𝓣 𝓞 g n → Leads 𝓣 𝓞 (𝓣.ring.mul f g) (𝓜.mul m n)
  product-lead domain f g m n l k = record {
    nonzero = λ z. ∥∥₁_elim {P = ⊥} (of_any 𝓣 f) (λ x. absurd x) (λ o. ∥∥₁_elim {P = ⊥} (of_any 𝓣 g) (λ x. absurd x) (λ p. l.nonzero (domain.no_divisors _ _ (sym (top-coefficient 𝓣 𝓞 m n (upto m l o) (upto n k p)) ∙ z) k.nonzero)));
    above = λ e b. ∥∥₁_elim (of_any 𝓣 f) (𝓚.is_set _ _) (λ o. ∥∥₁_elim (of_any 𝓣 g) (𝓚.is_set _ _) (λ p. bounded (𝓜.mul m n) (of-product m n (upto m l o) (upto n k p)) e b));
  }

module _ {E : Type 0} (o : RingOps E) (l : RingLaws o) where
  abbrev poly : Polynomial E → Class (poly_ops o)
  poly f = class (poly_ops o) f

  has-coefficient : (f : Polynomial E) (e : List ℕ) → has_monomial o f e ≡ true → (polynomials o l).coefficient (poly f) (monomial e) ≡ (class_ring o l).zero → ⊥
  has-coefficient f e has z = true≢false (sym has ∙ ap not (class_exact o l (coefficient o f e) o.zero (sym (class-coefficient o l f e) ∙ z ∙ sym (class-zero o l))))

  coefficient-has : (f : Polynomial E) (e : List ℕ) → ((polynomials o l).coefficient (poly f) (monomial e) ≡ (class_ring o l).zero → ⊥) → has_monomial o f e ≡ true
  coefficient-has f e n = go (o.same (coefficient o f e) o.zero) refl
    where
      go : (b : Bool) → o.same (coefficient o f e) o.zero ≡ b → not (o.same (coefficient o f e) o.zero) ≡ true
      go true s = absurd (n (class-coefficient o l f e ∙ class_sound o l (coefficient o f e) o.zero s ∙ class-zero o l))
      go false s = ap not s

  module _ (field : FieldLaws o) (less : List ℕ → List ℕ → Bool) (order : ListOrder less) where
    -- m is the greatest monomial of f
    abbrev Top : Polynomial E → List ℕ → Type 0
    Top f m = Leads (polynomials o l) (order_of less order) (poly f) (monomial m)

    top-product : (f g : Polynomial E) (m n : List ℕ) → Top f m → Top g n → Top (product o f g) (monomial_product m n)
    top-product f g m n a b =
        subst₂ (Leads (polynomials o l) (order_of less order)) (sym (class-mul (poly_ops o) (poly_laws o l) f g)) (sym (monomial-mul m n))
        (product-lead (polynomials o l) (order_of less order) (class_domain o l field) (poly f) (poly g) (monomial m) (monomial n) a b)

    some_top : (f : Polynomial E) → is_zero o f ≡ false → ∥ ((m : List ℕ) × Top f m) ∥₁
    some_top f n = ∥∥₁_elim (zero_or_lead (polynomials o l) (order_of less order) (class_dec o l) (poly f)) ∥∥₁_prop go
      where
        named : (m : Monomial) → Leads (polynomials o l) (order_of less order) (poly f) m → ∥ ((m : List ℕ) × Top f m) ∥₁
        named = monomial_ind (λ m. Leads (polynomials o l) (order_of less order) (poly f) m → ∥ ((m : List ℕ) × Top f m) ∥₁) (λ m. hlevel (∥∥₁_prop {A = (m : List ℕ) × Top f m})) (λ a h. ∣ (a, h) ∣₁)

        go : (poly f ≡ (poly_ring o l).zero) ⊎ ((m : Monomial) × Leads (polynomials o l) (order_of less order) (poly f) m) → ∥ ((m : List ℕ) × Top f m) ∥₁
        go (inl z) = absurd (true≢false (sym (class_exact (poly_ops o) (poly_laws o l) f [] (z ∙ sym (class-zero (poly_ops o) (poly_laws o l)))) ∙ n))
        go (inr (m, h)) = named m h

    top-unique : (f g : Polynomial E) (m n : List ℕ) → IsSame (poly_ops o) f g → Top f m → Top g n → same_monomial m n ≡ true
    top-unique f g m n s a b =
        monomial_exact m n (lead-unique (polynomials o l) (order_of less order) a (subst (λ x. Leads (polynomials o l) (order_of less order) x (monomial n)) (sym (class_sound (poly_ops o) (poly_laws o l) f g s)) b))

  module _ (field : FieldLaws o) where
    by_degree : ListOrder (extended grevlex)
    by_degree = extended_order grevlex grevlex_laws.total grevlex_laws.kept

    lower : (a b : List ℕ) → extended grevlex a b ≡ true → total_degree a ≤ total_degree b
    lower a b h = elim (cases_order (total_degree a) (total_degree b)) [
      | inl same ↦ omega (arith, same)
      | inr (inl low) ↦ omega (arith, low)
      | inr (inr high) ↦ absurd (true≢false (sym h ∙ grind (arith, nat_tests, high)))
    ]

    degree-top : (f : Polynomial E) (m : List ℕ) → Top field (extended grevlex) by_degree f m → degree o f ≤ total_degree m
    degree-top f m t = degree-bound o l f (total_degree m) (λ e has. go e (lead-greatest (polynomials o l) (order_of (extended grevlex) by_degree) t (monomial e) (has-coefficient f e has)))
      where
        go : (e : List ℕ) → IsUpTo (order_of (extended grevlex) by_degree) (monomial e) (monomial m) → total_degree e ≤ total_degree m
        go e (inl b) = lower e m (below-less (extended grevlex) by_degree e m b)
        go e (inr i) = omega (arith, total_degree-same e m (monomial_exact e m i))

    -- the degrees of the factors add up to at most the degree of the product
    pub degree-factors : (f g : Polynomial E) → is_zero o f ≡ false → is_zero o g ≡ false → degree o f + degree o g ≤ degree o (product o f g)
    degree-factors f g nf ng =
        leb-true (degree o f + degree o g) (degree o (product o f g))
        (∥∥₁_elim (some_top field (extended grevlex) by_degree f nf) (Bool-set _ _) (λ a. ∥∥₁_elim (some_top field (extended grevlex) by_degree g ng) (Bool-set _ _) (λ b. go a b)))
      where
        go : (m : List ℕ) × Top field (extended grevlex) by_degree f m → (n : List ℕ) × Top field (extended grevlex) by_degree g n → nat_le (degree o f + degree o g) (degree o (product o f g)) ≡ true
        go (m, a) (n, b) =
            let t = top-product field (extended grevlex) by_degree f g m n a b in
            let high = degree-above o l (product o f g) (monomial_product m n) (coefficient-has (product o f g) (monomial_product m n) t.nonzero) in
            le-leb _ _ (omega (arith, degree-top f m a, degree-top g n b, high, sum-product m n))

-- lexicographic order of v exponents is the order of v blocks of one variable
lex-first : (sizes a b : List ℕ) (x y : ℕ) → lex a b ≡ block_order sizes a b → lex (x ∷ a) (y ∷ b) ≡ block_order (1 ∷ sizes) (x ∷ a) (y ∷ b)
unfolding block_order last_cmp
lex-first sizes a b x y e = elim (cases_order x y) [
  | inl same ↦ grind (arith, nat_tests, same, e)
  | inr (inl low) ↦ grind (arith, nat_tests, low, e)
  | inr (inr high) ↦ grind (arith, nat_tests, high, e)
]

lex-blocks : (v : ℕ) (a b : List ℕ) → length a ≡ v → length b ≡ v → lex a b ≡ block_order (replicate v 1) a b
unfolding block_order
lex-blocks v [] [] la lb = rw (sym la) refl
lex-blocks v [] (y ∷ b) la lb = absurd (omega (arith, la, lb))
lex-blocks v (x ∷ a) [] la lb = absurd (omega (arith, la, lb))
lex-blocks v (x ∷ a) (y ∷ b) la lb = let rest = lex-blocks (length a) a b refl (omega (arith, la, lb)) in rw (sym la) (lex-first (replicate (length a) 1) a b x y rest)

divides-from : (a b : List ℕ) → ((k : ℕ) → get_or a k 0 ≤ get_or b k 0) → divides a b ≡ true
unfolding divides
divides-from [] b h = refl
divides-from (x ∷ a) [] h = let first : x ≤ 0 = h 0 in let rest = divides-from a [] (λ k. h (suc k)) in grind (arith, nat_tests, first, rest)
divides-from (x ∷ a) (y ∷ b) h = let first : x ≤ y = h 0 in let rest = divides-from a b (λ k. h (suc k)) in grind (arith, nat_tests, first, rest)

module _ {E : Type 0} (o : RingOps E) (l : RingLaws o) where
  -- t is above all terms of f in lexicographic order, and all have v exponents
  pub record IsHeaded (v : ℕ) (t : Term E) (f : Polynomial E) : Type 0 where
    pub has : has_monomial o (t ∷ f) t.0 ≡ true
    pub vars : length t.0 ≡ v
    pub below : All (λ s. (length s.0 ≡ v) × (lex s.0 t.0 ≡ Less)) f

  module _ (field : FieldLaws o) (v : ℕ) where
    first : List ℕ → List ℕ → Bool
    first = extended (block_order (replicate v 1))

    by_first : ListOrder first
    unfolding first
    by_first = extended_order (block_order (replicate v 1)) (block_order_laws (replicate v 1)).total (block_order_laws (replicate v 1)).kept

    lex-below : (a b : List ℕ) → length a ≡ v → length b ≡ v → lex a b ≡ Less → first a b ≡ true
    unfolding first
    lex-below a b la lb e = extended-less (block_order (replicate v 1)) (block_order_laws (replicate v 1)).total (block_order_laws (replicate v 1)).kept a b (sym (lex-blocks v a b la lb) ∙ e)

    of-below : (t : Term E) (f : Polynomial E) → length t.0 ≡ v → All (λ s. (length s.0 ≡ v) × (lex s.0 t.0 ≡ Less)) f → Of (polynomials o l) (λ k. IsUpTo (order_of first by_first) k (monomial t.0)) (poly o l f)
    of-below t [] vars all = subst (Of (polynomials o l) (λ k. IsUpTo (order_of first by_first) k (monomial t.0))) (sym (class-zero (poly_ops o) (poly_laws o l))) Of.none
    of-below t (s ∷ f) vars all =
        let head = All-head (λ s. (length s.0 ≡ v) × (lex s.0 t.0 ≡ Less)) s f all in
        subst (Of (polynomials o l) (λ k. IsUpTo (order_of first by_first) k (monomial t.0))) (sym (class-cons o l s.1 s.0 f))
        (Of.more (class o s.1) (monomial s.0) (inl (less-below first by_first s.0 t.0 (lex-below s.0 t.0 head.0 vars head.1))) (of-below t f vars (All-tail (λ s. (length s.0 ≡ v) × (lex s.0 t.0 ≡ Less)) s f all)))

    headed-top : (t : Term E) (f : Polynomial E) → IsHeaded v t f → Top o l field first by_first (t ∷ f) t.0
    headed-top t f h = record {
      nonzero = has-coefficient o l (t ∷ f) t.0 h.has;
      above = bounded (polynomials o l) (order_of first by_first) (monomial t.0) (subst (Of (polynomials o l) (λ k. IsUpTo (order_of first by_first) k (monomial t.0))) (sym (class-cons o l t.1 t.0 f)) (Of.more (class o t.1) (monomial t.0) (inr refl) (of-below t f h.vars h.below)));
    }

    module _ (t u : Term E) (f g h : Polynomial E) (left : IsHeaded v t f) (right : IsHeaded v u g) (is : IsSame (poly_ops o) (t ∷ f) (product o h (u ∷ g))) where
      -- a monomial of h that makes the first monomial of the product from that of the factor
      abbrev Makes : List ℕ → Type 0
      Makes k = (has_monomial o h k ≡ true) × (same_monomial t.0 (monomial_product k u.0) ≡ true)

      nonzero : is_zero o h ≡ false
      unfolding product
      nonzero = elim (cases_Bool (is_zero o h)) [
        | inl z ↦
            let p = poly_laws o l in
            let none : IsSame (poly_ops o) (t ∷ f) [] = facts.then (poly_ops o) p is (p.mul_same h [] (u ∷ g) (u ∷ g) z (p.same_refl (u ∷ g))) in
            absurd (true≢false (sym none ∙ is_zero-false o l (t ∷ f) t.0 left.has))
        | inr n ↦ n
      ]

      lead-factor : ∥ ((k : List ℕ) × Makes k) ∥₁
      lead-factor = ∥∥₁_elim (some_top o l field first by_first h nonzero) ∥∥₁_prop (λ s. go s)
        where
          go : (k : List ℕ) × Top o l field first by_first h k → ∥ ((k : List ℕ) × Makes k) ∥₁
          go (k, a) = ∣ (k, (coefficient-has o l h k a.nonzero, top-unique o l field first by_first (t ∷ f) (product o h (u ∷ g)) t.0 (monomial_product k u.0) is (headed-top t f left) (top-product o l field first by_first h (u ∷ g) k u.0 a (headed-top u g right)))) ∣₁

      -- the first monomial of a factor divides that of the product
      pub lead-divides : divides u.0 t.0 ≡ true
      lead-divides = ∥∥₁_elim lead-factor (Bool-set _ _) (λ s. divides-from u.0 t.0 (λ k. let e = same_at t.0 (monomial_product s.0 u.0) s.1.1 k in let m = get_or-product s.0 u.0 k in omega (arith, e, m)))

      -- their quotient, times any monomial of that factor, is no higher than the product
      pub lead-degree : (n : List ℕ) → has_monomial o (u ∷ g) n ≡ true → total_degree t.0 + total_degree n ≤ degree o (t ∷ f) + total_degree u.0
      lead-degree n has = leb-true _ _ (∥∥₁_elim lead-factor (Bool-set _ _) (λ s. go s.0 s.1))
        where
          go : (k : List ℕ) → Makes k → nat_le (total_degree t.0 + total_degree n) (degree o (t ∷ f) + total_degree u.0) ≡ true
          go k (hk, e) =
              let whole = degree-same o l (t ∷ f) (product o h (u ∷ g)) is in
              let both = degree-factors o l field h (u ∷ g) nonzero (is_zero-false o l (u ∷ g) u.0 right.has) in
              let mk = degree-above o l h k hk in
              let mn = degree-above o l (u ∷ g) n has in
              le-leb _ _ (omega (arith, whole, both, mk, mn, total_degree-same t.0 (monomial_product k u.0) e, sum-product k u.0))
