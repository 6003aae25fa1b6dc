-- Formal sums over a ring of the code, as a ring of polynomials over the classes of its elements.
--   polynomials o l      the ring of polynomials: the classes of the formal sums
--   class-coefficient    the coefficients of a class
--   class-term, class-cons, class-constant    the class of one term, of a term before others, of a constant
--   terms_of, class-spell    the terms of a formal sum, whose sum is its class
use Rattle.std.proofs.Common.{◌≡◌, ℕ, Bool, true, false, cond, List, [], ◌∷◌, map, refl, sym, ◌∙◌, ap}
use mathlib.Core.Logic.{∥∥₁_prop}
use Rattle.rinv_algebra.specs.Ring.{RingOps, RingLaws, IsSame}
use Rattle.rinv_algebra.specs.Monomial.{same_monomial, monomial_product}
use Rattle.rinv_algebra.specs.Polynomial.{Polynomial, coefficient, product, poly_ops, constant}
use Rattle.rinv_algebra.proofs.MonomialLaws.{same_monomial-left}
use Rattle.rinv_algebra.proofs.RingFacts as facts
use Rattle.rinv_algebra.proofs.Same.{coefficient-same_monomial, same-coefficients, same-from_coefficients}
use Rattle.rinv_algebra.proofs.Weights as w
use Rattle.rinv_algebra.proofs.PolynomialLaws.{poly_laws}
use Rattle.rinv_theory.proofs.CRing.{CRing}
use Rattle.rinv_theory.proofs.Quotient.{lift₂, ind₂}
use Rattle.rinv_theory.proofs.Classes.{Class, class, class_ring, class_sound, class_exact, class_ind, class-zero}
use Rattle.rinv_theory.proofs.AlikeSolver.{alike_ring, alike_reading}
use Rattle.rinv_theory.proofs.Monoid.{IsOne, Monomial, monomial, monomials, monomial_ind, monomial-mul, monomial-one, monomial-same, same_monomial-product_left}
use Rattle.rinv_theory.proofs.TermSums.{Terms, pick, total}
use Rattle.rinv_theory.proofs.TermRing.{TermRing, spell}

module _ {E : Type 0} (o : RingOps E) (l : RingLaws o) where
  -- the ring of the classes of formal sums
  abbrev pub poly_ring : CRing (Class (poly_ops o))
  poly_ring = class_ring (poly_ops o) (poly_laws o l)

  abbrev poly : Polynomial E → Class (poly_ops o)
  poly f = class (poly_ops o) f

  poly_sound : (f g : Polynomial E) → ((e : List ℕ) → IsSame o (coefficient o f e) (coefficient o g e)) → poly f ≡ poly g
  poly_sound f g h = class_sound (poly_ops o) (poly_laws o l) f g (same-from_coefficients o f g h)

  -- the coefficient of a class, as a class
  pub coefficient_at : Class (poly_ops o) → Monomial → Class o
  coefficient_at x m = lift₂ {r = IsSame (poly_ops o)} {s = IsOne} (class_ring o l).is_set (λ f e. class o (coefficient o f e)) (λ f g e s. class_sound o l _ _ (same-coefficients o l f g s e)) (λ f d e s. ap (class o) (coefficient-same_monomial o f d e s)) x m

  one_coefficient : (c d : E) → IsSame o c d → (b : Bool) → IsSame o (cond b (o.add c o.zero) o.zero) (cond b (o.add d o.zero) o.zero)
  one_coefficient c d s true = facts.add2 o l s (l.same_refl o.zero)
  one_coefficient c d s false = l.same_refl o.zero

  term_first : (c d : E) (a : List ℕ) → IsSame o c d → poly ((a, c) ∷ []) ≡ poly ((a, d) ∷ [])
  unfolding coefficient
  term_first c d a s = poly_sound _ _ (λ e. one_coefficient c d s (same_monomial a e))

  term_second : (c : E) (a b : List ℕ) → IsOne a b → poly ((a, c) ∷ []) ≡ poly ((b, c) ∷ [])
  unfolding coefficient
  term_second c a b s = poly_sound _ _ (λ e. facts.of_same o l (ap (λ (t : Bool). cond t (o.add c o.zero) o.zero) (same_monomial-left a b e s)))

  -- the term with a class as its coefficient
  pub term_at : Class o → Monomial → Class (poly_ops o)
  term_at x m = lift₂ {r = IsSame o} {s = IsOne} poly_ring.is_set (λ c a. poly ((a, c) ∷ [])) term_first term_second x m

  term-add_list : (c d : E) (a : List ℕ) → poly ((a, c) ∷ (a, d) ∷ []) ≡ poly ((a, o.add c d) ∷ [])
  unfolding coefficient
  term-add_list c d a = poly_sound _ _ (λ e. go (same_monomial a e))
    where
      go : (b : Bool) → IsSame o (cond b (o.add c (cond b (o.add d o.zero) o.zero)) (cond b (o.add d o.zero) o.zero)) (cond b (o.add (o.add c d) o.zero) o.zero)
      go true = alike_ring o l (c ∷ d ∷ []) (search alike_reading depth 30) refl
      go false = l.same_refl o.zero

  -- terms with one monomial are added by their coefficients
  pub term_at-add : (x y : Class o) (m : Monomial) → poly_ring.add (term_at x m) (term_at y m) ≡ term_at ((class_ring o l).add x y) m
  unfolding class class_ring term_at monomial
  term_at-add x y m = ind₂ (λ x y. poly_ring.add (term_at x m) (term_at y m) ≡ term_at ((class_ring o l).add x y) m) (λ x y. poly_ring.is_set _ _)
      (λ c d. monomial_ind (λ m. poly_ring.add (term_at (class o c) m) (term_at (class o d) m) ≡ term_at ((class_ring o l).add (class o c) (class o d)) m) (λ m. poly_ring.is_set _ _) (term-add_list c d) m) x y

  -- terms are multiplied part by part
  pub term_at-mul : (x y : Class o) (m n : Monomial) → poly_ring.mul (term_at x m) (term_at y n) ≡ term_at ((class_ring o l).mul x y) (monomials.mul m n)
  unfolding class class_ring term_at monomial product
  term_at-mul x y m n = ind₂ (λ x y. poly_ring.mul (term_at x m) (term_at y n) ≡ term_at ((class_ring o l).mul x y) (monomials.mul m n)) (λ x y. poly_ring.is_set _ _)
      (λ c d. ind₂ (λ m n. poly_ring.mul (term_at (class o c) m) (term_at (class o d) n) ≡ term_at ((class_ring o l).mul (class o c) (class o d)) (monomials.mul m n)) (λ m n. poly_ring.is_set _ _) (product_terms c d) m n) x y
    where
      product_terms : (c d : E) (a b : List ℕ) → poly_ring.mul (term_at (class o c) (monomial a)) (term_at (class o d) (monomial b)) ≡ term_at ((class_ring o l).mul (class o c) (class o d)) (monomials.mul (monomial a) (monomial b))
      product_terms c d a b = ap (term_at (class o (o.mul c d))) (monomial-mul a b)

  -- the coefficients of a sum
  pub coefficient_at-add : (x y : Class (poly_ops o)) (m : Monomial) → coefficient_at (poly_ring.add x y) m ≡ (class_ring o l).add (coefficient_at x m) (coefficient_at y m)
  unfolding class class_ring coefficient_at monomial
  coefficient_at-add x y m = ind₂ (λ x y. coefficient_at (poly_ring.add x y) m ≡ (class_ring o l).add (coefficient_at x m) (coefficient_at y m)) (λ x y. (class_ring o l).is_set _ _)
      (λ f g. monomial_ind (λ m. coefficient_at (poly_ring.add (poly f) (poly g)) m ≡ (class_ring o l).add (coefficient_at (poly f) m) (coefficient_at (poly g) m)) (λ m. (class_ring o l).is_set _ _) (λ e. class_sound o l _ _ (w.coefficient-append o l f g e)) m) x y

  -- the coefficients of a term
  pub coefficient_at-term : (x : Class o) (m e : Monomial) → coefficient_at (term_at x m) e ≡ pick (class_ring o l) monomials e x m
  unfolding class class_ring coefficient_at term_at monomial coefficient
  coefficient_at-term x m e = class_ind o l (λ x. coefficient_at (term_at x m) e ≡ pick (class_ring o l) monomials e x m) (λ x. (class_ring o l).is_set _ _)
      (λ c. ind₂ (λ m e. coefficient_at (term_at (class o c) m) e ≡ pick (class_ring o l) monomials e (class o c) m) (λ m e. (class_ring o l).is_set _ _) (λ a e. go c (same_monomial a e) ∙ ap (λ (t : Bool). cond t (class o c) (class_ring o l).zero) (sym (monomial-same a e))) m e) x
    where
      go : (c : E) (b : Bool) → class o (cond b (o.add c o.zero) o.zero) ≡ cond b (class o c) (class_ring o l).zero
      go c true = class_sound o l _ _ (l.add_zero c)
      go c false = class-zero o l

  -- the coefficient of a product with a term, of formal sums
  pub coefficient-times_term : (c : E) (a e : List ℕ) (f : Polynomial E) → IsSame o (coefficient o (product o ((a, c) ∷ []) f) (monomial_product a e)) (o.mul c (coefficient o f e))
  unfolding coefficient product
  coefficient-times_term c a e [] = facts.back o l (facts.mul_zero o l c)
  coefficient-times_term c a e ((n, d) ∷ f) = rw (same_monomial-product_left a n e) (go (same_monomial n e) (coefficient-times_term c a e f))
    where
      go : (b : Bool) → IsSame o (coefficient o (product o ((a, c) ∷ []) f) (monomial_product a e)) (o.mul c (coefficient o f e))
          → IsSame o (cond b (o.add (o.mul c d) (coefficient o (product o ((a, c) ∷ []) f) (monomial_product a e))) (coefficient o (product o ((a, c) ∷ []) f) (monomial_product a e))) (o.mul c (cond b (o.add d (coefficient o f e)) (coefficient o f e)))
      go true h = facts.then o l (facts.add2 o l (l.same_refl (o.mul c d)) h) (facts.back o l (l.mul_add c d (coefficient o f e)))
      go false h = h

  -- the coefficients of a product with a term
  pub coefficient_at-times : (x : Class o) (m e : Monomial) (y : Class (poly_ops o)) → coefficient_at (poly_ring.mul (term_at x m) y) (monomials.mul m e) ≡ (class_ring o l).mul x (coefficient_at y e)
  unfolding class class_ring coefficient_at term_at monomial
  coefficient_at-times x m e y = ind₂ (λ x y. coefficient_at (poly_ring.mul (term_at x m) y) (monomials.mul m e) ≡ (class_ring o l).mul x (coefficient_at y e)) (λ x y. (class_ring o l).is_set _ _)
      (λ c f. ind₂ (λ m e. coefficient_at (poly_ring.mul (term_at (class o c) m) (poly f)) (monomials.mul m e) ≡ (class_ring o l).mul (class o c) (coefficient_at (poly f) e)) (λ m e. (class_ring o l).is_set _ _) (at_lists c f) m e) x y
    where
      at_lists : (c : E) (f : Polynomial E) (a e : List ℕ) → coefficient_at (poly_ring.mul (term_at (class o c) (monomial a)) (poly f)) (monomials.mul (monomial a) (monomial e)) ≡ (class_ring o l).mul (class o c) (coefficient_at (poly f) (monomial e))
      at_lists c f a e = ap (coefficient_at (poly (product o ((a, c) ∷ []) f))) (sym (monomial-mul a e)) ∙ class_sound o l _ _ (coefficient-times_term c a e f)

  -- the terms of a formal sum, as classes
  abbrev pub terms_of : Polynomial E → Terms (Class o) Monomial
  terms_of f = map (λ t. (monomial t.0, class o t.1)) f

  spell-terms_of : (f : Polynomial E) → total poly_ring term_at (terms_of f) ≡ poly f
  unfolding class class_ring term_at monomial
  spell-terms_of [] = refl
  spell-terms_of ((a, c) ∷ f) = ap (poly_ring.add (term_at (class o c) (monomial a))) (spell-terms_of f)

  -- each class is a sum of terms
  pub spelled_at : (x : Class (poly_ops o)) → ∥ ((p : Terms (Class o) Monomial) × (total poly_ring term_at p ≡ x)) ∥₁
  spelled_at = class_ind (poly_ops o) (poly_laws o l) (λ x. ∥ ((p : Terms (Class o) Monomial) × (total poly_ring term_at p ≡ x)) ∥₁) (λ x. ∥∥₁_prop) (λ f. ∣ (terms_of f, spell-terms_of f) ∣₁)

  -- classes with equal coefficients are equal
  pub coefficient_at-ext : (x y : Class (poly_ops o)) → ((m : Monomial) → coefficient_at x m ≡ coefficient_at y m) → x ≡ y
  unfolding class coefficient_at monomial
  coefficient_at-ext = ind₂ (λ x y. ((m : Monomial) → coefficient_at x m ≡ coefficient_at y m) → x ≡ y) (λ x y. hlevel (poly_ring.is_set)) (λ f g h. poly_sound f g (λ e. class_exact o l _ _ (h (monomial e))))

  -- the term 1
  pub term_at-one : term_at (class_ring o l).one monomials.one ≡ poly_ring.one
  unfolding class class_ring term_at monomial
  term_at-one = ap (term_at (class o o.one)) (sym monomial-one)

  -- the ring of polynomials
  abbrev pub polynomials : TermRing (class_ring o l) monomials (Class (poly_ops o))
  polynomials = record {
    ring = poly_ring;
    term = term_at;
    coefficient = coefficient_at;
    term_add = term_at-add;
    term_mul = term_at-mul;
    term_one = term_at-one;
    coefficient_add = coefficient_at-add;
    coefficient_term = coefficient_at-term;
    coefficient_times = coefficient_at-times;
    spelled = spelled_at;
    coefficient_ext = coefficient_at-ext;
  }

  -- the coefficients of the class of a formal sum
  pub class-coefficient : (f : Polynomial E) (e : List ℕ) → coefficient_at (class (poly_ops o) f) (monomial e) ≡ class o (coefficient o f e)
  unfolding class coefficient_at monomial
  class-coefficient f e = refl

  -- the class of a term
  pub class-term : (c : E) (a : List ℕ) → class (poly_ops o) ((a, c) ∷ []) ≡ term_at (class o c) (monomial a)
  unfolding class term_at monomial
  class-term c a = refl

  -- the class of a formal sum is that of its first term, and of the others
  pub class-cons : (c : E) (a : List ℕ) (f : Polynomial E) → class (poly_ops o) ((a, c) ∷ f) ≡ poly_ring.add (term_at (class o c) (monomial a)) (class (poly_ops o) f)
  unfolding class class_ring term_at monomial
  class-cons c a f = refl

  -- the class of a constant
  pub class-constant : (c : E) → class (poly_ops o) (constant o c) ≡ term_at (class o c) monomials.one
  class-constant c = class-term c [] ∙ ap (term_at (class o c)) monomial-one

  -- the class of a formal sum is the sum of its terms
  pub class-spell : (f : Polynomial E) → class (poly_ops o) f ≡ spell polynomials (terms_of f)
  class-spell f = sym (spell-terms_of f)
