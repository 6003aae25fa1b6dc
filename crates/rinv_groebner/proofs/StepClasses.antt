-- Cancelling steps, in the honest ring.
--   step_place, step_divisor    the element of a step is not zero, and the multiplier completes its leading monomial
--   step-class           what is left is the polynomial less the multiple
--   step-coefficient     the multiple has the coefficient that is cancelled
--   step-first           what is left is a sum of terms in the same variables
--   step-falls           what is reducible in what is left is less than what was cancelled
--   step-same            a step depends on the coefficients alone
use Rattle.std.proofs.Common.{◌≡◌, ◌⊎◌, ℕ, List, [], ◌∷◌, get_or, append-nil, refl, sym, ◌∙◌, ap, ap₂, subst, inl, inr, IsTrue}
use Rattle.std.specs.declared.cmp.Ordering.{Ordering}
use Rattle.rinv_algebra.specs.Ring.{RingOps, RingLaws}
use Rattle.rinv_algebra.specs.Polynomial.{Term, Polynomial, poly_ops, has_monomial, term_product, difference, opposite, product}
use Rattle.rinv_algebra.specs.Leading.{leading_monomial}
use Rattle.rinv_algebra.proofs.PolynomialLaws.{poly_laws}
use Rattle.rinv_theory.proofs.CRing.{CRing, add_neg}
use Rattle.rinv_theory.proofs.Solver.{ring, reading}
use Rattle.rinv_theory.proofs.Classes.{class, class_ring, class_sound, class-add, class-mul, class-neg}
use Rattle.rinv_theory.proofs.Monoid.{Monomial, monomial, monomials, monomial_sound, monomial-mul}
use Rattle.rinv_theory.proofs.TermRing.{term-neg, coefficient-neg}
use Rattle.rinv_theory.proofs.Polynomials.{polynomials, poly_ring, term_at, class-term, class-coefficient}
use Rattle.rinv_theory.proofs.Of.{Of, of-add, of-times, of-weaken, of-coefficient}
use Rattle.rinv_theory.proofs.Places.{front, front-mul}
use Rattle.rinv_theory.proofs.Variables.{IsFront}
use Rattle.rinv_theory.proofs.Leads.{IsUpTo, lead-of, upto-from, upto-below, mul-upto}
use Rattle.rinv_groebner.specs.Orders.{OrdersMonomials}
use Rattle.rinv_groebner.specs.Division.{Step, is_reducible, IsStep}
use Rattle.rinv_groebner.proofs.Compared.{all_monomials, InFirst, below_less, has_front, nonzero-front, has-coefficient, coefficient-has, class_leads}
use Rattle.rinv_groebner.proofs.ListElements.{Place, AllFirst}
use Rattle.rinv_groebner.proofs.Greatest.{ge-not_less}
use Rattle.rinv_groebner.proofs.Reducible.{divides-parts}

pub negated : {R : Type 0} (𝓡 : CRing R) (x y : R) → 𝓡.mul (𝓡.neg x) y ≡ 𝓡.neg (𝓡.mul x y)
negated 𝓡 x y = ring 𝓡 (x ∷ y ∷ []) (search reading depth 30) refl

without_zero : {R : Type 0} (𝓡 : CRing R) (x : R) → 𝓡.add x (𝓡.neg 𝓡.zero) ≡ x
without_zero 𝓡 x = ring 𝓡 (x ∷ []) (search reading depth 30) refl

module _ {E : Type 0} (o : RingOps E) (l : RingLaws o) where
  -- the class of a term times a formal sum
  pub class-term_product : (t : Term E) (f : Polynomial E) → class (poly_ops o) (term_product o t f) ≡ (poly_ring o l).mul (term_at o l (class o t.1) (monomial t.0)) (class (poly_ops o) f)
  unfolding product
  class-term_product (a, c) f = ap (class (poly_ops o)) (sym (append-nil (term_product o (a, c) f))) ∙ class-mul (poly_ops o) (poly_laws o l) ((a, c) ∷ []) f ∙ ap (λ x. (poly_ring o l).mul x (class (poly_ops o) f)) (class-term o l c a)

  -- and of a difference
  pub class-difference : (f g : Polynomial E) → class (poly_ops o) (difference o f g) ≡ (poly_ring o l).add (class (poly_ops o) f) ((poly_ring o l).neg (class (poly_ops o) g))
  class-difference f g = class-add (poly_ops o) (poly_laws o l) f (opposite o g) ∙ ap ((poly_ring o l).add (class (poly_ops o) f)) (class-neg (poly_ops o) (poly_laws o l) g)

module _ {E : Type 0} (o : RingOps E) (l : RingLaws o) (cmp : List ℕ → List ℕ → Ordering) where
  -- the element of the step
  abbrev pub step_element : List (Polynomial E) → Step E → Polynomial E
  step_element hs s = get_or hs s.place []

  module _ {hs : List (Polynomial E)} {f : Polynomial E} {s : Step E} {left : Polynomial E} (step : IsStep o cmp hs f s left) where
    -- its place
    abbrev pub step_place : Place o hs
    step_place = (s.place, (divides-parts o cmp (step_element hs s) step.cancelled step.next.divides).0)

    -- the multiplier completes its leading monomial
    pub step_divisor : monomials.mul (monomial s.multiplier.0) (monomial (leading_monomial o cmp (step_element hs s))) ≡ monomial step.cancelled
    step_divisor = sym (monomial-mul _ _) ∙ monomial_sound _ _ step.monomial

    -- what is left is the polynomial less the multiple
    pub step-class : class (poly_ops o) left ≡ (poly_ring o l).add (class (poly_ops o) f) ((poly_ring o l).neg ((poly_ring o l).mul (term_at o l (class o s.multiplier.1) (monomial s.multiplier.0)) (class (poly_ops o) (step_element hs s))))
    step-class = class_sound (poly_ops o) (poly_laws o l) left _ step.taken ∙ class-difference o l f _ ∙ ap (λ x. (poly_ring o l).add (class (poly_ops o) f) ((poly_ring o l).neg x)) (class-term_product o l s.multiplier (step_element hs s))

    -- the multiple has the coefficient that is cancelled
    pub step-coefficient : (polynomials o l).coefficient ((poly_ring o l).mul (term_at o l (class o s.multiplier.1) (monomial s.multiplier.0)) (class (poly_ops o) (step_element hs s))) (monomial step.cancelled) ≡ (polynomials o l).coefficient (class (poly_ops o) f) (monomial step.cancelled)
    step-coefficient =
        ap ((polynomials o l).coefficient _) (sym step_divisor) ∙ (polynomials o l).coefficient_times (class o s.multiplier.1) (monomial s.multiplier.0) (monomial (leading_monomial o cmp (step_element hs s))) (class (poly_ops o) (step_element hs s))
        ∙ ap ((class_ring o l).mul (class o s.multiplier.1)) (class-coefficient o l (step_element hs s) (leading_monomial o cmp (step_element hs s))) ∙ sym (class-mul o l _ _) ∙ class_sound o l _ _ step.coefficient ∙ sym (class-coefficient o l f step.cancelled)

    module _ (v : ℕ) (order : OrdersMonomials cmp v) (first : AllFirst o l v hs) (f_first : InFirst o l v f) where
      -- the cancelled monomial is one in the first v variables
      pub cancelled_front : IsFront v (monomial step.cancelled)
      cancelled_front = has_front o l v f f_first step.cancelled step.next.has

      -- and so is the multiplier
      pub multiplier_front : IsFront v (monomial s.multiplier.0)
      multiplier_front = monomials.cancel (monomial (leading_monomial o cmp (step_element hs s))) _ _ (
          monomials.mul_comm _ _ ∙ ap (monomials.mul (front v (monomial s.multiplier.0))) (sym lead_front) ∙ sym (front-mul v _ _) ∙ ap (front v) step_divisor ∙ cancelled_front ∙ sym step_divisor ∙ monomials.mul_comm _ _)
        where
          lead_front : IsFront v (monomial (leading_monomial o cmp (step_element hs s)))
          lead_front = nonzero-front o l v (first s.place) (monomial (leading_monomial o cmp (step_element hs s))) (class_leads o l v cmp order (step_element hs s) (first s.place) step_place.1).nonzero

      -- what is left is a sum of terms in the first v variables
      pub step-first : InFirst o l v left
      step-first = subst (Of (polynomials o l) (IsFront v)) (sym step-class)
          (of-add (polynomials o l) f_first (subst (Of (polynomials o l) (IsFront v)) (ap (λ x. (poly_ring o l).mul x (class (poly_ops o) (step_element hs s))) (term-neg (polynomials o l) (class o s.multiplier.1) (monomial s.multiplier.0)) ∙ negated (poly_ring o l) _ _)
          (of-times (polynomials o l) ((class_ring o l).neg (class o s.multiplier.1)) (monomial s.multiplier.0) (λ n q. front-mul v _ n ∙ ap₂ monomials.mul multiplier_front q) (first s.place))))

      -- the monomials of the multiple are up to what is cancelled
      pub multiple-of : Of (polynomials o l) (λ n. IsUpTo (all_monomials cmp v order) n (monomial step.cancelled)) ((poly_ring o l).mul (term_at o l (class o s.multiplier.1) (monomial s.multiplier.0)) (class (poly_ops o) (step_element hs s)))
      multiple-of = of-times (polynomials o l) (class o s.multiplier.1) (monomial s.multiplier.0) (λ n u. subst (IsUpTo (all_monomials cmp v order) (monomials.mul (monomial s.multiplier.0) n)) step_divisor (mul-upto (all_monomials cmp v order) (monomial s.multiplier.0) n _ u))
          (of-weaken (polynomials o l) (λ n q. upto-from (all_monomials cmp v order) n (monomial (leading_monomial o cmp (step_element hs s))) q.1)
          (lead-of (polynomials o l) (all_monomials cmp v order) (class_leads o l v cmp order (step_element hs s) (first s.place) step_place.1) (first s.place)))

      -- above the cancelled monomial, what is left has the coefficients of the polynomial
      pub step-above : (e : Monomial) → (all_monomials cmp v order).below (monomial step.cancelled) e → (polynomials o l).coefficient (class (poly_ops o) left) e ≡ (polynomials o l).coefficient (class (poly_ops o) f) e
      step-above e h =
          ap (λ x. (polynomials o l).coefficient x e) step-class ∙ (polynomials o l).coefficient_add _ _ _
          ∙ ap ((class_ring o l).add _) (coefficient-neg (polynomials o l) _ _ ∙ ap (class_ring o l).neg none) ∙ without_zero (class_ring o l) _
        where
          none : (polynomials o l).coefficient ((poly_ring o l).mul (term_at o l (class o s.multiplier.1) (monomial s.multiplier.0)) (class (poly_ops o) (step_element hs s))) e ≡ (class_ring o l).zero
          none = of-coefficient (polynomials o l) {Q = λ n. IsUpTo (all_monomials cmp v order) n (monomial step.cancelled)} e
              (λ n u i. (all_monomials cmp v order).irreflexive e (subst (λ x. (all_monomials cmp v order).below x e) i (upto-below (all_monomials cmp v order) n (monomial step.cancelled) e u h))) multiple-of

      -- and there it has none
      pub step-at : (polynomials o l).coefficient (class (poly_ops o) left) (monomial step.cancelled) ≡ (class_ring o l).zero
      step-at =
          ap (λ x. (polynomials o l).coefficient x (monomial step.cancelled)) step-class ∙ (polynomials o l).coefficient_add _ _ _
          ∙ ap ((class_ring o l).add _) (coefficient-neg (polynomials o l) _ _ ∙ ap (class_ring o l).neg step-coefficient) ∙ add_neg (class_ring o l) _

      -- what is reducible in what is left is less than what was cancelled
      pub step-falls : (e : List ℕ) → IsTrue (has_monomial o left e) → IsTrue (is_reducible o cmp hs e) → (all_monomials cmp v order).below (monomial e) (monomial step.cancelled)
      step-falls e has red = go ((all_monomials cmp v order).total (monomial e) (monomial step.cancelled))
        where
          go : (all_monomials cmp v order).below (monomial e) (monomial step.cancelled) ⊎ (monomial e ≡ monomial step.cancelled) ⊎ (all_monomials cmp v order).below (monomial step.cancelled) (monomial e) → (all_monomials cmp v order).below (monomial e) (monomial step.cancelled)
          go (inl h) = h
          go (inr (inl i)) = absurd (has-coefficient o l left e has (ap ((polynomials o l).coefficient (class (poly_ops o) left)) i ∙ step-at))
          go (inr (inr h)) =
              let there : IsTrue (has_monomial o f e) = coefficient-has o l f e (λ z. has-coefficient o l left e has (step-above (monomial e) h ∙ z)) in
              absurd (ge-not_less cmp order.laws.total step.cancelled e (step.next.greatest e there red) (below_less cmp v order step.cancelled e cancelled_front (has_front o l v f f_first e there) h))
