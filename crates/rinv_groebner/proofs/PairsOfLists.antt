-- Pairs of a list of polynomials that are good: by their S-polynomial, by coprime leading monomials, by a third element.
--   s_polynomial-class   the S-polynomial is the difference of two multiples that cancel
--   s_polynomial-passes  its monomials are in the first v variables, and below the least common multiple
--   quotients-good, coprime-good, chain-good    when a pair is good
use Rattle.std.proofs.Common.{◌≡◌, ℕ, true, List, [], get_or, sym, ◌∙◌, ap, ap₂, subst, IsTrue, true≢false}
use Rattle.std.specs.declared.cmp.Ordering.{Ordering}
use Rattle.rinv_algebra.specs.Ring.{RingOps, RingLaws, FieldLaws}
use Rattle.rinv_algebra.specs.Monomial.{divides, quotient, lcm, coprime}
use Rattle.rinv_algebra.specs.Polynomial.{Polynomial, poly_ops, term_product}
use Rattle.rinv_algebra.specs.Leading.{leading_monomial, multiplier, s_polynomial}
use Rattle.rinv_theory.proofs.Classes.{Class, class, class_ring}
use Rattle.rinv_theory.proofs.Monoid.{Monomial, monomial, monomials}
use Rattle.rinv_theory.proofs.TermRing.{term-neg}
use Rattle.rinv_theory.proofs.Polynomials.{polynomials, poly_ring, term_at}
use Rattle.rinv_theory.proofs.Of.{Of, of-add, of-times, of-coefficient, of_where}
use Rattle.rinv_theory.proofs.Places.{front-mul}
use Rattle.rinv_theory.proofs.Variables.{IsFront}
use Rattle.rinv_groebner.specs.Orders.{OrdersMonomials}
use Rattle.rinv_groebner.proofs.Elements.{Elements, IsBelow}
use Rattle.rinv_groebner.proofs.Pairs.{cancelling, IsGood, good_quotients, good_chain, good_coprime}
use Rattle.rinv_groebner.proofs.MonomialLists.{lcm_left, lcm_least, quotient_divisor, lcm-front, quotient-front, divides-divisor, divisor_trans, coprime_multiples}
use Rattle.rinv_groebner.proofs.Compared.{all_monomials, InFirst, nonzero-front, class_leads}
use Rattle.rinv_groebner.proofs.ListElements.{AllFirst, Place, list_elements}
use Rattle.rinv_groebner.proofs.StepClasses.{negated, class-term_product, class-difference}
use Rattle.rinv_groebner.proofs.GoodPairs.{lcm_comm, cancelling-of, is_below, below-to}

module _ {E : Type 0} (o : RingOps E) (l : RingLaws o) (field : FieldLaws o) (cmp : List ℕ → List ℕ → Ordering) (v : ℕ) (order : OrdersMonomials cmp v) (hs : List (Polynomial E)) (first : AllFirst o l v hs) where
  abbrev elements : Elements (polynomials o l) (all_monomials cmp v order) (Place o hs)
  elements = list_elements o l field cmp v order hs first

  abbrev at : Place o hs → Polynomial E
  at x = get_or hs x.0 []

  abbrev lead : Place o hs → List ℕ
  lead x = leading_monomial o cmp (at x)

  -- what completes the leading monomial of the first to the least common multiple
  abbrev complement : Place o hs → Place o hs → Monomial
  complement x y = monomial (quotient (lcm (lead x) (lead y)) (lead x))

  complement_first : (x y : Place o hs) → monomials.mul (complement x y) (monomial (lead x)) ≡ monomial (lcm (lead x) (lead y))
  complement_first x y = quotient_divisor _ _ (lcm_left (lead x) (lead y))

  complement_second : (x y : Place o hs) → monomials.mul (complement y x) (monomial (lead y)) ≡ monomial (lcm (lead x) (lead y))
  complement_second x y = complement_first y x ∙ lcm_comm (lead y) (lead x)

  -- the S-polynomial is the difference of two multiples that cancel
  pub s_polynomial-class : (x y : Place o hs) → class (poly_ops o) (s_polynomial o cmp (at x) (at y)) ≡ cancelling elements (complement x y) (complement y x) x y
  unfolding s_polynomial
  s_polynomial-class x y =
      class-difference o l (term_product o (multiplier o cmp (at x) (at y)) (at x)) (term_product o (multiplier o cmp (at y) (at x)) (at y))
      ∙ ap₂ (λ a b. (poly_ring o l).add a ((poly_ring o l).neg b)) (class-term_product o l (multiplier o cmp (at x) (at y)) (at x)) (class-term_product o l (multiplier o cmp (at y) (at x)) (at y))

  front_lead : (x : Place o hs) → IsFront v (monomial (lead x))
  front_lead x = nonzero-front o l v (first x.0) (monomial (lead x)) (class_leads o l v cmp order (at x) (first x.0) x.1).nonzero

  -- the least common multiple of two leading monomials is in the first v variables
  pub lcm_front : (x y : Place o hs) → IsFront v (monomial (lcm (lead x) (lead y)))
  lcm_front x y = lcm-front v (lead x) (lead y) (front_lead x) (front_lead y)

  complement_front : (x y : Place o hs) → IsFront v (complement x y)
  complement_front x y = quotient-front v (lcm (lead x) (lead y)) (lead x) (lcm_front x y)

  -- the S-polynomial is in the first v variables
  pub s_polynomial-first : (x y : Place o hs) → InFirst o l v (s_polynomial o cmp (at x) (at y))
  s_polynomial-first x y = subst (Of (polynomials o l) (IsFront v)) (sym (s_polynomial-class x y)) (of-add (polynomials o l) (part x y (elements.lead_coefficient y))
      (subst (Of (polynomials o l) (IsFront v)) (ap (λ z. (poly_ring o l).mul z (class (poly_ops o) (at y))) (term-neg (polynomials o l) (elements.lead_coefficient x) (complement y x)) ∙ negated (poly_ring o l) _ _) (second x y)))
    where
      part : (x y : Place o hs) (c : Class o) → Of (polynomials o l) (IsFront v) ((poly_ring o l).mul (term_at o l c (complement x y)) (class (poly_ops o) (at x)))
      part x y c = of-times (polynomials o l) c (complement x y) (λ n q. front-mul v _ n ∙ ap₂ monomials.mul (complement_front x y) q) (first x.0)

      second : (x y : Place o hs) → Of (polynomials o l) (IsFront v) ((poly_ring o l).mul (term_at o l ((class_ring o l).neg (elements.lead_coefficient x)) (complement y x)) (class (poly_ops o) (at y)))
      second x y = part y x ((class_ring o l).neg (elements.lead_coefficient x))

  -- and its monomials are below the least common multiple
  pub s_polynomial-passes : (x y : Place o hs) → Of (polynomials o l) (λ n. IsFront v n × (is_below (all_monomials cmp v order) (monomial (lcm (lead x) (lead y))) n ≡ true)) (class (poly_ops o) (s_polynomial o cmp (at x) (at y)))
  s_polynomial-passes x y = of_where (polynomials o l) (is_below (all_monomials cmp v order) (monomial (lcm (lead x) (lead y)))) (s_polynomial-first x y) (λ e t.
      ap (λ z. (polynomials o l).coefficient z e) (s_polynomial-class x y)
      ∙ of-coefficient (polynomials o l) {Q = λ n. (all_monomials cmp v order).below n (monomial (lcm (lead x) (lead y)))} e
      (λ n q i. true≢false (sym (below-to (all_monomials cmp v order) _ e (subst (λ z. (all_monomials cmp v order).below z (monomial (lcm (lead x) (lead y)))) i q)) ∙ t))
      (cancelling-of elements (monomial (lcm (lead x) (lead y))) (complement x y) (complement y x) x y (complement_first x y) (complement_second x y)))

  -- by the S-polynomial
  pub quotients-good : (x y : Place o hs) → IsBelow elements (monomial (lcm (lead x) (lead y))) (class (poly_ops o) (s_polynomial o cmp (at x) (at y))) → IsGood elements x y
  quotients-good x y r = good_quotients elements x y (monomial (lcm (lead x) (lead y))) (complement x y) (complement y x) (complement_first x y) (complement_second x y) (λ m s t e e'. lcm_least (lead x) (lead y) m s t e e') (subst (IsBelow elements (monomial (lcm (lead x) (lead y)))) (s_polynomial-class x y) r)

  -- by coprime leading monomials
  pub coprime-good : (x y : Place o hs) → IsTrue (coprime (lead x) (lead y)) → IsGood elements x y
  coprime-good x y h = good_coprime elements x y (coprime_multiples (lead x) (lead y) h)

  -- by a third element
  pub chain-good : (x y z : Place o hs) → IsTrue (divides (lead z) (lcm (lead x) (lead y))) → IsGood elements x z → IsGood elements z y → IsGood elements x y
  chain-good x y z d = good_chain elements x y z (λ m s t e e'. divisor_trans (monomial (lead z)) (monomial (lcm (lead x) (lead y))) m (divides-divisor (lead z) _ d) (lcm_least (lead x) (lead y) m s t e e'))
