-- What cancelling steps take away, monomial by monomial: where all monomials of the polynomial pass a test that passes down, so do all
-- that the steps meet. "Up to m" and "below m" are such tests.
--   path-of              those of what is left
--   path-multiples       what was taken away is a sum of multiples that pass it
--   path-products        each quotient times its element
use Rattle.std.proofs.Common.{◌≡◌, ℕ, Bool, true, List, [], get_or, sym, ◌∙◌, ap, ap₂, subst, inl, inr, arith}
use Rattle.std.specs.Prelude.{◌==◌}
use Rattle.std.proofs.lemmas.Bool.{cases_Bool}
use Rattle.std.proofs.lemmas.Bool.Decides.{nat_tests}
use Rattle.std.specs.declared.cmp.Ordering.{Ordering}
use Rattle.rinv_algebra.specs.Ring.{RingOps, RingLaws}
use Rattle.rinv_algebra.specs.Polynomial.{Polynomial, poly_ops, product}
use Rattle.rinv_algebra.specs.Leading.{leading_monomial}
use Rattle.rinv_algebra.proofs.PolynomialLaws.{poly_laws}
use Rattle.rinv_theory.proofs.Classes.{Class, class, class_ring, class_sound, class-zero}
use Rattle.rinv_theory.proofs.Monoid.{Monomial, monomial, monomials}
use Rattle.rinv_theory.proofs.TermRing.{term-neg}
use Rattle.rinv_theory.proofs.Polynomials.{polynomials, poly_ring, term_at}
use Rattle.rinv_theory.proofs.Of.{Of, of-add, of-times, of-weaken}
use Rattle.rinv_theory.proofs.Places.{front-mul}
use Rattle.rinv_theory.proofs.Variables.{IsFront}
use Rattle.rinv_theory.proofs.Leads.{IsUpTo, lead-of, upto-from, mul-upto}
use Rattle.rinv_groebner.specs.Orders.{OrdersMonomials}
use Rattle.rinv_groebner.specs.Division.{Step, quotient_at, IsStep}
use Rattle.rinv_groebner.proofs.Multiples.{Multiples}
use Rattle.rinv_groebner.proofs.Compared.{all_monomials, of_passes, has-coefficient, class_leads}
use Rattle.rinv_groebner.proofs.ListElements.{AllFirst, Place}
use Rattle.rinv_groebner.proofs.StepClasses.{negated, step_place, step_divisor, step-class, multiplier_front}
use Rattle.rinv_groebner.proofs.StepSums.{restored, multiple, own_place, other_place, class-product_cons}
use Rattle.rinv_groebner.proofs.Paths.{Path}

module _ {E : Type 0} (o : RingOps E) (l : RingLaws o) (cmp : List ℕ → List ℕ → Ordering) (v : ℕ) (order : OrdersMonomials cmp v) (hs : List (Polynomial E)) (first : AllFirst o l v hs)
    (test : Monomial → Bool) (down : (n m : Monomial) → IsFront v n → (all_monomials cmp v order).below n m → test m ≡ true → test n ≡ true) where
  -- monomials in the first v variables that pass the test
  abbrev pub Passes : Monomial → Type 0
  Passes n = IsFront v n × (test n ≡ true)

  abbrev Passing : Class (poly_ops o) → Type 0
  Passing x = Of (polynomials o l) Passes x

  front_of : {x : Class (poly_ops o)} → Passing x → Of (polynomials o l) (IsFront v) x
  front_of r = of-weaken (polynomials o l) {Q = Passes} (λ n q. q.0) r

  module _ {f : Polynomial E} {s : Step E} {left : Polynomial E} (step : IsStep o cmp hs f s left) (r : Passing (class (poly_ops o) f)) where
    cancelled_passes : test (monomial step.cancelled) ≡ true
    cancelled_passes = of_passes (polynomials o l) test (monomial step.cancelled) (of-weaken (polynomials o l) {Q = Passes} (λ n q. q.1) r) (has-coefficient o l f step.cancelled step.next.has)

    multiplied : (n : Monomial) → IsFront v n → IsUpTo (all_monomials cmp v order) n (monomial (leading_monomial o cmp (get_or hs s.place []))) → Passes (monomials.mul (monomial s.multiplier.0) n)
    multiplied n q u = (in_front, go (subst (IsUpTo (all_monomials cmp v order) (monomials.mul (monomial s.multiplier.0) n)) (step_divisor o l cmp step) (mul-upto (all_monomials cmp v order) (monomial s.multiplier.0) n _ u)))
      where
        in_front : IsFront v (monomials.mul (monomial s.multiplier.0) n)
        in_front = front-mul v _ n ∙ ap₂ monomials.mul (multiplier_front o l cmp step v order first (front_of r)) q

        go : IsUpTo (all_monomials cmp v order) (monomials.mul (monomial s.multiplier.0) n) (monomial step.cancelled) → test (monomials.mul (monomial s.multiplier.0) n) ≡ true
        go (inl h) = down _ _ in_front h cancelled_passes
        go (inr i) = ap test i ∙ cancelled_passes

    element_of : Of (polynomials o l) (λ n. IsFront v n × IsUpTo (all_monomials cmp v order) n (monomial (leading_monomial o cmp (get_or hs s.place [])))) (class (poly_ops o) (get_or hs s.place []))
    element_of = of-weaken (polynomials o l) (λ n q. (q.0, upto-from (all_monomials cmp v order) n (monomial (leading_monomial o cmp (get_or hs s.place []))) q.1))
        (lead-of (polynomials o l) (all_monomials cmp v order) (class_leads o l v cmp order (get_or hs s.place []) (first s.place) (step_place o l cmp step).1) (first s.place))

    -- the monomials of the multiple
    pub multiple_passes : (c : Class o) → Passing ((poly_ring o l).mul (term_at o l c (monomial s.multiplier.0)) (class (poly_ops o) (get_or hs s.place [])))
    multiple_passes c = of-times (polynomials o l) c (monomial s.multiplier.0) (λ n q. multiplied n q.0 q.1) element_of

    -- and of what is left
    pub left_passes : Passing (class (poly_ops o) left)
    left_passes = subst (Of (polynomials o l) Passes) (sym (step-class o l cmp step)) (of-add (polynomials o l) r
        (subst (Of (polynomials o l) Passes) (ap (λ x. (poly_ring o l).mul x (class (poly_ops o) (get_or hs s.place []))) (term-neg (polynomials o l) (class o s.multiplier.1) (monomial s.multiplier.0)) ∙ negated (poly_ring o l) _ _) (multiple_passes ((class_ring o l).neg (class o s.multiplier.1)))))

  -- the monomials of what is left
  pub path-of : {f left : Polynomial E} {steps : List (Step E)} → Path o cmp hs f steps left → Passing (class (poly_ops o) f) → Passing (class (poly_ops o) left)
  path-of (Path.stay {f} {left} e) r = subst (Of (polynomials o l) Passes) (sym (class_sound (poly_ops o) (poly_laws o l) left f e)) r
  path-of (Path.take step p) r = path-of p (left_passes step r)

  -- what was taken away
  pub record Taken (f left : Polynomial E) : Type 0 where
    pub taken : Class (poly_ops o)
    pub whole : class (poly_ops o) f ≡ (poly_ring o l).add taken (class (poly_ops o) left)
    pub multiples : Multiples (polynomials o l) (λ (k : Place o hs). class (poly_ops o) (get_or hs k.0 [])) (λ k. monomial (leading_monomial o cmp (get_or hs k.0 []))) (λ n. test n ≡ true) taken

  -- is a sum of multiples that pass the test
  pub path-multiples : {f left : Polynomial E} {steps : List (Step E)} → Path o cmp hs f steps left → Passing (class (poly_ops o) f) → Taken f left
  path-multiples (Path.stay {f} {left} e) r = record { taken = (poly_ring o l).zero; whole = sym (class_sound (poly_ops o) (poly_laws o l) left f e) ∙ sym ((poly_ring o l).zero_add _); multiples = Multiples.none }
  path-multiples (Path.take {f} {mid} {left} {s} step p) r =
      let t = path-multiples p (left_passes step r) in
      record {
        taken = (poly_ring o l).add (multiple o l s (get_or hs s.place [])) t.taken;
        whole = sym (restored (poly_ring o l) (class (poly_ops o) f) (multiple o l s (get_or hs s.place []))) ∙ ap ((poly_ring o l).add (multiple o l s (get_or hs s.place []))) (sym (step-class o l cmp step) ∙ t.whole) ∙ sym ((poly_ring o l).add_assoc _ _ _);
        multiples = Multiples.more (class o s.multiplier.1) (monomial s.multiplier.0) (step_place o l cmp step) (ap test (step_divisor o l cmp step) ∙ cancelled_passes step r) t.multiples;
      }

  -- each quotient times its element
  pub path-products : {f left : Polynomial E} {steps : List (Step E)} → Path o cmp hs f steps left → Passing (class (poly_ops o) f) → (k : ℕ) → Passing (class (poly_ops o) (product o (quotient_at steps k) (get_or hs k [])))
  unfolding product
  path-products (Path.stay e) r k = subst (Of (polynomials o l) Passes) (sym (class-zero (poly_ops o) (poly_laws o l))) Of.none
  path-products (Path.take {s = s} {steps = steps} step p) r k = elim (cases_Bool (s.place == k)) [
    | inl here ↦
        let at : s.place ≡ k = grind (arith, nat_tests, here) in
        subst (Of (polynomials o l) Passes) (ap (λ (j : ℕ). (poly_ring o l).add (multiple o l s (get_or hs j [])) (class (poly_ops o) (product o (quotient_at steps k) (get_or hs k [])))) at ∙ sym (ap (λ q. class (poly_ops o) (product o q (get_or hs k []))) (own_place s steps k here) ∙ class-product_cons o l s.multiplier (quotient_at steps k) (get_or hs k [])))
        (of-add (polynomials o l) (multiple_passes step r (class o s.multiplier.1)) (path-products p (left_passes step r) k))
    | inr there ↦ subst (λ q. Passing (class (poly_ops o) (product o q (get_or hs k [])))) (sym (other_place s steps k there)) (path-products p (left_passes step r) k)
  ]
