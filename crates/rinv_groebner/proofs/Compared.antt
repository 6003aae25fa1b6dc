-- A comparison of lists and the order of all monomials that it gives agree on the monomials in the first v variables.
--   below_less, less_below    what is less in the one is below in the other
--   has_front            a monomial that a sum of terms in v variables has is one in v variables
--   class_leads          the leading monomial of a formal sum that is not zero is the greatest of its class
--   lead_same            sums that are the same have one leading monomial
use Rattle.std.proofs.Common.{◌≡◌, ℕ, ◌≤◌, Bool, true, false, not, List, length, take, refl, sym, ◌∙◌, ap, subst, subst₂, arith, IsTrue, true≢false}
use Rattle.std.specs.Prelude.{IsFalse}
use Rattle.std.specs.Ordering.{ordering_reverse}
use Rattle.std.specs.declared.cmp.Ordering.{Ordering}
use Rattle.std.specs.declared.cmp.Ordering.TheVariants.{Less}
use Rattle.std.proofs.lemmas.List.{length-take}
use Rattle.rinv_algebra.specs.Ring.{RingOps, RingLaws, IsSame}
use Rattle.rinv_algebra.specs.Polynomial.{Polynomial, poly_ops, coefficient, has_monomial, is_zero}
use Rattle.rinv_algebra.specs.Leading.{IsLeadingMonomial, leading_monomial}
use Rattle.rinv_algebra.proofs.PolynomialLaws.{poly_laws}
use Rattle.rinv_theory.proofs.CRing.{CRing}
use Rattle.rinv_theory.proofs.Classes.{Class, class, class_ring, class_sound, class_exact, class-zero}
use Rattle.rinv_theory.proofs.Monoid.{Monoid, IsOne, Monomial, monomial, monomials, monomial_ind, monomial_exact}
use Rattle.rinv_theory.proofs.TermRing.{TermRing}
use Rattle.rinv_theory.proofs.Polynomials.{polynomials, class-coefficient}
use Rattle.rinv_theory.proofs.Of.{Of, of-coefficient}
use Rattle.rinv_theory.proofs.Places.{front, front-list}
use Rattle.rinv_theory.proofs.Variables.{IsFront}
use Rattle.rinv_theory.proofs.Leads.{MonomialOrder, Leads}
use Rattle.rinv_theory.proofs.WellOrders.{tied}
use Rattle.rinv_groebner.specs.Orders.{OrdersMonomials}
use Rattle.rinv_groebner.proofs.FirstVariables.{order_in, order_in-less, below-less_in}
use Rattle.rinv_groebner.proofs.Greatest.{ge-not_less}
use Rattle.rinv_groebner.proofs.LeadingMonomials.{leading_monomial-leads}

-- where the coefficient is not zero, the monomial passes the test that all terms pass
pub of_passes : {K M P : Type 0} {𝓚 : CRing K} {𝓜 : Monoid M} (𝓣 : TermRing 𝓚 𝓜 P) (test : M → Bool) (e : M) {f : P} → Of 𝓣 (λ n. test n ≡ true) f → (𝓣.coefficient f e ≡ 𝓚.zero → ⊥) → test e ≡ true
of_passes 𝓣 test e o nonzero = go (test e) refl
  where
    go : (b : Bool) → test e ≡ b → b ≡ true
    go true s = refl
    go false s = absurd (nonzero (of-coefficient 𝓣 {Q = λ n. test n ≡ true} e (λ n t i. true≢false (sym t ∙ ap test i ∙ s)) o))

module _ (cmp : List ℕ → List ℕ → Ordering) (v : ℕ) (order : OrdersMonomials cmp v) where
  -- the order of all monomials
  abbrev pub all_monomials : MonomialOrder monomials
  all_monomials = order_in cmp order.laws v

  -- a monomial in the first v variables, written with at most v exponents
  pub first_of : (a : List ℕ) → IsFront v (monomial a) → IsOne a (take v a)
  first_of a e = monomial_exact a (take v a) (sym e ∙ front-list v a)

  short : (a : List ℕ) → length (take v a) ≤ v
  short a = let e = length-take v a in omega (arith, e)

  -- a monomial may be written in another way on the left, and on the right
  pub compare-left : (a b c : List ℕ) → IsOne a b → cmp a c ≡ cmp b c
  compare-left a b c s = order.laws.total.congr a b c (tied cmp order.laws.total order.laws.kept a b s)

  pub compare-right : (c a b : List ℕ) → IsOne a b → cmp c a ≡ cmp c b
  compare-right c a b s = order.laws.total.antisymm c a ∙ ap ordering_reverse (compare-left a b c s) ∙ sym (order.laws.total.antisymm c b)

  -- what is below is less
  pub below_less : (a b : List ℕ) → IsFront v (monomial a) → IsFront v (monomial b) → all_monomials.below (monomial a) (monomial b) → cmp a b ≡ Less
  below_less a b fa fb h =
      compare-left a (take v a) b (first_of a fa) ∙ compare-right (take v a) b (take v b) (first_of b fb)
      ∙ below-less_in cmp order.laws v order.ties (take v a) (take v b) (short a) (short b) (subst₂ all_monomials.below (sym fa ∙ front-list v a) (sym fb ∙ front-list v b) h)

  -- and the other way round
  pub less_below : (a b : List ℕ) → IsFront v (monomial a) → IsFront v (monomial b) → cmp a b ≡ Less → all_monomials.below (monomial a) (monomial b)
  less_below a b fa fb h =
      subst₂ all_monomials.below (sym (sym fa ∙ front-list v a)) (sym (sym fb ∙ front-list v b))
      (order_in-less cmp order.laws v (take v a) (take v b) (short a) (short b) (sym (compare-left a (take v a) b (first_of a fa) ∙ compare-right (take v a) b (take v b) (first_of b fb)) ∙ h))

module _ {E : Type 0} (o : RingOps E) (l : RingLaws o) where
  -- the coefficient at a monomial that f has is not zero, as a class
  pub has-coefficient : (f : Polynomial E) (e : List ℕ) → IsTrue (has_monomial o f e) → (polynomials o l).coefficient (class (poly_ops o) f) (monomial e) ≡ (class_ring o l).zero → ⊥
  has-coefficient f e h z = true≢false (sym h ∙ ap not (class_exact o l _ _ (sym (class-coefficient o l f e) ∙ z ∙ sym (class-zero o l))))

  -- and the other way round
  pub coefficient-has : (f : Polynomial E) (e : List ℕ) → ((polynomials o l).coefficient (class (poly_ops o) f) (monomial e) ≡ (class_ring o l).zero → ⊥) → IsTrue (has_monomial o f e)
  coefficient-has f e n = go (o.same (coefficient o f e) o.zero) refl
    where
      go : (b : Bool) → o.same (coefficient o f e) o.zero ≡ b → not b ≡ true
      go true s = absurd (n (class-coefficient o l f e ∙ class_sound o l _ _ s ∙ class-zero o l))
      go false s = refl

  module _ (v : ℕ) where
    -- the polynomial is a sum of terms in the first v variables
    abbrev pub InFirst : Polynomial E → Type 0
    InFirst f = Of (polynomials o l) (IsFront v) (class (poly_ops o) f)

    -- which depends on its coefficients alone
    pub first-same : (f g : Polynomial E) → IsSame (poly_ops o) f g → InFirst f → InFirst g
    first-same f g s r = subst (Of (polynomials o l) (IsFront v)) (class_sound (poly_ops o) (poly_laws o l) f g s) r

    in_front : (m : Monomial) → monomials.same (front v m) m ≡ true → IsFront v m
    in_front m t = monomials.same_eq (front v m) m t

    front_in : (m : Monomial) → IsFront v m → monomials.same (front v m) m ≡ true
    front_in m e = ap (λ x. monomials.same x m) e ∙ monomials.same_refl m

    -- a monomial with a coefficient that is not zero is one in these variables
    pub nonzero-front : {x : Class (poly_ops o)} → Of (polynomials o l) (IsFront v) x → (m : Monomial) → ((polynomials o l).coefficient x m ≡ (class_ring o l).zero → ⊥) → IsFront v m
    nonzero-front r m n = in_front m (of_passes (polynomials o l) (λ m. monomials.same (front v m) m) m (weak r) n)
      where
        weak : {x : Class (poly_ops o)} → Of (polynomials o l) (IsFront v) x → Of (polynomials o l) (λ n. monomials.same (front v n) n ≡ true) x
        weak Of.none = Of.none
        weak (Of.more c n q r) = Of.more c n (front_in n q) (weak r)

    pub has_front : (f : Polynomial E) → InFirst f → (e : List ℕ) → IsTrue (has_monomial o f e) → IsFront v (monomial e)
    has_front f r e h = nonzero-front r (monomial e) (has-coefficient f e h)

    module _ (cmp : List ℕ → List ℕ → Ordering) (order : OrdersMonomials cmp v) where
      -- the greatest monomial of a sum is that of its class
      pub leading-leads : (f : Polynomial E) → InFirst f → (m : List ℕ) → IsLeadingMonomial o cmp f m → Leads (polynomials o l) (all_monomials cmp v order) (class (poly_ops o) f) (monomial m)
      leading-leads f r m g = record {
        nonzero = has-coefficient f m g.has;
        above = monomial_ind (λ e. (all_monomials cmp v order).below (monomial m) e → (polynomials o l).coefficient (class (poly_ops o) f) e ≡ (class_ring o l).zero) (λ e. hlevel ((class_ring o l).is_set)) (λ e h. at e h (o.same (coefficient o f e) o.zero) refl);
      }
        where
          at : (e : List ℕ) → (all_monomials cmp v order).below (monomial m) (monomial e) → (b : Bool) → o.same (coefficient o f e) o.zero ≡ b → (polynomials o l).coefficient (class (poly_ops o) f) (monomial e) ≡ (class_ring o l).zero
          at e h true s = class-coefficient o l f e ∙ class_sound o l _ _ s ∙ class-zero o l
          at e h false s = absurd (ge-not_less cmp order.laws.total m e (g.greatest e (ap not s)) (below_less cmp v order m e (has_front f r m g.has) (has_front f r e (ap not s)) h))

      -- the leading monomial of a sum that is not zero is the greatest of its class
      pub class_leads : (f : Polynomial E) → InFirst f → IsFalse (is_zero o f) → Leads (polynomials o l) (all_monomials cmp v order) (class (poly_ops o) f) (monomial (leading_monomial o cmp f))
      class_leads f r n = leading-leads f r (leading_monomial o cmp f) (leading_monomial-leads o l cmp order.laws f n)
