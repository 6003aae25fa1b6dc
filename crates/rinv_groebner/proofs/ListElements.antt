-- A list of polynomials over a field, as elements with their leading terms: those that are not zero.
--   Place o hs           a place of the list whose element is not zero
--   list_elements        the elements
--   list-leads           their leading monomials
--   place_dec, reducible_or    whether some leading monomial divides a monomial
use Rattle.std.proofs.Common.{◌≡◌, ℕ, zero, suc, Bool, true, false, not, cond, List, [], ◌∷◌, get_or, refl, sym, ◌∙◌, ap, ap₂, subst, IsTrue, true≢false}
use Rattle.std.specs.Prelude.{IsFalse}
use Rattle.std.specs.List.{list_all}
use Rattle.std.specs.declared.cmp.Ordering.{Ordering}
use Rattle.rinv_algebra.specs.Ring.{RingOps, RingLaws, FieldLaws, IsSame}
use Rattle.rinv_algebra.specs.Polynomial.{Polynomial, poly_ops, is_zero}
use Rattle.rinv_algebra.specs.Normal.{is_in_variables}
use Rattle.rinv_algebra.specs.Leading.{leading_monomial, leading_coefficient}
use Rattle.rinv_algebra.proofs.Same.{both}
use Rattle.rinv_theory.proofs.CRing.{CRing, add_zero}
use Rattle.rinv_theory.proofs.Classes.{class, class_ring, class_sound, class-mul, class-one}
use Rattle.rinv_theory.proofs.Monoid.{Monoid, monomial}
use Rattle.rinv_theory.proofs.TermRing.{TermRing}
use Rattle.rinv_theory.proofs.Polynomials.{polynomials, poly_ring, class-coefficient}
use Rattle.rinv_theory.proofs.Of.{Of, of-weaken, of-coefficient}
use Rattle.rinv_theory.proofs.Variables.{in_variables-of}
use Rattle.rinv_theory.proofs.Leads.{MonomialOrder, Leads, lead-of, upto-from, below-ne}
use Rattle.rinv_groebner.specs.Orders.{OrdersMonomials}
use Rattle.rinv_groebner.proofs.Elements.{Elements}
use Rattle.rinv_groebner.proofs.Division.{Top, top}
use Rattle.rinv_groebner.proofs.LeadingMonomials.{leading_monomial-leads}
use Rattle.rinv_groebner.proofs.Compared.{all_monomials, InFirst, class_leads}

get_or-nil : {X : Type 0} {d : X} (k : ℕ) → get_or [] k d ≡ d
get_or-nil zero = refl
get_or-nil (suc k) = refl

-- the leading term of a polynomial, and what is below
module _ {K M P : Type 0} {𝓚 : CRing K} {𝓜 : Monoid M} (𝓣 : TermRing 𝓚 𝓜 P) (𝓞 : MonomialOrder 𝓜) where
  pub lead_top : {Q : M → Type 0} {f : P} {m : M} → Leads 𝓣 𝓞 f m → Of 𝓣 Q f → Top 𝓣 𝓞 m f
  lead_top {m = m} l r = top 𝓣 𝓞 m (of-weaken 𝓣 (λ n q. upto-from 𝓞 n m q.1) (lead-of 𝓣 𝓞 l r))

  pub top-coefficient : {f : P} {m : M} (t : Top 𝓣 𝓞 m f) → 𝓣.coefficient f m ≡ t.at_bound
  top-coefficient {f} {m} t =
      ap (λ x. 𝓣.coefficient x m) t.whole ∙ 𝓣.coefficient_add _ _ _
      ∙ ap₂ 𝓚.add (𝓣.coefficient_term _ _ _ ∙ go (𝓜.same m m) (𝓜.same_refl m)) (of-coefficient 𝓣 {Q = λ n. 𝓞.below n m} m (λ n q. below-ne 𝓞 n m q) t.is_lower) ∙ add_zero 𝓚 _
    where
      go : (b : Bool) → b ≡ true → cond b t.at_bound 𝓚.zero ≡ t.at_bound
      go true e = refl
      go false e = absurd (true≢false (sym e))

-- a place of the list whose element is not zero
abbrev pub Place : {E : Type 0} → RingOps E → List (Polynomial E) → Type 0
Place o hs = (k : ℕ) × IsFalse (is_zero o (get_or hs k []))

module _ {E : Type 0} (o : RingOps E) (l : RingLaws o) (v : ℕ) where
  -- each element is a sum of terms in the first v variables
  abbrev pub AllFirst : List (Polynomial E) → Type 0
  AllFirst hs = (k : ℕ) → InFirst o l v (get_or hs k [])

  -- zero is one
  pub nil_first : InFirst o l v []
  nil_first = in_variables-of o l v [] refl

  -- which is so where they are written in these
  pub all_first : (hs : List (Polynomial E)) → IsTrue (list_all (is_in_variables v) hs) → AllFirst hs
  all_first [] h k = subst (InFirst o l v) (sym (get_or-nil k)) nil_first
  all_first (f ∷ hs) h zero = in_variables-of o l v f (both (is_in_variables v f) _ h).0
  all_first (f ∷ hs) h (suc k) = all_first hs (both (is_in_variables v f) _ h).1 k

module _ {E : Type 0} (o : RingOps E) (l : RingLaws o) (field : FieldLaws o) (cmp : List ℕ → List ℕ → Ordering) (v : ℕ) (order : OrdersMonomials cmp v) where
  -- the inverse of the leading coefficient
  pub lead-inverse : (f : Polynomial E) → IsFalse (is_zero o f) → (y : E) × IsSame o (o.mul (leading_coefficient o cmp f) y) o.one
  lead-inverse f n = field.invertible (leading_coefficient o cmp f) (λ s. true≢false (sym (leading_monomial-leads o l cmp order.laws f n).has ∙ ap not s))

  module _ (hs : List (Polynomial E)) (first : AllFirst o l v hs) where
    -- the element's leading monomial leads it
    pub list-leads : (k : Place o hs) → Leads (polynomials o l) (all_monomials cmp v order) (class (poly_ops o) (get_or hs k.0 [])) (monomial (leading_monomial o cmp (get_or hs k.0 [])))
    list-leads k = class_leads o l v cmp order (get_or hs k.0 []) (first k.0) k.1

    -- its leading term, and what is below
    pub parts : (k : Place o hs) → Top (polynomials o l) (all_monomials cmp v order) (monomial (leading_monomial o cmp (get_or hs k.0 []))) (class (poly_ops o) (get_or hs k.0 []))
    parts k = lead_top (polynomials o l) (all_monomials cmp v order) (list-leads k) (first k.0)

    -- the coefficient of the leading term
    pub parts-lead : (k : Place o hs) → class o (leading_coefficient o cmp (get_or hs k.0 [])) ≡ (parts k).at_bound
    parts-lead k = sym (class-coefficient o l (get_or hs k.0 []) (leading_monomial o cmp (get_or hs k.0 []))) ∙ top-coefficient (polynomials o l) (all_monomials cmp v order) (parts k)

    -- the elements that are not zero, with their leading terms
    abbrev pub list_elements : Elements (polynomials o l) (all_monomials cmp v order) (Place o hs)
    list_elements = record {
      element = λ k. class (poly_ops o) (get_or hs k.0 []);
      lead = λ k. monomial (leading_monomial o cmp (get_or hs k.0 []));
      lead_coefficient = λ k. class o (leading_coefficient o cmp (get_or hs k.0 []));
      tail = λ k. (parts k).lower;
      inverse = λ k. class o (lead-inverse (get_or hs k.0 []) k.1).0;
      whole = λ k. (parts k).whole ∙ ap (λ x. (poly_ring o l).add ((polynomials o l).term x (monomial (leading_monomial o cmp (get_or hs k.0 [])))) (parts k).lower) (sym (parts-lead k));
      tail_below = λ k. (parts k).is_lower;
      inverse_mul = λ k. (class_ring o l).mul_comm _ _ ∙ sym (class-mul o l _ _) ∙ class_sound o l _ _ (lead-inverse (get_or hs k.0 []) k.1).1 ∙ class-one o l;
    }
