-- What is made of the element at a place: what division by the others leaves, made monic.
--   IsFrom k g, made_from    what is known of the element that is made of the one at place k
--   made_exists          there is such an element
use Rattle.std.proofs.Common.{◌≡◌, ℕ, ◌<◌, List, [], length, get_or, sym, ◌∙◌, ap, subst, IsTrue}
use Rattle.std.specs.Prelude.{IsFalse, remove}
use Rattle.std.specs.declared.cmp.Ordering.{Ordering}
use Rattle.rinv_algebra.specs.Ring.{RingOps, RingLaws, FieldLaws, IsSame}
use Rattle.rinv_algebra.specs.Polynomial.{Polynomial, poly_ops, has_monomial, is_zero, scale}
use Rattle.rinv_algebra.specs.Ideal.{IsMember}
use Rattle.rinv_algebra.specs.Leading.{leading_monomial, leading_coefficient}
use Rattle.rinv_algebra.proofs.PolynomialLaws.{poly_laws}
use Rattle.rinv_theory.proofs.CRing.{mul_zero}
use Rattle.rinv_theory.proofs.Classes.{class, class_ring, class_sound, class_exact, class-mul, class-one}
use Rattle.rinv_theory.proofs.Monoid.{Monomial, monomial, monomials}
use Rattle.rinv_theory.proofs.Polynomials.{polynomials, poly_ring, class-coefficient}
use Rattle.rinv_theory.proofs.Of.{Of, of-times}
use Rattle.rinv_theory.proofs.Variables.{IsFront}
use Rattle.rinv_theory.proofs.Leads.{Leads, lead-unique}
use Rattle.rinv_theory.proofs.Fields.{class_domain}
use Rattle.rinv_groebner.specs.Orders.{OrdersMonomials}
use Rattle.rinv_groebner.specs.Division.{lead_divides}
use Rattle.rinv_groebner.specs.Reduced.{IsMadeAt}
use Rattle.rinv_groebner.specs.Basis.{AreMembers}
use Rattle.rinv_groebner.proofs.Ascending.{has_at}
use Rattle.rinv_groebner.proofs.Compared.{all_monomials, InFirst, class_leads, has-coefficient, coefficient-has}
use Rattle.rinv_groebner.proofs.IdealBases.{leads-nonzero}
use Rattle.rinv_groebner.proofs.Kept.{none_passes}
use Rattle.rinv_groebner.proofs.ListElements.{lead-inverse}
use Rattle.rinv_groebner.proofs.NextSteps.{division_exists}
use Rattle.rinv_groebner.proofs.MemberLists.{member-same, member-term}
use Rattle.rinv_groebner.proofs.NormalForms.{coefficient-constant, class-scale}
use Rattle.rinv_groebner.proofs.Remainders.{AreSpread, IsRemainder, remainder}
use Rattle.rinv_groebner.proofs.Removed.{has-remove, has_other, first_from}

module _ {E : Type 0} (o : RingOps E) (l : RingLaws o) (field : FieldLaws o) (cmp : List ℕ → List ℕ → Ordering) (v : ℕ) (order : OrdersMonomials cmp v) (fs ks : List (Polynomial E)) where
  -- what is known of the element that is made of the one at place k
  pub record IsFrom (k : ℕ) (g : Polynomial E) : Type 0 where
    pub in_first : InFirst o l v g
    pub member : IsMember o fs g
    pub nonzero : IsFalse (is_zero o g)
    pub lead : monomial (leading_monomial o cmp g) ≡ monomial (leading_monomial o cmp (get_or ks k []))
    pub monic : IsSame o (leading_coefficient o cmp g) o.one
    pub irreducible : (j : ℕ) → j < length ks → (j ≡ k → ⊥) → (m : List ℕ) → IsTrue (has_monomial o g m) → IsFalse (lead_divides o cmp (get_or ks j []) m)

  -- it is so
  pub made_from : (k : ℕ) (g : Polynomial E) (made : IsMadeAt o cmp ks k g) → IsRemainder o l cmp v order fs ks k made.rest → IsFrom k g
  made_from k g made r = record {
    in_first = subst (Of (polynomials o l) (IsFront v)) (sym g-class) (of-times (polynomials o l) (class o c) monomials.one (λ n q. subst (IsFront v) (sym (monomials.one_mul n)) q) r.in_first);
    member = member-same o l fs (scale o c made.rest) g ((poly_laws o l).same_sym _ _ made.monic.scaled) (member-term o l fs ([], c) made.rest r.member);
    nonzero = g_nonzero;
    lead = g_lead;
    monic = class_exact o l _ _ (sym (class-coefficient o l g (leading_monomial o cmp g)) ∙ ap ((polynomials o l).coefficient (class (poly_ops o) g)) g_lead ∙ g-coefficient m ∙ at_lead ∙ sym (class-one o l));
    irreducible = λ j there n e has. none_passes (λ h. lead_divides o cmp h e) (remove ks k) (has_other [] ks k j there n)
        (made.division.irreducible e (coefficient-has o l made.rest e (λ z. has-coefficient o l g e has (g-coefficient (monomial e) ∙ ap ((class_ring o l).mul (class o c)) z ∙ mul_zero (class_ring o l) _))));
  }
    where
      m : Monomial
      m = monomial (leading_monomial o cmp (get_or ks k []))

      c : E
      c = made.monic.factor

      g-class : class (poly_ops o) g ≡ (poly_ring o l).mul ((polynomials o l).term (class o c) monomials.one) (class (poly_ops o) made.rest)
      g-class = class_sound (poly_ops o) (poly_laws o l) g _ made.monic.scaled ∙ class-scale o l cmp c made.rest

      g-coefficient : (n : Monomial) → (polynomials o l).coefficient (class (poly_ops o) g) n ≡ (class_ring o l).mul (class o c) ((polynomials o l).coefficient (class (poly_ops o) made.rest) n)
      g-coefficient n = ap (λ x. (polynomials o l).coefficient x n) g-class ∙ coefficient-constant (polynomials o l) (class o c) _ n

      at_lead : (class_ring o l).mul (class o c) ((polynomials o l).coefficient (class (poly_ops o) made.rest) m) ≡ (class_ring o l).one
      at_lead =
          ap ((class_ring o l).mul (class o c)) (ap ((polynomials o l).coefficient (class (poly_ops o) made.rest)) (sym r.lead) ∙ class-coefficient o l made.rest (leading_monomial o cmp made.rest))
          ∙ sym (class-mul o l c _) ∙ class_sound o l _ _ made.monic.inverse ∙ class-one o l

      g_leads : Leads (polynomials o l) (all_monomials cmp v order) (class (poly_ops o) g) m
      g_leads = record {
        nonzero = λ z. (class_domain o l field).one_zero (sym at_lead ∙ sym (g-coefficient m) ∙ z);
        above = λ e h. g-coefficient e ∙ ap ((class_ring o l).mul (class o c)) (r.leads.above e h) ∙ mul_zero (class_ring o l) _;
      }

      g_nonzero : IsFalse (is_zero o g)
      g_nonzero = leads-nonzero o l (all_monomials cmp v order) g m g_leads

      g_lead : monomial (leading_monomial o cmp g) ≡ m
      g_lead = lead-unique (polynomials o l) (all_monomials cmp v order) (class_leads o l v cmp order g (subst (Of (polynomials o l) (IsFront v)) (sym g-class) (of-times (polynomials o l) (class o c) monomials.one (λ n q. subst (IsFront v) (sym (monomials.one_mul n)) q) r.in_first)) g_nonzero) g_leads

  -- there is such an element
  pub made_exists : AreSpread o l cmp v order ks → AreMembers o fs ks → (k : ℕ) → k < length ks → (g : Polynomial E) × IsMadeAt o cmp ks k g
  made_exists spread members k inside =
      let (steps, rest, d) = division_exists o l field cmp v order (remove ks k) (first_from o l v (remove ks k) (λ h j. spread.in_first h (has-remove ks k j))) (get_or ks k []) (spread.in_first (get_or ks k []) (has_at [] ks k inside)) in
      let r = remainder o l cmp v order fs ks spread members k inside steps rest d in
      let (y, h) = lead-inverse o l field cmp v order rest r.nonzero in
      (scale o y rest, record { steps = steps; rest = rest; division = d; monic = record { factor = y; inverse = l.same_trans (o.mul y (leading_coefficient o cmp rest)) (o.mul (leading_coefficient o cmp rest) y) o.one (l.mul_comm y (leading_coefficient o cmp rest)) h; scaled = (poly_laws o l).same_refl (scale o y rest) } })
