-- What division of an element by the others leaves, where no leading monomial divides another.
--   AreSpread ks         the elements are sums of terms in v variables, not zero, and no leading monomial divides another
--   steps-upper          division by elements that do not divide the leading monomial changes lower monomials alone
--   IsRemainder k r, remainder    what is left of the element at place k is a member with the same leading monomial
use Rattle.std.proofs.Common.{◌≡◌, ◌⊎◌, ℕ, ◌<◌, List, [], ◌∷◌, length, get_or, refl, sym, ◌∙◌, ap, subst, inl, inr}
use Rattle.std.specs.Prelude.{IsFalse, remove}
use Rattle.std.specs.declared.cmp.Ordering.{Ordering}
use Rattle.rinv_algebra.specs.Ring.{RingOps, RingLaws}
use Rattle.rinv_algebra.specs.Polynomial.{Polynomial, poly_ops, is_zero}
use Rattle.rinv_algebra.specs.Ideal.{IsMember}
use Rattle.rinv_algebra.specs.Leading.{leading_monomial}
use Rattle.rinv_algebra.proofs.PolynomialLaws.{poly_laws}
use Rattle.rinv_theory.proofs.CRing.{CRing}
use Rattle.rinv_theory.proofs.Solver.{ring, reading}
use Rattle.rinv_theory.proofs.Classes.{class, class_ring, class_sound}
use Rattle.rinv_theory.proofs.Monoid.{Monomial, monomial}
use Rattle.rinv_theory.proofs.TermRing.{coefficient-neg}
use Rattle.rinv_theory.proofs.Polynomials.{polynomials, poly_ring, term_at}
use Rattle.rinv_theory.proofs.Of.{of-coefficient}
use Rattle.rinv_theory.proofs.Leads.{IsUpTo, below-asym, upto-below, Leads, lead-unique}
use Rattle.rinv_groebner.specs.Orders.{OrdersMonomials}
use Rattle.rinv_groebner.specs.Division.{Step, Steps, IsDivision}
use Rattle.rinv_groebner.specs.Basis.{AreMembers}
use Rattle.rinv_groebner.proofs.Ascending.{Has, has_at}
use Rattle.rinv_groebner.proofs.Compared.{all_monomials, InFirst, class_leads, has-coefficient}
use Rattle.rinv_groebner.proofs.Generates.{steps-first}
use Rattle.rinv_groebner.proofs.IdealBases.{all_from, all_has, leads-nonzero}
use Rattle.rinv_groebner.proofs.ListElements.{AllFirst}
use Rattle.rinv_groebner.proofs.MonomialLists.{Divisor, divides-divisor}
use Rattle.rinv_groebner.proofs.NormalForms.{steps-member}
use Rattle.rinv_groebner.proofs.Reducible.{divides-parts}
use Rattle.rinv_groebner.proofs.Removed.{has-remove, remove-place, first_from}
use Rattle.rinv_groebner.proofs.StepClasses.{step-class, multiple-of}

module _ {R : Type 0} (𝓡 : CRing R) where
  without_zero : (x : R) → 𝓡.add x (𝓡.neg 𝓡.zero) ≡ x
  without_zero x = ring 𝓡 (x ∷ []) (search reading depth 30) refl

module _ {E : Type 0} (o : RingOps E) (l : RingLaws o) (cmp : List ℕ → List ℕ → Ordering) (v : ℕ) (order : OrdersMonomials cmp v) where
  abbrev below : Monomial → Monomial → Type 0
  below = (all_monomials cmp v order).below

  -- where no element divides the greatest monomial, cancelling steps change lower ones alone
  steps-upper : (hs : List (Polynomial E)) → AllFirst o l v hs → (f : Polynomial E) → InFirst o l v f → (m : Monomial) → Leads (polynomials o l) (all_monomials cmp v order) (class (poly_ops o) f) m
      → ((p : ℕ) → p < length hs → Divisor (monomial (leading_monomial o cmp (get_or hs p []))) m → ⊥)
      → (steps : List (Step E)) (left : Polynomial E) → Steps o cmp hs f steps left → (n : Monomial) → (below n m → ⊥) → (polynomials o l).coefficient (class (poly_ops o) left) n ≡ (polynomials o l).coefficient (class (poly_ops o) f) n
  steps-upper hs first f r m leads apart steps left (Steps.start left' s) n high = ap (λ x. (polynomials o l).coefficient x n) (class_sound (poly_ops o) (poly_laws o l) left f s)
  steps-upper hs first f r m leads apart steps left (Steps.next steps' before s left' h step) n high = changed (λ n high. steps-upper hs first f r m leads apart steps' before h n high)
    where
      element : Polynomial E
      element = get_or hs s.place []

      changed : ((n : Monomial) → (below n m → ⊥) → (polynomials o l).coefficient (class (poly_ops o) before) n ≡ (polynomials o l).coefficient (class (poly_ops o) f) n) → (polynomials o l).coefficient (class (poly_ops o) left) n ≡ (polynomials o l).coefficient (class (poly_ops o) f) n
      changed again =
          ap (λ x. (polynomials o l).coefficient x n) (step-class o l cmp step) ∙ (polynomials o l).coefficient_add _ _ _
          ∙ ap ((class_ring o l).add _) (coefficient-neg (polynomials o l) _ _ ∙ ap (class_ring o l).neg nothing) ∙ without_zero (class_ring o l) _ ∙ again n high
        where
          lower : below (monomial step.cancelled) m
          lower = go ((all_monomials cmp v order).total (monomial step.cancelled) m)
            where
              go : below (monomial step.cancelled) m ⊎ (monomial step.cancelled ≡ m) ⊎ below m (monomial step.cancelled) → below (monomial step.cancelled) m
              go (inl k) = k
              go (inr (inl e)) = absurd (apart s.place step.next.inside (subst (Divisor (monomial (leading_monomial o cmp element))) e (divides-divisor _ step.cancelled (divides-parts o cmp element step.cancelled step.next.divides).1)))
              go (inr (inr k)) = absurd (has-coefficient o l before step.cancelled step.next.has (again (monomial step.cancelled) (λ j. below-asym (all_monomials cmp v order) (monomial step.cancelled) m j k) ∙ leads.above (monomial step.cancelled) k))

          nothing : (polynomials o l).coefficient ((poly_ring o l).mul (term_at o l (class o s.multiplier.1) (monomial s.multiplier.0)) (class (poly_ops o) element)) n ≡ (class_ring o l).zero
          nothing = of-coefficient (polynomials o l) {Q = λ k. IsUpTo (all_monomials cmp v order) k (monomial step.cancelled)} n
              (λ k u e. high (subst (λ x. below x m) e (upto-below (all_monomials cmp v order) k (monomial step.cancelled) m u lower)))
              (multiple-of o l cmp step v order first (steps-first o l cmp v order hs first f steps' before h r))

  -- the elements are sums of terms in v variables, not zero, and no leading monomial divides another
  pub record AreSpread (ks : List (Polynomial E)) : Type 0 where
    pub in_first : (h : Polynomial E) → Has h ks → InFirst o l v h
    pub nonzero : (h : Polynomial E) → Has h ks → IsFalse (is_zero o h)
    pub apart : (i j : ℕ) → i < length ks → j < length ks → (i ≡ j → ⊥) → Divisor (monomial (leading_monomial o cmp (get_or ks j []))) (monomial (leading_monomial o cmp (get_or ks i []))) → ⊥

  module _ (fs ks : List (Polynomial E)) where
    -- a member with the leading monomial of the element at place k
    pub record IsRemainder (k : ℕ) (rest : Polynomial E) : Type 0 where
      pub in_first : InFirst o l v rest
      pub member : IsMember o fs rest
      pub nonzero : IsFalse (is_zero o rest)
      pub leads : Leads (polynomials o l) (all_monomials cmp v order) (class (poly_ops o) rest) (monomial (leading_monomial o cmp (get_or ks k [])))
      pub lead : monomial (leading_monomial o cmp rest) ≡ monomial (leading_monomial o cmp (get_or ks k []))

    module _ (spread : AreSpread ks) (members : AreMembers o fs ks) (k : ℕ) (inside : k < length ks) where
      abbrev f : Polynomial E
      f = get_or ks k []

      abbrev m : Monomial
      m = monomial (leading_monomial o cmp f)

      abbrev others : List (Polynomial E)
      others = remove ks k

      f_first : InFirst o l v f
      f_first = spread.in_first f (has_at [] ks k inside)

      others_first : AllFirst o l v others
      others_first = first_from o l v others (λ h j. spread.in_first h (has-remove ks k j))

      leads : Leads (polynomials o l) (all_monomials cmp v order) (class (poly_ops o) f) m
      leads = class_leads o l v cmp order f f_first (spread.nonzero f (has_at [] ks k inside))

      none_divides : (p : ℕ) → p < length others → Divisor (monomial (leading_monomial o cmp (get_or others p []))) m → ⊥
      none_divides p low d =
          let (j, there, n, e) = remove-place [] ks k p low in
          spread.apart k j inside there (λ q. n (sym q)) (subst (λ (h : Polynomial E). Divisor (monomial (leading_monomial o cmp h)) m) (sym e) d)

      module _ (steps : List (Step E)) (rest : Polynomial E) (division : IsDivision o cmp (remove ks k) (get_or ks k []) steps rest) where
        rest_first : InFirst o l v rest
        rest_first = steps-first o l cmp v order others others_first f steps rest division.by_steps f_first

        upper : (n : Monomial) → (below n m → ⊥) → (polynomials o l).coefficient (class (poly_ops o) rest) n ≡ (polynomials o l).coefficient (class (poly_ops o) f) n
        upper = steps-upper others others_first f f_first m leads none_divides steps rest division.by_steps

        rest_leads : Leads (polynomials o l) (all_monomials cmp v order) (class (poly_ops o) rest) m
        rest_leads = record {
          nonzero = λ z. leads.nonzero (sym (upper m ((all_monomials cmp v order).irreflexive m)) ∙ z);
          above = λ e h. upper e (λ k. below-asym (all_monomials cmp v order) e m k h) ∙ leads.above e h;
        }

        rest_nonzero : IsFalse (is_zero o rest)
        rest_nonzero = leads-nonzero o l (all_monomials cmp v order) rest m rest_leads

        rest_lead : monomial (leading_monomial o cmp rest) ≡ m
        rest_lead = lead-unique (polynomials o l) (all_monomials cmp v order) (class_leads o l v cmp order rest rest_first rest_nonzero) rest_leads

        rest_member : IsMember o fs rest
        rest_member = steps-member o l cmp fs others (all_from (IsMember o fs) [] others (λ p low. all_has (IsMember o fs) ks members (has-remove ks k (has_at [] others p low)))) f (all_has (IsMember o fs) ks members (has_at [] ks k inside)) steps rest division.by_steps

        -- what is left is one
        pub remainder : IsRemainder k rest
        remainder = record { in_first = rest_first; member = rest_member; nonzero = rest_nonzero; leads = rest_leads; lead = rest_lead }
