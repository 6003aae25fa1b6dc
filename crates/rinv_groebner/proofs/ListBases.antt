-- A list of polynomials whose pairs are all good is a Gröbner basis of its ideal.
--   member-multiples     a member of the ideal of a list is a sum of multiples of its elements that are not zero
--   good_basis           Buchberger's criterion, for lists
use Rattle.std.proofs.Common.{◌≡◌, ℕ, Bool, true, false, List, [], get_or, refl, sym, ◌∙◌, ap, subst, IsTrue}
use Rattle.std.specs.Prelude.{IsFalse}
use Rattle.std.specs.declared.cmp.Ordering.{Ordering}
use mathlib.Core.Bool.{Bool-set}
use mathlib.Core.Logic.{∥∥₁_elim, ∥∥₁_prop, ∥∥₁_map}
use Rattle.rinv_algebra.specs.Ring.{RingOps, RingLaws, FieldLaws}
use Rattle.rinv_algebra.specs.Polynomial.{Polynomial, poly_ops, is_zero}
use Rattle.rinv_algebra.specs.Ideal.{IsMember}
use Rattle.rinv_algebra.specs.Leading.{leading_monomial}
use Rattle.rinv_algebra.proofs.PolynomialLaws.{poly_laws}
use Rattle.rinv_theory.proofs.CRing.{mul_zero}
use Rattle.rinv_theory.proofs.Classes.{Class, class, class_sound, class-zero}
use Rattle.rinv_theory.proofs.Monoid.{monomial}
use Rattle.rinv_theory.proofs.Polynomials.{polynomials, poly_ring}
use Rattle.rinv_theory.proofs.Of.{of_any}
use Rattle.rinv_theory.proofs.Ideals.{In}
use Rattle.rinv_theory.proofs.Members.{generator, member-in}
use Rattle.rinv_groebner.specs.Orders.{OrdersMonomials}
use Rattle.rinv_theory.proofs.Variables.{in_variables-of}
use Rattle.rinv_groebner.specs.Division.{is_reducible}
use Rattle.rinv_groebner.specs.Basis.{IsGroebnerBasis}
use Rattle.rinv_groebner.proofs.MembersOfLists.{member_generator, members_from}
use Rattle.rinv_groebner.proofs.Multiples.{Multiples, AnyMultiples, multiples-add, multiples-element}
use Rattle.rinv_groebner.proofs.Pairs.{IsGood}
use Rattle.rinv_groebner.proofs.Criterion.{lead-divisible}
use Rattle.rinv_groebner.proofs.FirstVariables.{order_in-well}
use Rattle.rinv_groebner.proofs.Compared.{InFirst, class_leads}
use Rattle.rinv_groebner.proofs.ListElements.{AllFirst, Place, list_elements}
use Rattle.rinv_groebner.proofs.Reducible.{place_reducible}

module _ {E : Type 0} (o : RingOps E) (l : RingLaws o) (field : FieldLaws o) (cmp : List ℕ → List ℕ → Ordering) (v : ℕ) (order : OrdersMonomials cmp v) (hs : List (Polynomial E)) (first : AllFirst o l v hs) where
  abbrev AreMultiples : Class (poly_ops o) → Type 0
  AreMultiples x = AnyMultiples (polynomials o l) (list_elements o l field cmp v order hs first).element (list_elements o l field cmp v order hs first).lead x

  in-places : {x : Class (poly_ops o)} → In (poly_ring o l) (generator o l hs) x → ∥ AreMultiples x ∥₁
  in-places In.none = ∣ Multiples.none ∣₁
  in-places (In.more {f = x} u k r) = go (is_zero o (get_or hs k [])) refl (in-places r)
    where
      go : (b : Bool) → is_zero o (get_or hs k []) ≡ b → ∥ AreMultiples x ∥₁ → ∥ AreMultiples ((poly_ring o l).add ((poly_ring o l).mul u (generator o l hs k)) x) ∥₁
      go true e s = ∥∥₁_map s (subst AreMultiples (sym (ap (λ z. (poly_ring o l).add ((poly_ring o l).mul u z) x) (class_sound (poly_ops o) (poly_laws o l) (get_or hs k []) [] e ∙ class-zero (poly_ops o) (poly_laws o l)) ∙ ap (λ z. (poly_ring o l).add z x) (mul_zero (poly_ring o l) u) ∙ (poly_ring o l).zero_add x)))
      go false e s = ∥∥₁_elim (of_any (polynomials o l) u) ∥∥₁_prop (λ t. ∥∥₁_map s (λ r. multiples-add (polynomials o l) _ _ (multiples-element (polynomials o l) (list_elements o l field cmp v order hs first).element (list_elements o l field cmp v order hs first).lead {Q = λ n. Unit {0}} {Q' = λ n. Unit {0}} (k, e) (λ n q. tt) t) r))

  -- a member is a sum of multiples of elements that are not zero
  pub member-multiples : (f : Polynomial E) → IsMember o hs f → ∥ AreMultiples (class (poly_ops o) f) ∥₁
  member-multiples f m = in-places (member-in o l hs f m)

  -- where all pairs are good, the leading monomial of a member is reducible
  pub good_basis : ((x y : Place o hs) → IsGood (list_elements o l field cmp v order hs first) x y) → (f : Polynomial E) → InFirst o l v f → IsMember o hs f → IsFalse (is_zero o f) → IsTrue (is_reducible o cmp hs (leading_monomial o cmp f))
  good_basis good f r m n = ∥∥₁_elim (member-multiples f m) (Bool-set _ _) (λ s.
      let (k, t, e) = lead-divisible (list_elements o l field cmp v order hs first) good (order_in-well cmp order.laws v).well_founded (class (poly_ops o) f) s (monomial (leading_monomial o cmp f)) (class_leads o l v cmp order f r n) in
      place_reducible o cmp hs (leading_monomial o cmp f) k (t, e))

  -- and the list is a Gröbner basis of its ideal
  pub good-list_basis : ((x y : Place o hs) → IsGood (list_elements o l field cmp v order hs first) x y) → IsGroebnerBasis o cmp v hs hs
  good-list_basis good = record {
    ideal = (members_from o l hs hs (member_generator o l hs), members_from o l hs hs (member_generator o l hs));
    divided = λ f f_in m n. good_basis good f (in_variables-of o l v f f_in) m n;
  }
