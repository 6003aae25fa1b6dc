-- Gröbner bases from a Gröbner basis, and what division by one tells of a polynomial.
--   kept-basis           the kept elements are one of the same ideal
--   same-basis           so are polynomials that are the same, place by place
--   divided-member, rest-congruent, rest-reduced, rest-outside    what division leaves
use Rattle.std.proofs.Common.{◌≡◌, ℕ, ◌<◌, Bool, true, false, not, cond, List, [], ◌∷◌, ◌++◌, get_or, refl, sym, ◌∙◌, subst, IsTrue, true≢false}
use Rattle.std.specs.Prelude.{IsFalse}
use Rattle.std.specs.List.{list_all}
use Rattle.std.specs.declared.cmp.Ordering.{Ordering}
use Rattle.rinv_algebra.specs.Ring.{RingOps, RingLaws, FieldLaws, IsSame}
use Rattle.rinv_algebra.specs.Monomial.{divides}
use Rattle.rinv_algebra.specs.Order.{grevlex}
use Rattle.rinv_algebra.specs.Polynomial.{Polynomial, poly_ops, has_monomial, is_zero, difference, opposite}
use Rattle.rinv_algebra.specs.Normal.{is_in_variables}
use Rattle.rinv_algebra.specs.Ideal.{IsMember}
use Rattle.rinv_algebra.specs.Leading.{IsLeadingMonomial, leading_monomial}
use Rattle.rinv_algebra.proofs.Grevlex.{grevlex_laws}
use Rattle.rinv_algebra.proofs.PolynomialLaws.{poly_laws}
use Rattle.rinv_algebra.proofs.Same.{both, and_true}
use Rattle.rinv_theory.proofs.Monoid.{monomials}
use Rattle.rinv_groebner.specs.Orders.{OrdersMonomials, AreInVariables}
use Rattle.rinv_groebner.specs.Division.{Step, AreSame, IsDivision}
use Rattle.rinv_groebner.specs.Basis.{AreMembers, AreNonzero, IsGroebnerBasis}
use Rattle.rinv_groebner.specs.Reduced.{is_kept, kept_after, kept}
use Rattle.rinv_groebner.proofs.Ascending.{has_at}
use Rattle.rinv_groebner.proofs.FurtherVariables.{division-reduced}
use Rattle.rinv_groebner.proofs.Generates.{own_members, generates}
use Rattle.rinv_groebner.proofs.IdealBases.{all_at, all_from, all_has, nonzero_has, AreDivided}
use Rattle.rinv_groebner.proofs.JournalUnique.{same_sym}
use Rattle.rinv_groebner.proofs.Kept.{kept-in}
use Rattle.rinv_groebner.proofs.KeptDivisors.{kept_divides}
use Rattle.rinv_groebner.proofs.LeadingMonomials.{leading_monomial-leads}
use Rattle.rinv_groebner.proofs.ListElements.{AllFirst, all_first}
use Rattle.rinv_groebner.proofs.MemberLists.{member-same}
use Rattle.rinv_groebner.proofs.MonomialLists.{divisor-divides, divisor_trans}
use Rattle.rinv_groebner.proofs.NormalForms.{division-normal_form, steps-member, zero-member}
use Rattle.rinv_groebner.proofs.ReducedLists.{members_trans}
use Rattle.rinv_groebner.proofs.Reducible.{place-inside, reducible_place, place_reducible}
use Rattle.rinv_groebner.proofs.UniqueSteps.{same-at, same-length, reducible_too}

-- what each element of a list passes, each kept one does
pub passes-kept : {E : Type 0} (o : RingOps E) (cmp : List ℕ → List ℕ → Ordering) (test : Polynomial E → Bool) (all earlier hs : List (Polynomial E)) → IsTrue (list_all test hs) → IsTrue (list_all test (kept_after o cmp all earlier hs))
unfolding kept_after
passes-kept o cmp test all earlier [] h = refl
passes-kept {E} o cmp test all earlier (x ∷ hs) h =
    let parts = both (test x) (list_all test hs) h in
    go (is_kept o cmp all earlier x) parts.0 (passes-kept o cmp test all (earlier ++ x ∷ []) hs parts.1)
  where
    go : (b : Bool) → test x ≡ true → IsTrue (list_all test (kept_after o cmp all (earlier ++ x ∷ []) hs)) → IsTrue (list_all test (cond b (x ∷ kept_after o cmp all (earlier ++ x ∷ []) hs) (kept_after o cmp all (earlier ++ x ∷ []) hs)))
    go true here later = and_true (test x) _ here later
    go false here later = later

module _ {E : Type 0} (o : RingOps E) (l : RingLaws o) (field : FieldLaws o) (cmp : List ℕ → List ℕ → Ordering) (v : ℕ) (order : OrdersMonomials cmp v) (fs hs : List (Polynomial E))
    (hs_in : AreInVariables v hs) (b : IsGroebnerBasis o cmp v fs hs) where
  -- the kept elements
  pub kept-basis : AreInVariables v fs → AreNonzero o hs → IsGroebnerBasis o cmp v fs (kept o cmp hs)
  kept-basis fs_in nonzero = record { ideal = (members, generated); divided = divided }
    where
      first : AllFirst o l v (kept o cmp hs)
      first = all_first o l v (kept o cmp hs) (passes-kept o cmp (is_in_variables v) hs [] hs hs_in)

      members : AreMembers o fs (kept o cmp hs)
      members = all_from (IsMember o fs) [] (kept o cmp hs) (λ k inside. all_has (IsMember o fs) hs b.ideal.0 (kept-in o cmp hs [] hs (has_at [] (kept o cmp hs) k inside)))

      divided : AreDivided o l v cmp order fs (kept o cmp hs)
      divided f f_in m n =
          let ((p, z), d) = reducible_place o cmp hs (leading_monomial o cmp f) (b.divided f f_in m n) in
          let (k, there, c) = kept_divides o cmp hs p (place-inside o cmp hs (p, z)) in
          place_reducible o cmp (kept o cmp hs) (leading_monomial o cmp f) (k, nonzero_has o (kept o cmp hs) (passes-kept o cmp (λ h. not (is_zero o h)) hs [] hs nonzero) _ (has_at [] (kept o cmp hs) k there)) (divisor_trans _ _ _ c d)

      generated : AreMembers o (kept o cmp hs) fs
      generated = all_from (IsMember o (kept o cmp hs)) [] fs (λ k inside. generates o l cmp v order (kept o cmp hs) first field fs members divided (get_or fs k []) (all_first o l v fs fs_in k) (all_at (IsMember o fs) [] fs (own_members o l fs) k inside))

  -- polynomials that are the same
  pub same-basis : (gs : List (Polynomial E)) → AreSame o hs gs → IsGroebnerBasis o cmp v fs gs
  same-basis gs alike = record {
    ideal = (
      all_from (IsMember o fs) [] gs (λ k inside. member-same o l fs (get_or hs k []) (get_or gs k []) (same-at o l hs gs alike k) (all_at (IsMember o fs) [] hs b.ideal.0 k (subst (λ (n : ℕ). k < n) (sym (same-length o hs gs alike)) inside))),
      members_trans o l gs hs fs back b.ideal.1,
    );
    divided = λ f f_in m n. sym (reducible_too o l field cmp v order hs gs (all_first o l v hs hs_in) alike (leading_monomial o cmp f)) ∙ b.divided f f_in m n;
  }
    where
      back : AreMembers o gs hs
      back = all_from (IsMember o gs) [] hs (λ k inside. member-same o l gs (get_or gs k []) (get_or hs k []) (same-at o l gs hs (same_sym o l hs gs alike) k) (all_at (IsMember o gs) [] gs (own_members o l gs) k (subst (λ (n : ℕ). k < n) (same-length o hs gs alike) inside)))

-- division of f, which is the same as g
module _ {E : Type 0} (o : RingOps E) (l : RingLaws o) (field : FieldLaws o) (v : ℕ) (fs hs : List (Polynomial E)) (hs_in : AreInVariables v hs) (b : IsGroebnerBasis o grevlex v fs hs)
    (f g rest : Polynomial E) (steps : List (Step E)) (same : IsSame (poly_ops o) f g) (d : IsDivision o grevlex hs f steps rest) where
  -- g is a member where nothing is left
  pub divided-member : IsTrue (is_zero o rest) → IsMember o fs g
  divided-member z = member-same o l fs f g same (zero-member o l grevlex fs hs f rest (division-normal_form o l grevlex fs hs b.ideal.0 f steps rest d) z)

  pub rest-congruent : IsMember o fs (difference o g rest)
  rest-congruent = member-same o l fs (difference o f rest) (difference o g rest) ((poly_laws o l).add_same f g (opposite o rest) (opposite o rest) same ((poly_laws o l).same_refl (opposite o rest)))
      (division-normal_form o l grevlex fs hs b.ideal.0 f steps rest d).congruent

  pub rest-reduced : (h : Polynomial E) (m e : List ℕ) → IsMember o fs h → IsLeadingMonomial o grevlex h m → IsTrue (has_monomial o rest e) → IsFalse (divides m e)
  rest-reduced = division-reduced o l field v fs hs hs_in b rest d.irreducible

  -- and none where something is
  pub rest-outside : IsFalse (is_zero o rest) → IsMember o fs g → ⊥
  rest-outside n member =
      let m : List ℕ = leading_monomial o grevlex rest in
      let leads = leading_monomial-leads o l grevlex grevlex_laws rest n in
      let left = steps-member o l grevlex fs hs b.ideal.0 f (member-same o l fs g f ((poly_laws o l).same_sym f g same) member) steps rest d.by_steps in
      true≢false (sym (divisor-divides m m (monomials.one, monomials.one_mul _)) ∙ rest-reduced rest m m left leads leads.has)
