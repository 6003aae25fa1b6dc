-- A Gröbner basis has quotients for each of its pairs.
--   s_polynomial-multiples    the S-polynomial is a sum of multiples, in the basis' variables and below the least common multiple
--   multiples-image      a sum of multiples with its monomials moved, by elements that stand for those that were moved
use Rattle.std.proofs.Common.{◌≡◌, ℕ, Bool, true, List, [], get_or, sym, ◌∙◌, ap, ap₂, subst, IsTrue}
use Rattle.std.specs.Prelude.{◌&&◌}
use Rattle.std.specs.declared.cmp.Ordering.{Ordering}
use Rattle.rinv_algebra.specs.Ring.{RingOps, RingLaws, FieldLaws}
use Rattle.rinv_algebra.specs.Monomial.{lcm}
use Rattle.rinv_algebra.specs.Polynomial.{Polynomial, poly_ops, is_zero}
use Rattle.rinv_algebra.specs.Ideal.{IsMember}
use Rattle.rinv_algebra.specs.Leading.{leading_monomial, s_polynomial}
use Rattle.rinv_algebra.proofs.PolynomialLaws.{poly_laws}
use Rattle.rinv_algebra.proofs.Same.{both, and_true}
use Rattle.rinv_theory.proofs.CRing.{CRing, hom-zero, add_zero}
use Rattle.rinv_theory.proofs.Classes.{class, class_sound, class-zero}
use Rattle.rinv_theory.proofs.Monoid.{Monoid, Monomial, monomial, monomials}
use Rattle.rinv_theory.proofs.TermRing.{TermRing}
use Rattle.rinv_theory.proofs.Universal.{relabel, relabel-term}
use Rattle.rinv_theory.proofs.Polynomials.{polynomials, poly_ring}
use Rattle.rinv_theory.proofs.Of.{Of, of-weaken}
use Rattle.rinv_theory.proofs.Places.{front}
use Rattle.rinv_theory.proofs.Variables.{IsFront}
use Rattle.rinv_groebner.specs.Orders.{OrdersMonomials}
use Rattle.rinv_groebner.specs.Division.{Step, IsDivision}
use Rattle.rinv_groebner.specs.Basis.{AreMembers}
use Rattle.rinv_groebner.proofs.Multiples.{Multiples, multiples-weaken}
use Rattle.rinv_groebner.proofs.Compared.{all_monomials}
use Rattle.rinv_groebner.proofs.ListElements.{AllFirst, Place, list_elements}
use Rattle.rinv_groebner.proofs.IdealBases.{all_at, IsListBasis}
use Rattle.rinv_groebner.proofs.MemberLists.{member-subtract, member-term}
use Rattle.rinv_groebner.proofs.GoodPairs.{is_below, is_below-down, below-from}
use Rattle.rinv_groebner.proofs.PairsOfLists.{s_polynomial-first, s_polynomial-passes}
use Rattle.rinv_groebner.proofs.NextSteps.{division_exists}
use Rattle.rinv_groebner.proofs.NormalForms.{division-normal_form, normal_form-zero}
use Rattle.rinv_groebner.proofs.Generates.{steps-first}
use Rattle.rinv_groebner.proofs.Paths.{steps_path}
use Rattle.rinv_groebner.proofs.StepMultiples.{Taken, path-multiples}
use Rattle.rinv_groebner.proofs.Reducible.{place-inside}

module _ {E : Type 0} (o : RingOps E) (l : RingLaws o) (field : FieldLaws o) (cmp : List ℕ → List ℕ → Ordering) (v : ℕ) (order : OrdersMonomials cmp v) (fs hs : List (Polynomial E)) (first : AllFirst o l v hs)
    (basis : IsListBasis o l v cmp order fs hs) (members : AreMembers o fs hs) (x y : Place o hs) where
  abbrev at : Place o hs → Polynomial E
  at x = get_or hs x.0 []

  abbrev target : Monomial
  target = monomial (lcm (leading_monomial o cmp (at x)) (leading_monomial o cmp (at y)))

  -- in the basis' variables, and below the least common multiple
  abbrev pub IsLower : Monomial → Type 0
  IsLower n = IsFront v n × (all_monomials cmp v order).below n target

  test : Monomial → Bool
  test n = monomials.same (front v n) n && is_below (all_monomials cmp v order) target n

  in_front : (n : Monomial) → IsFront v n → monomials.same (front v n) n ≡ true
  in_front n f = ap (λ m. monomials.same m n) f ∙ monomials.same_refl n

  test-down : (n m : Monomial) → IsFront v n → (all_monomials cmp v order).below n m → test m ≡ true → test n ≡ true
  unfolding test
  test-down n m f h t = and_true _ _ (in_front n f) (is_below-down (all_monomials cmp v order) target n m h (both (monomials.same (front v m) m) _ t).1)

  test-lower : (n : Monomial) → test n ≡ true → IsLower n
  unfolding test
  test-lower n t =
      let parts = both (monomials.same (front v n) n) _ t in
      (monomials.same_eq (front v n) n parts.0, below-from (all_monomials cmp v order) target n parts.1)

  passes : Of (polynomials o l) (λ n. IsFront v n × (test n ≡ true)) (class (poly_ops o) (s_polynomial o cmp (at x) (at y)))
  unfolding test
  passes = of-weaken (polynomials o l) (λ n q. (q.0, and_true _ _ (in_front n q.0) q.1)) (s_polynomial-passes o l field cmp v order hs first x y)

  s_polynomial-member : IsMember o fs (s_polynomial o cmp (at x) (at y))
  unfolding s_polynomial
  s_polynomial-member = member-subtract o l fs _ _ (member-term o l fs _ (at x) (element x)) (member-term o l fs _ (at y) (element y))
    where
      element : (z : Place o hs) → IsMember o fs (at z)
      element z = all_at (IsMember o fs) [] hs members z.0 (place-inside o cmp hs z)

  -- the S-polynomial is a sum of such multiples
  pub s_polynomial-multiples : Multiples (polynomials o l) (list_elements o l field cmp v order hs first).element (list_elements o l field cmp v order hs first).lead IsLower (class (poly_ops o) (s_polynomial o cmp (at x) (at y)))
  s_polynomial-multiples = go (division_exists o l field cmp v order hs first s s_first)
    where
      s : Polynomial E
      s = s_polynomial o cmp (at x) (at y)

      s_first : Of (polynomials o l) (IsFront v) (class (poly_ops o) s)
      s_first = s_polynomial-first o l field cmp v order hs first x y

      go : (steps : List (Step E)) × (rest : Polynomial E) × IsDivision o cmp hs s steps rest → Multiples (polynomials o l) (list_elements o l field cmp v order hs first).element (list_elements o l field cmp v order hs first).lead IsLower (class (poly_ops o) s)
      go (steps, rest, d) =
          let t : Taken o l cmp v order hs first test test-down s rest = path-multiples o l cmp v order hs first test test-down (steps_path o cmp hs l d.by_steps) passes in
          let z : IsTrue (is_zero o rest) = normal_form-zero o l cmp v order fs hs basis s rest (steps-first o l cmp v order hs first s steps rest d.by_steps s_first) (division-normal_form o l cmp fs hs members s steps rest d) s_polynomial-member in
          subst (Multiples (polynomials o l) (list_elements o l field cmp v order hs first).element (list_elements o l field cmp v order hs first).lead IsLower)
          (sym (t.whole ∙ ap ((poly_ring o l).add t.taken) (class_sound (poly_ops o) (poly_laws o l) rest [] z ∙ class-zero (poly_ops o) (poly_laws o l)) ∙ add_zero (poly_ring o l) _))
          (multiples-weaken (polynomials o l) _ _ test-lower t.multiples)

module _ {K M P I J : Type 0} {𝓚 : CRing K} {𝓜 : Monoid M} (𝓣 : TermRing 𝓚 𝓜 P) (φ : M → M) (φ_mul : (m n : M) → φ (𝓜.mul m n) ≡ 𝓜.mul (φ m) (φ n))
    (h : I → P) (lead : I → M) (h' : J → P) (lead' : J → M) (at : I → J) (at_element : (k : I) → (relabel 𝓣 𝓣 φ φ_mul).at (h k) ≡ h' (at k)) (at_lead : (k : I) → φ (lead k) ≡ lead' (at k))
    {Q Q' : M → Type 0} (moves : (n : M) → Q n → Q' (φ n)) where
  -- with its monomials moved
  pub multiples-image : {f : P} → Multiples 𝓣 h lead Q f → Multiples 𝓣 h' lead' Q' ((relabel 𝓣 𝓣 φ φ_mul).at f)
  multiples-image Multiples.none = subst (Multiples 𝓣 h' lead' Q') (sym (hom-zero (relabel 𝓣 𝓣 φ φ_mul))) Multiples.none
  multiples-image (Multiples.more {f = f} c t k q r) = subst (Multiples 𝓣 h' lead' Q')
      (sym ((relabel 𝓣 𝓣 φ φ_mul).add _ _ ∙ ap (λ x. 𝓣.ring.add x ((relabel 𝓣 𝓣 φ φ_mul).at f)) ((relabel 𝓣 𝓣 φ φ_mul).mul _ _ ∙ ap₂ 𝓣.ring.mul (relabel-term 𝓣 𝓣 φ φ_mul c t) (at_element k))))
      (Multiples.more c (φ t) (at k) (subst Q' (φ_mul t (lead k) ∙ ap (𝓜.mul (φ t)) (at_lead k)) (moves _ q)) (multiples-image r))
