-- A pair is good whose S-polynomial, divided by a front of a list, leaves zero or an element of the list.
--   listed-append        a pair in a journal with one entry more
--   front_at             an element of a front of a list
--   zero-good, element-good    a pair whose S-polynomial, divided by a front of the list, leaves zero or an element of the list
use Rattle.std.proofs.Common.{◌≡◌, ◌⊎◌, ℕ, ◌<◌, Bool, true, false, List, [], ◌∷◌, ◌++◌, length, length-append, get_or, sym, ◌∙◌, ap, ap₂, subst, inl, inr, arith, IsTrue, true≢false}
use Rattle.std.specs.Prelude.{IsFalse, ◌||◌}
use Rattle.std.specs.declared.cmp.Ordering.{Ordering}
use Rattle.std.proofs.lemmas.Bool.{cases_Bool}
use Rattle.std.proofs.lemmas.Bool.Decides.{nat_tests}
use Rattle.std.proofs.lemmas.List.{map-append, get_or_append_left}
use Rattle.std.proofs.lemmas.List.Folds.{list_any-append}
use Rattle.rinv_algebra.specs.Ring.{RingOps, RingLaws, FieldLaws}
use Rattle.rinv_algebra.specs.Polynomial.{Polynomial, poly_ops, is_zero}
use Rattle.rinv_algebra.specs.Leading.{leading_monomial, s_polynomial}
use Rattle.rinv_algebra.proofs.PolynomialLaws.{poly_laws}
use Rattle.rinv_theory.proofs.Classes.{Class, class, class_ring, class_sound, class-zero}
use Rattle.rinv_theory.proofs.Monoid.{Monomial, monomial, monomials}
use Rattle.rinv_theory.proofs.Polynomials.{polynomials, poly_ring, term_at}
use Rattle.rinv_theory.proofs.Of.{Of, of-weaken}
use Rattle.rinv_theory.proofs.Variables.{IsFront}
use Rattle.rinv_groebner.specs.Orders.{OrdersMonomials}
use Rattle.rinv_groebner.specs.Settled.{is_listed, lead_at, lcm_at}
use Rattle.rinv_groebner.specs.Journal.{Entry, pairs_of, LeavesRest}
use Rattle.rinv_groebner.proofs.Multiples.{Multiples, multiples-add, multiples-among, multiples-weaken, multiples_one}
use Rattle.rinv_groebner.proofs.Elements.{IsBelow}
use Rattle.rinv_groebner.proofs.Pairs.{IsGood}
use Rattle.rinv_groebner.proofs.Compared.{all_monomials, InFirst, of_passes, class_leads}
use Rattle.rinv_groebner.proofs.ListElements.{AllFirst, Place, list_elements, nil_first}
use Rattle.rinv_groebner.proofs.Reducible.{past_end, place-inside}
use Rattle.rinv_groebner.proofs.GoodPairs.{is_below, below-from, is_below-down}
use Rattle.rinv_groebner.proofs.PairsOfLists.{s_polynomial-passes, quotients-good}
use Rattle.rinv_groebner.proofs.SettledLists.{pair_cases}
use Rattle.rinv_groebner.proofs.Paths.{Path, steps_path}
use Rattle.rinv_groebner.proofs.StepMultiples.{Taken, path-of, path-multiples}

-- a pair in a journal with one entry more is in the journal, or that of the entry
pub listed-append : (journal : List Entry) (e : Entry) (a b : ℕ) → IsTrue (is_listed (pairs_of (journal ++ e ∷ [])) a b) → IsTrue (is_listed (pairs_of journal) a b) ⊎ ((a ≡ e.first) × (b ≡ e.second)) ⊎ ((a ≡ e.second) × (b ≡ e.first))
listed-append journal e a b h = elim (cases_Bool (is_listed (pairs_of journal) a b)) [
  | inl earlier ↦ inl earlier
  | inr off ↦
      let last : IsTrue (is_listed ((e.first, e.second) ∷ []) a b) = behind (sym (ap (λ (ps : List (ℕ × ℕ)). is_listed ps a b) (map-append (λ (e : Entry). (e.first, e.second)) journal (e ∷ [])) ∙ list_any-append _ (pairs_of journal) ((e.first, e.second) ∷ [])) ∙ h) off in
      elim (pair_cases e.first e.second a b [] last) [ inl x ↦ inr (inl x) | inr (inl x) ↦ inr (inr x) | inr (inr x) ↦ absurd (true≢false (sym x)) ]
]
  where
    behind : {x y : Bool} → (x || y) ≡ true → x ≡ false → y ≡ true
    behind {x} {y} h off = grind (arith, nat_tests, h, off)

-- an element of a front of a list
pub front-at : {X : Type 0} (d : X) (list more final : List X) → final ≡ list ++ more → (k : ℕ) → k < length list → get_or final k d ≡ get_or list k d
front-at d list more final e k low = ap (λ (xs : List _). get_or xs k d) e ∙ get_or_append_left list more d k low

module _ {E : Type 0} (o : RingOps E) (l : RingLaws o) (field : FieldLaws o) (cmp : List ℕ → List ℕ → Ordering) (v : ℕ) (order : OrdersMonomials cmp v)
    (final : List (Polynomial E)) (first : AllFirst o l v final) (nonzero : (k : ℕ) → k < length final → IsFalse (is_zero o (get_or final k []))) where
  abbrev Good : Place o final → Place o final → Type 0
  Good x y = IsGood (list_elements o l field cmp v order final first) x y

  abbrev BelowIn : Monomial → Class (poly_ops o) → Type 0
  BelowIn m x = IsBelow (list_elements o l field cmp v order final first) m x

  module _ (list more : List (Polynomial E)) (whole : final ≡ list ++ more) where
    -- an element of the front
    pub same_element : (k : ℕ) → k < length list → get_or final k [] ≡ get_or list k []
    same_element k low = front-at [] list more final whole k low

    front_first : AllFirst o l v list
    front_first k = elim (past_end list k []) [
      | inl low ↦ subst (InFirst o l v) (same_element k low) (first k)
      | inr e ↦ subst (InFirst o l v) (sym e) (nil_first o l v)
    ]

    -- and its leading monomial
    pub same_lead : (k : ℕ) → k < length list → lead_at o cmp final k ≡ lead_at o cmp list k
    same_lead k low = ap (leading_monomial o cmp) (same_element k low)

    -- a place of the front
    pub inside : (k : ℕ) → k < length list → k < length final
    inside k low = omega (arith, low, length-append list more, ap length whole)

    abbrev among : Place o list → Place o final
    among k = (k.0, ap (is_zero o) (same_element k.0 (place-inside o cmp list k)) ∙ k.1)

    -- division of the S-polynomial by the front of the list, where the rest is a sum of lower multiples
    module _ (x y : Place o final) (low : x.0 < length list) (high : y.0 < length list) (count : ℕ) (rest : Polynomial E) (r : LeavesRest o cmp list x.0 y.0 count rest) where
      abbrev target : Monomial
      target = monomial (lcm_at o cmp final x.0 y.0)

      same_s : s_polynomial o cmp (get_or final x.0 []) (get_or final y.0 []) ≡ s_polynomial o cmp (get_or list x.0 []) (get_or list y.0 [])
      same_s = ap₂ (s_polynomial o cmp) (same_element x.0 low) (same_element y.0 high)

      down : (n m : Monomial) → IsFront v n → (all_monomials cmp v order).below n m → is_below (all_monomials cmp v order) target m ≡ true → is_below (all_monomials cmp v order) target n ≡ true
      down n m q h t = is_below-down (all_monomials cmp v order) target n m h t

      passes : Of (polynomials o l) (λ n. IsFront v n × (is_below (all_monomials cmp v order) target n ≡ true)) (class (poly_ops o) (s_polynomial o cmp (get_or list x.0 []) (get_or list y.0 [])))
      passes = subst (λ s. Of (polynomials o l) (λ n. IsFront v n × (is_below (all_monomials cmp v order) target n ≡ true)) (class (poly_ops o) s)) same_s (s_polynomial-passes o l field cmp v order final first x y)

      path : Path o cmp list (s_polynomial o cmp (get_or list x.0 []) (get_or list y.0 [])) r.steps rest
      path = steps_path o cmp list l r.division.by_steps

      -- the monomials of the rest
      rest_passes : Of (polynomials o l) (λ n. IsFront v n × (is_below (all_monomials cmp v order) target n ≡ true)) (class (poly_ops o) rest)
      rest_passes = path-of o l cmp v order list front_first (is_below (all_monomials cmp v order) target) down path passes

      division-good : BelowIn target (class (poly_ops o) rest) → Good x y
      division-good b =
          let t : Taken o l cmp v order list front_first (is_below (all_monomials cmp v order) target) down _ rest = path-multiples o l cmp v order list front_first (is_below (all_monomials cmp v order) target) down path passes in
          quotients-good o l field cmp v order final first x y (subst (BelowIn target) (sym (ap (class (poly_ops o)) same_s ∙ t.whole))
          (multiples-add (polynomials o l) _ _ (multiples-weaken (polynomials o l) _ _ (λ n q. below-from (all_monomials cmp v order) target n q)
          (multiples-among (polynomials o l) _ _ (list_elements o l field cmp v order final first).element (list_elements o l field cmp v order final first).lead among
          (λ k. ap (class (poly_ops o)) (sym (same_element k.0 (place-inside o cmp list k)))) (λ k. ap (λ m. monomial m) (sym (same_lead k.0 (place-inside o cmp list k)))) t.multiples)) b))

      -- a rest that is zero
      pub zero-good : IsTrue (is_zero o rest) → Good x y
      zero-good z = division-good (subst (BelowIn target) (sym (class_sound (poly_ops o) (poly_laws o l) rest [] z ∙ class-zero (poly_ops o) (poly_laws o l))) Multiples.none)

      -- a rest that is an element of the list
      pub element-good : (p : Place o final) → get_or final p.0 [] ≡ rest → Good x y
      element-good p e = division-good (subst (BelowIn target) (one_times ∙ ap (class (poly_ops o)) e) (multiples_one (polynomials o l) _ _ (class_ring o l).one monomials.one p lead_below))
        where
          one_times : (poly_ring o l).mul (term_at o l (class_ring o l).one monomials.one) (class (poly_ops o) (get_or final p.0 [])) ≡ class (poly_ops o) (get_or final p.0 [])
          one_times = ap (λ z. (poly_ring o l).mul z (class (poly_ops o) (get_or final p.0 []))) (polynomials o l).term_one ∙ (poly_ring o l).one_mul _

          lead_below : (all_monomials cmp v order).below (monomials.mul monomials.one (monomial (leading_monomial o cmp (get_or final p.0 [])))) target
          lead_below = subst (λ m. (all_monomials cmp v order).below m target) (sym (monomials.one_mul _)) (below-from (all_monomials cmp v order) target _
              (of_passes (polynomials o l) (is_below (all_monomials cmp v order) target) _ (of-weaken (polynomials o l) (λ n q. q.1) (subst (λ g. Of (polynomials o l) (λ n. IsFront v n × (is_below (all_monomials cmp v order) target n ≡ true)) (class (poly_ops o) g)) (sym e) rest_passes))
              (class_leads o l v cmp order (get_or final p.0 []) (first p.0) p.1).nonzero))
