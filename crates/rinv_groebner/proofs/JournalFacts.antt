-- What holds of the list that a journal makes.
--   push-at              what holds of the elements of a list, and of one more
--   journal-facts        its elements are in the first v variables, are not zero, and generate the ideal of the polynomials given
use Rattle.std.proofs.Common.{◌≡◌, ◌⊎◌, ℕ, zero, suc, ◌<◌, Bool, true, false, not, cond, List, [], ◌∷◌, ◌++◌, length, get_or, refl, sym, ◌∙◌, ap, subst, inl, inr, arith, IsTrue}
use Rattle.std.specs.Prelude.{IsFalse, Some, None}
use Rattle.std.proofs.lemmas.List.{get_or_append_left}
use Rattle.std.specs.declared.cmp.Ordering.{Ordering}
use Rattle.rinv_algebra.specs.Ring.{RingOps, RingLaws, FieldLaws, IsSame}
use Rattle.rinv_algebra.specs.Polynomial.{Polynomial, poly_ops, same, is_zero, term_product, difference}
use Rattle.rinv_algebra.specs.Ideal.{IsMember, combination}
use Rattle.rinv_algebra.specs.Leading.{multiplier, s_polynomial}
use Rattle.rinv_algebra.proofs.PolynomialLaws.{poly_laws}
use Rattle.rinv_theory.proofs.CRing.{CRing}
use Rattle.rinv_theory.proofs.Solver.{ring, reading}
use Rattle.rinv_theory.proofs.Classes.{class_sound, class-zero}
use Rattle.rinv_theory.proofs.Polynomials.{poly_ring}
use Rattle.rinv_theory.proofs.Members.{poly, member_none}
use Rattle.rinv_groebner.specs.Orders.{OrdersMonomials}
use Rattle.rinv_groebner.specs.Division.{Step, quotients, AreSame}
use Rattle.rinv_groebner.specs.Journal.{Entry, Kind, reduced, coprime as coprime_kind, chain, nonzeros, Makes, LeavesRest, Journal}
use Rattle.rinv_groebner.proofs.Compared.{InFirst, first-same}
use Rattle.rinv_groebner.proofs.ListElements.{AllFirst, nil_first}
use Rattle.rinv_groebner.proofs.Reducible.{is_zero-same, past_end}
use Rattle.rinv_groebner.proofs.MemberLists.{member-term, member-subtract}
use Rattle.rinv_groebner.proofs.MembersOfLists.{member-same, member_generator, member_trans, combination_member}
use Rattle.rinv_groebner.proofs.StepClasses.{class-difference, step-first}
use Rattle.rinv_groebner.proofs.StepSums.{path-sum}
use Rattle.rinv_groebner.proofs.Paths.{Path, steps_path}
use Rattle.rinv_groebner.proofs.PairsOfLists.{s_polynomial-first}
use Rattle.rinv_groebner.proofs.UniqueSteps.{same-at, same-length}

-- what holds of the elements of a list, of one more, and of the default
pub push-at : {X : Type 0} (d : X) (P : X → Type 0) (xs : List X) (x : X) → ((k : ℕ) → P (get_or xs k d)) → P x → P d → (k : ℕ) → P (get_or (xs ++ x ∷ []) k d)
push-at d P [] x all here none zero = here
push-at d P [] x all here none (suc zero) = none
push-at d P [] x all here none (suc (suc k)) = none
push-at d P (y ∷ xs) x all here none zero = all 0
push-at d P (y ∷ xs) x all here none (suc k) = push-at d P xs x (λ k. all (suc k)) here none k

-- the same of the places inside
pub push-inside : {X : Type 0} (d : X) (P : X → Type 0) (xs : List X) (x : X) → ((k : ℕ) → k < length xs → P (get_or xs k d)) → P x → (k : ℕ) → k < length (xs ++ x ∷ []) → P (get_or (xs ++ x ∷ []) k d)
push-inside d P [] x all here zero low = here
push-inside d P [] x all here (suc k) low = absurd (omega arith)
push-inside d P (y ∷ xs) x all here zero low = all 0 (omega arith)
push-inside d P (y ∷ xs) x all here (suc k) low = push-inside d P xs x (λ k low. all (suc k) (omega (arith, low))) here k (omega (arith, low))

module _ {E : Type 0} (o : RingOps E) where
  -- an element of the nonzero polynomials is one of the given, and is not zero
  abbrev FromGiven : List (Polynomial E) → Polynomial E → Type 0
  FromGiven fs g = (j : ℕ) × (g ≡ get_or fs j []) × IsFalse (is_zero o g)

  nonzeros-at : (fs : List (Polynomial E)) (k : ℕ) → k < length (nonzeros o fs) → FromGiven fs (get_or (nonzeros o fs) k [])
  nonzeros-at [] k low = absurd (omega arith)
  nonzeros-at (f ∷ fs) k low = go (is_zero o f) refl k low (nonzeros-at fs)
    where
      later : (g : Polynomial E) → FromGiven fs g → FromGiven (f ∷ fs) g
      later g (j, e, n) = (suc j, e, n)

      go : (b : Bool) → is_zero o f ≡ b → (k : ℕ) → k < length (cond (not b) (f ∷ nonzeros o fs) (nonzeros o fs)) → ((k : ℕ) → k < length (nonzeros o fs) → FromGiven fs (get_or (nonzeros o fs) k [])) → FromGiven (f ∷ fs) (get_or (cond (not b) (f ∷ nonzeros o fs) (nonzeros o fs)) k [])
      go true e k low again = later _ (again k low)
      go false e zero low again = (0, refl, e)
      go false e (suc k) low again = later _ (again k (omega (arith, low)))

  -- a polynomial given is zero, or one of them
  abbrev InNonzeros : List (Polynomial E) → Polynomial E → Type 0
  InNonzeros ns g = IsTrue (is_zero o g) ⊎ ((k : ℕ) × (get_or ns k [] ≡ g))

  given-at : (fs : List (Polynomial E)) (j : ℕ) → InNonzeros (nonzeros o fs) (get_or fs j [])
  unfolding same
  given-at [] zero = inl refl
  given-at [] (suc j) = inl refl
  given-at (f ∷ fs) zero = go (is_zero o f) refl
    where
      go : (b : Bool) → is_zero o f ≡ b → InNonzeros (cond (not b) (f ∷ nonzeros o fs) (nonzeros o fs)) f
      go true e = inl e
      go false e = inr (0, refl)
  given-at (f ∷ fs) (suc j) = go (is_zero o f) (given-at fs j)
    where
      go : (b : Bool) → InNonzeros (nonzeros o fs) (get_or fs j []) → InNonzeros (cond (not b) (f ∷ nonzeros o fs) (nonzeros o fs)) (get_or fs j [])
      go b (inl z) = inl z
      go true (inr x) = inr x
      go false (inr (k, e)) = inr (suc k, e)

rest_alone : {R : Type 0} (𝓡 : CRing R) (s c r : R) → s ≡ 𝓡.add c r → r ≡ 𝓡.add s (𝓡.neg c)
rest_alone 𝓡 s c r e = sym (ap (λ x. 𝓡.add x (𝓡.neg c)) e ∙ ring 𝓡 (c ∷ r ∷ []) (search reading depth 30) refl)

module _ {E : Type 0} (o : RingOps E) (l : RingLaws o) (fs : List (Polynomial E)) (cmp : List ℕ → List ℕ → Ordering) where
  -- the S-polynomial of two elements is a member
  s_polynomial_member : (i j : ℕ) → IsMember o fs (s_polynomial o cmp (get_or fs i []) (get_or fs j []))
  unfolding s_polynomial
  s_polynomial_member i j =
      let part : (i j : ℕ) → IsMember o fs (term_product o (multiplier o cmp (get_or fs i []) (get_or fs j [])) (get_or fs i [])) = λ i j. member-term o l fs (multiplier o cmp (get_or fs i []) (get_or fs j [])) (get_or fs i []) (member_generator o l fs i) in
      member-subtract o l fs (term_product o (multiplier o cmp (get_or fs i []) (get_or fs j [])) (get_or fs i [])) (term_product o (multiplier o cmp (get_or fs j []) (get_or fs i [])) (get_or fs j [])) (part i j) (part j i)

  -- what division of a member leaves is a member
  left_member : {f left : Polynomial E} {steps : List (Step E)} → Path o cmp fs f steps left → IsMember o fs f → IsMember o fs left
  left_member {f} {left} {steps} p m =
      let multiples = combination o (quotients (length fs) steps) fs in
      member-same o l fs (difference o f multiples) left (rest_alone (poly_ring o l) _ _ _ (path-sum o l cmp fs p) ∙ sym (class-difference o l f multiples))
      (member-subtract o l fs f multiples m (combination_member o l fs (quotients (length fs) steps) fs (member_generator o l fs)))

module _ {E : Type 0} (o : RingOps E) (l : RingLaws o) (field : FieldLaws o) (cmp : List ℕ → List ℕ → Ordering) (v : ℕ) (order : OrdersMonomials cmp v) where
  path-first : {hs : List (Polynomial E)} → AllFirst o l v hs → {f left : Polynomial E} {steps : List (Step E)} → Path o cmp hs f steps left → InFirst o l v f → InFirst o l v left
  path-first first (Path.stay {f} {left} e) r = first-same o l v f left ((poly_laws o l).same_sym left f e) r
  path-first first (Path.take step p) r = path-first first p (step-first o l cmp step v order first r)

  module _ (given : List (Polynomial E)) (given_first : AllFirst o l v given) where
    -- what holds of the list
    pub record ListFacts (list : List (Polynomial E)) : Type 0 where
      pub first : AllFirst o l v list
      pub nonzero : (k : ℕ) → k < length list → IsFalse (is_zero o (get_or list k []))
      pub members : (k : ℕ) → IsMember o given (get_or list k [])
      pub generates : (k : ℕ) → IsMember o list (get_or given k [])

    begin-facts : (list : List (Polynomial E)) → AreSame o list (nonzeros o given) → ListFacts list
    begin-facts list s = record {
      first = λ k. elim (past_end list k []) [
        | inl low ↦ let (j, e, n) = inside k low in first-same o l v _ _ (back k) (subst (InFirst o l v) (sym e) (given_first j))
        | inr e ↦ subst (InFirst o l v) (sym e) (nil_first o l v)
      ];
      nonzero = λ k low. let (j, e, n) = inside k low in is_zero-same o cmp l v order _ _ (alike k) ∙ n;
      members = λ k. elim (past_end list k []) [
        | inl low ↦ let (j, e, n) = inside k low in member-same o l given (get_or given j []) _ (class_sound (poly_ops o) (poly_laws o l) _ _ (alike k) ∙ ap (poly o l) e) (member_generator o l given j)
        | inr e ↦ member_none o l given _ (ap (poly o l) e ∙ class-zero (poly_ops o) (poly_laws o l))
      ];
      generates = λ j. elim (given-at o given j) [
        | inl z ↦ member_none o l list _ (class_sound (poly_ops o) (poly_laws o l) _ [] z ∙ class-zero (poly_ops o) (poly_laws o l))
        | inr (k, e) ↦ member-same o l list (get_or list k []) _ (ap (poly o l) (sym e) ∙ sym (class_sound (poly_ops o) (poly_laws o l) _ _ (alike k))) (member_generator o l list k)
      ];
    }
      where
        alike : (k : ℕ) → IsSame (poly_ops o) (get_or list k []) (get_or (nonzeros o given) k [])
        alike k = same-at o l list (nonzeros o given) s k

        back : (k : ℕ) → IsSame (poly_ops o) (get_or (nonzeros o given) k []) (get_or list k [])
        back k = (poly_laws o l).same_sym _ _ (alike k)

        inside : (k : ℕ) → k < length list → FromGiven o given (get_or (nonzeros o given) k [])
        inside k low = nonzeros-at o given k (omega (arith, low, same-length o list (nonzeros o given) s))

    -- an element more: the rest of the division of the S-polynomial of two elements
    added-facts : (list : List (Polynomial E)) (i j count : ℕ) (rest : Polynomial E) → i < length list → j < length list → ListFacts list → LeavesRest o cmp list i j count rest → IsFalse (is_zero o rest) → ListFacts (list ++ rest ∷ [])
    added-facts list i j count rest low high facts r n = record {
      first = push-at [] (InFirst o l v) list rest facts.first (path-first facts.first path s_first) (nil_first o l v);
      nonzero = push-inside [] (λ g. IsFalse (is_zero o g)) list rest facts.nonzero n;
      members = push-at [] (IsMember o given) list rest facts.members (member_trans o l given list facts.members rest rest_member) (member_none o l given [] (class-zero (poly_ops o) (poly_laws o l)));
      generates = λ k. member_trans o l (list ++ rest ∷ []) list in_made (get_or given k []) (facts.generates k);
    }
      where
        path : Path o cmp list (s_polynomial o cmp (get_or list i []) (get_or list j [])) r.steps rest
        path = steps_path o cmp list l r.division.by_steps

        s_first : InFirst o l v (s_polynomial o cmp (get_or list i []) (get_or list j []))
        s_first = s_polynomial-first o l field cmp v order list facts.first (i, facts.nonzero i low) (j, facts.nonzero j high)

        rest_member : IsMember o list rest
        rest_member = left_member o l list cmp path (s_polynomial_member o l list cmp i j)

        in_made : (k : ℕ) → IsMember o (list ++ rest ∷ []) (get_or list k [])
        in_made k = elim (past_end list k []) [
          | inl inside ↦ subst (IsMember o (list ++ rest ∷ [])) (get_or_append_left list (rest ∷ []) [] k inside) (member_generator o l (list ++ rest ∷ []) k)
          | inr e ↦ member_none o l (list ++ rest ∷ []) _ (ap (poly o l) e ∙ class-zero (poly_ops o) (poly_laws o l))
        ]

    made-facts : (journal : List Entry) (list : List (Polynomial E)) (i j count : ℕ) (kind : Kind) (made : List (Polynomial E)) → i < length list → j < length list → ListFacts list → Makes o cmp journal list i j count kind made → ListFacts made
    made-facts journal list i j count (reduced None) made low high facts m = subst ListFacts (sym m.0) facts
    made-facts journal list i j count (reduced (Some at)) made low high facts (_, rest, r, n, w) = subst ListFacts (sym w) (added-facts list i j count rest low high facts r n)
    made-facts journal list i j count coprime_kind made low high facts m = subst ListFacts (sym m.0) facts
    made-facts journal list i j count (chain by) made low high facts m = subst ListFacts (sym m.0) facts

    -- so it is for the list that a journal makes
    pub journal-facts : {journal : List Entry} {list : List (Polynomial E)} → Journal o cmp given journal list → ListFacts list
    journal-facts (Journal.begin list s) = begin-facts list s
    journal-facts (Journal.enter journal list e made j entry) =
        made-facts journal list e.first e.second e.steps e.kind made (omega (arith, entry.open_pair.ascending, entry.open_pair.inside)) entry.open_pair.inside (journal-facts j) entry.makes
