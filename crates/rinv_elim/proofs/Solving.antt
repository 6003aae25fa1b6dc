-- The relation of an element, made term by term.
--   solution-nonzero     a coefficient that is not zero gives none
--   solved-pair          a coefficient as it is made
--   z-below              the monomials in Z are below the lead, but for the lead
--   IsSolving            the terms of the element so far
--   solving-start, solving-passed, solving-more    none yet; a term whose monomial in Z came before, or is the lead; a new one
--   solved-sorted, stored-sorted    the relation, its terms from the greatest down
use Rattle.std.proofs.Common.{◌≡◌, ℕ, suc, ◌+◌, ◌<◌, ◌≤◌, Bool, true, false, cond, List, [], ◌∷◌, ◌++◌, length, take, take_all, drop, get_or, nat_lt, refl, sym, ◌∙◌, ap, subst, inl, inr, arith, All, AllPairs, IsTrue, true≢false}
use Rattle.std.specs.Prelude.{IsFalse}
use Rattle.std.specs.List.{list_any}
use Rattle.std.proofs.lemmas.List.Kept.{AllPairs-cons}
use Rattle.std.specs.List.Sorted.{IsPermutation, IsSortedBy}
use Rattle.std.specs.Ordering.{is_ge, is_lt, ordering_reverse}
use Rattle.std.specs.declared.cmp.Ordering.{Ordering}
use Rattle.std.specs.declared.cmp.Ordering.TheVariants.{Less, Equal, Greater}
use Rattle.std.proofs.lemmas.Bool.{cases_Bool, eqb-true}
use Rattle.std.proofs.lemmas.List.Elements.{All-nil, All-cons, All-head, All-push}
use Rattle.std.proofs.lemmas.List.Folds.{list_any_at}
use Rattle.std.proofs.lemmas.List.Sorted.{All-permutation, IsPermutation-sym, IsStrictWeakOrder-flip, ranks_by, sorted_far}
use Rattle.rinv_algebra.specs.Ring.{IsSame}
use Rattle.rinv_algebra.specs.Residue.{residue_ops}
use Rattle.rinv_algebra.specs.Monomial.{same_monomial, total_degree, max_degree}
use Rattle.rinv_algebra.specs.Order.{grevlex}
use Rattle.rinv_algebra.specs.Polynomial.{Term, poly_ops, is_zero, opposite, difference}
use Rattle.rinv_algebra.specs.Normal.{IsNormal}
use Rattle.rinv_algebra.specs.Fraction.{fraction_ops}
use Rattle.rinv_algebra.proofs.Grevlex.{grevlex_laws, grevlex_ties}
use Rattle.rinv_algebra.proofs.MonomialLaws.{same_monomial_refl, same_monomial_sym, same_monomial_trans}
use Rattle.rinv_algebra.proofs.PolynomialLaws.{poly_laws}
use Rattle.rinv_algebra.proofs.ResidueField.{residue_field_laws}
use Rattle.rinv_algebra.proofs.ResidueLaws.{residue_laws}
use Rattle.rinv_algebra.proofs.RingFacts as facts
use Rattle.rinv_algebra.proofs.Same.{IsAbsent}
use Rattle.rinv_theory.proofs.Fields.{fraction_laws}
use Rattle.rinv_groebner.specs.Elimination.{is_free}
use Rattle.rinv_groebner.proofs.Reducible.{first_passing}
use Rattle.rinv_defs.specs.System.{System, Poly, group_count, space_count}
use Rattle.rinv_defs.specs.Invariant.{Fraction}
use Rattle.rinv_defs.specs.PairConditions.{leading, action_order}
use Rattle.rinv_defs.specs.RelationConditions.{z_part}
use Rattle.rinv_defs.specs.Extended.{FractionPoly}
use Rattle.rinv_frac.specs.Cancelling.{IsCancelled}
use Rattle.rinv_frac.proofs.CancelledValues.{cancelled-value, cancelled-same}
use Rattle.rinv_frac.proofs.Values.{zero-value}
use Rattle.rinv_poly.proofs.DistinctTerms.{distinct-permuted, distinct-at}
use Rattle.rinv_poly.proofs.NormalFacts.{zero-nil}
use Rattle.rinv_div.proofs.DistinctFalls.{pairs-distinct}
use Rattle.rinv_reduction.specs.Localised.{all_count, lead_in_z, z_coefficient}
use Rattle.rinv_reduction.proofs.Ties.{grevlex_one, second_block}
use Rattle.rinv_tails.specs.Stored.{IsTailTerm, IsStoredRelation}
use Rattle.rinv_tails.proofs.Tails.{all-left, all-right}
use Rattle.rinv_elim.specs.Localising.{IsSolution, IsSolved}
use Rattle.rinv_elim.proofs.CutElements.{term-bounded}
use Rattle.rinv_elim.proofs.ZCoefficients.{z-length, coefficient-more}

-- a fraction of a numerator that is not zero, cancelled
pub solution-nonzero : (p : ℕ) (c d : Poly) (x : Fraction) → is_zero (residue_ops p) c ≡ false → is_zero (residue_ops p) d ≡ false → IsCancelled (residue_ops p) (opposite (residue_ops p) c, d) x → is_zero (residue_ops p) x.0 ≡ false
solution-nonzero p c d x nc nd made = go (is_zero (residue_ops p) x.0) refl
  where
    minus : (b : Bool) → is_zero (residue_ops p) (opposite (residue_ops p) c) ≡ b → b ≡ false
    minus false e = refl
    minus true e =
        let l = poly_laws (residue_ops p) (residue_laws p) in
        let o = poly_ops (residue_ops p) in
        absurd (true≢false (sym (facts.then o l (facts.back o l (l.add_zero c)) (facts.then o l (l.add_same c c [] (opposite (residue_ops p) c) (l.same_refl c) (facts.back o l e)) (l.add_neg c))) ∙ nc))

    go : (z : Bool) → is_zero (residue_ops p) x.0 ≡ z → is_zero (residue_ops p) x.0 ≡ false
    go false z = z
    go true z =
        let o = fraction_ops (residue_ops p) in
        let l = fraction_laws (residue_ops p) (residue_laws p) (residue_field_laws p) in
        let k = cancelled-value (residue_ops p) (residue_laws p) (residue_field_laws p) (opposite (residue_ops p) c, d) x nd made in
        let none = zero-value (residue_ops p) (residue_laws p) x k.nonzero ∙ z in
        absurd (true≢false (sym (facts.then o l (facts.back o l k.value) none) ∙ zero-value (residue_ops p) (residue_laws p) (opposite (residue_ops p) c, d) nd ∙ minus (is_zero (residue_ops p) (opposite (residue_ops p) c)) refl))

-- -c/d, made as (0 - c)/d and cancelled
pub solved-pair : (p : ℕ) (nothing num den c d : Poly) (f x : Fraction) → IsSame (poly_ops (residue_ops p)) nothing [] → IsSame (poly_ops (residue_ops p)) num (difference (residue_ops p) nothing c) → den ≡ d → f ≡ (num, den) → IsCancelled (residue_ops p) f x → IsCancelled (residue_ops p) (opposite (residue_ops p) c, d) x
solved-pair p nothing num den c d f x none minus copied parts made =
    let o = poly_ops (residue_ops p) in
    let l = poly_laws (residue_ops p) (residue_laws p) in
    cancelled-same (residue_ops p) (residue_laws p) (residue_field_laws p) (num, den) (opposite (residue_ops p) c, d) x (record {
      numerator = facts.then o l minus (l.add_same nothing [] (opposite (residue_ops p) c) (opposite (residue_ops p) c) none (l.same_refl (opposite (residue_ops p) c)));
      denominator = subst (λ (g : Poly). IsSame (poly_ops (residue_ops p)) den g) copied (l.same_refl den);
    }) (subst (λ (g : Fraction). IsCancelled (residue_ops p) g x) parts made)

-- one more monomial, which none has
pairs-push : (f : FractionPoly) (z : List ℕ) (x : Fraction) → AllPairs (λ t u. same_monomial t.0 u.0 ≡ false) f → ((j : ℕ) (d : List ℕ × Fraction) → j < length f → same_monomial (get_or f j d).0 z ≡ false) → AllPairs (λ t u. same_monomial t.0 u.0 ≡ false) (f ++ (z, x) ∷ [])
pairs-push [] z x h off = λ i j d low high. absurd (omega (arith, low, high))
pairs-push (t ∷ f) z x h off =
    AllPairs-cons (λ t u. same_monomial t.0 u.0 ≡ false) t (f ++ (z, x) ∷ [])
    (All-push (λ u. same_monomial t.0 u.0 ≡ false) f (z, x) (λ k d low. h 0 (suc k) d (omega arith) (omega (arith, low))) (off 0 t (omega arith)))
    (pairs-push f z x (λ i j d low high. h (suc i) (suc j) d (omega (arith, low)) (omega (arith, high))) (λ j d low. off (suc j) d (omega (arith, low))))

absent-all : (b : List ℕ) (f : FractionPoly) → IsAbsent b f → All (λ t. same_monomial t.0 b ≡ false) f
absent-all b [] a = All-nil (λ t. same_monomial t.0 b ≡ false)
absent-all b (t ∷ f) a = All-cons (λ t. same_monomial t.0 b ≡ false) t f a.0 (absent-all b f a.1)

module _ (s : System) where
  abbrev n : ℕ
  n = space_count s

  -- the monomial in Z of a term is below that of the leading monomial, or the same
  pub z-below : (h : Poly) → IsNormal (residue_ops s.p) (λ c. nat_lt c s.p) (all_count s) h → IsFalse (is_zero (residue_ops s.p) h) → IsTrue (is_free (group_count s) (leading s h)) → length (leading s h) ≡ all_count s → All (λ t. IsTrue (is_free (group_count s) t.0)) h
      → (k : ℕ) (t : Term ℕ) → k < length h → t ≡ get_or h k t → length t.0 ≡ all_count s → same_monomial (z_part s t.0) (lead_in_z s h) ≡ false → grevlex (z_part s t.0) (lead_in_z s h) ≡ Less
  z-below h normal nonzero free many frees k t low here long off = go (grevlex (z_part s t.0) (lead_in_z s h)) refl
    where
      higher : IsTrue (is_ge (grevlex (lead_in_z s h) (z_part s t.0)))
      higher = second_block (group_count s) n (n ∷ []) (leading s h) t.0 (eqb-true _ _ free) (eqb-true _ _ (subst (λ (u : Term ℕ). IsTrue (is_free (group_count s) u.0)) (sym here) (frees k t low)))
          (subst (λ (u : Term ℕ). IsTrue (is_ge (action_order s (leading s h) u.0))) (sym here) (term-bounded s h normal nonzero k t low))

      tied : IsTrue (is_ge (grevlex (z_part s t.0) (lead_in_z s h))) → ⊥
      tied g = true≢false (sym (grevlex_one n (z_part s t.0) (lead_in_z s h) (let e = z-length s t.0 long in omega (arith, e)) (let e = z-length s (leading s h) many in omega (arith, e)) g higher) ∙ off)

      go : (o : Ordering) → grevlex (z_part s t.0) (lead_in_z s h) ≡ o → o ≡ Less
      go Less e = refl
      go Equal e = absurd (tied (ap is_ge e))
      go Greater e = absurd (tied (ap is_ge e))

  module _ (h : Poly) (lead : List ℕ) where
    -- the terms of the element so far: their monomials in Z, each once
    pub record IsSolving (k : ℕ) (tail : FractionPoly) : Type 0 where
      pub others : All (λ t. IsFalse (same_monomial lead t.0)) tail
      pub made : All (λ t. IsSolution s h lead t.0 t.1) tail
      pub once : AllPairs (λ t u. same_monomial t.0 u.0 ≡ false) tail
      pub terms : All (IsTailTerm s.p (space_count s)) tail
      pub below : All (λ t. grevlex t.0 lead ≡ Less) tail
      pub whole : (b : List ℕ) → IsFalse (same_monomial lead b) → All (λ t. same_monomial t.0 b ≡ false) tail → z_coefficient s (take k h) b ≡ []

    pub solving-start : (tail : FractionPoly) → tail ≡ [] → IsSolving 0 tail
    solving-start tail e = rw e (record {
      others = All-nil (λ t. IsFalse (same_monomial lead t.0));
      made = All-nil (λ t. IsSolution s h lead t.0 t.1);
      once = λ i j d low high. absurd (omega (arith, high));
      terms = All-nil (IsTailTerm s.p (space_count s));
      below = All-nil (λ t. grevlex t.0 lead ≡ Less);
      whole = λ b off absent. refl;
    })

    module _ (k : ℕ) (tail : FractionPoly) (so_far : IsSolving k tail) (t : Term ℕ) (low : k < length h) (here : t ≡ get_or h k t) (z : List ℕ) (z-is : z ≡ z_part s t.0) where
      -- the coefficient at a monomial is not changed by a term with another one in Z
      unchanged : (b : List ℕ) → same_monomial z b ≡ false → z_coefficient s (take k h) b ≡ [] → z_coefficient s (take (k + 1) h) b ≡ []
      unchanged b off none =
          let off_z : same_monomial (z_part s t.0) b ≡ false = subst (λ (m : List ℕ). same_monomial m b ≡ false) z-is off in
          coefficient-more s h b k t low here ∙ ap (λ (f : Poly). f ++ cond (same_monomial (z_part s t.0) b) ((drop (group_count s + space_count s) t.0, t.1) ∷ []) []) none ∙ ap (λ (c : Bool). cond c ((drop (group_count s + space_count s) t.0, t.1) ∷ []) []) off_z

      differs : (b : List ℕ) → (same_monomial z b ≡ true → ⊥) → same_monomial z b ≡ false
      differs b never = elim (cases_Bool (same_monomial z b)) [ inl e ↦ absurd (never e) | inr e ↦ e ]

      -- its monomial in Z is the lead
      pub solving-lead : same_monomial z lead ≡ true → IsSolving (k + 1) tail
      solving-lead same = record {
        others = so_far.others;
        made = so_far.made;
        once = so_far.once;
        terms = so_far.terms;
        below = so_far.below;
        whole = λ b off absent. unchanged b (differs b (λ e. true≢false (sym (same_monomial_trans lead z b (same_monomial_sym z lead same) e) ∙ off))) (so_far.whole b off absent);
      }

      -- or that of a term that is there
      pub solving-passed : list_any (λ u. same_monomial u.0 z) tail ≡ true → IsSolving (k + 1) tail
      solving-passed found = record {
        others = so_far.others;
        made = so_far.made;
        once = so_far.once;
        terms = so_far.terms;
        below = so_far.below;
        whole = λ b off absent. unchanged b (differs b (λ e. clash b absent e)) (so_far.whole b off absent);
      }
        where
          clash : (b : List ℕ) → All (λ u. same_monomial u.0 b ≡ false) tail → same_monomial z b ≡ true → ⊥
          clash b absent e =
              let (j, there, d, before) = first_passing (λ (u : List ℕ × Fraction). same_monomial u.0 z) ([], ([], [])) tail found in
              true≢false (sym (same_monomial_trans (get_or tail j ([], ([], []))).0 z b d e) ∙ absent j ([], ([], [])) there)

      -- or a new one
      pub solving-more : (x : Fraction) (more : FractionPoly) → more ≡ tail ++ (z, x) ∷ [] → same_monomial z lead ≡ false → list_any (λ u. same_monomial u.0 z) tail ≡ false → IsSolution s h lead z x → IsTailTerm s.p (space_count s) (z, x) → grevlex z lead ≡ Less → IsSolving (k + 1) more
      solving-more x more e off new made term below = rw e (record {
        others = All-push (λ u. IsFalse (same_monomial lead u.0)) tail (z, x) so_far.others (turned off);
        made = All-push (λ u. IsSolution s h lead u.0 u.1) tail (z, x) so_far.made made;
        once = pairs-push tail z x so_far.once apart;
        terms = All-push (IsTailTerm s.p (space_count s)) tail (z, x) so_far.terms term;
        below = All-push (λ u. grevlex u.0 lead ≡ Less) tail (z, x) so_far.below below;
        whole = λ b other absent. unchanged b (last b absent) (so_far.whole b other (first b absent));
      })
        where
          turned : same_monomial z lead ≡ false → same_monomial lead z ≡ false
          turned off = elim (cases_Bool (same_monomial lead z)) [ inl c ↦ absurd (true≢false (sym (same_monomial_sym lead z c) ∙ off)) | inr c ↦ c ]

          apart : (j : ℕ) (d : List ℕ × Fraction) → j < length tail → same_monomial (get_or tail j d).0 z ≡ false
          apart j d there = elim (cases_Bool (same_monomial (get_or tail j d).0 z)) [
            | inl c ↦ absurd (true≢false (sym (list_any_at (λ (u : List ℕ × Fraction). same_monomial u.0 z) tail j d there c) ∙ new))
            | inr c ↦ c
          ]

          first : (b : List ℕ) → All (λ u. same_monomial u.0 b ≡ false) (tail ++ (z, x) ∷ []) → All (λ u. same_monomial u.0 b ≡ false) tail
          first b a = all-left (λ (u : List ℕ × Fraction). same_monomial u.0 b ≡ false) tail ((z, x) ∷ []) a

          last : (b : List ℕ) → All (λ u. same_monomial u.0 b ≡ false) (tail ++ (z, x) ∷ []) → same_monomial z b ≡ false
          last b a = All-head (λ (u : List ℕ × Fraction). same_monomial u.0 b ≡ false) (z, x) [] (all-right (λ (u : List ℕ × Fraction). same_monomial u.0 b ≡ false) tail ((z, x) ∷ []) a)

    -- ---- all terms, from the greatest down

    module _ (k : ℕ) (tail sorted : FractionPoly) (all : length h ≤ k) (done : IsSolving k tail) (permuted : IsPermutation tail sorted) (descends : IsSortedBy (λ (s t : List ℕ × Fraction). is_lt (grevlex t.0 s.0)) sorted) where
      moved : (P : List ℕ × Fraction → Type 0) → All P tail → All P sorted
      moved P a = All-permutation P tail sorted permuted a

      terms_sorted : All (IsTailTerm s.p (space_count s)) sorted
      terms_sorted = moved (IsTailTerm s.p (space_count s)) done.terms

      apart : (i j : ℕ) (d : List ℕ × Fraction) → i < j → j < length sorted → same_monomial (get_or sorted j d).0 (get_or sorted i d).0 ≡ false
      apart i j d low high =
          let off = distinct-at sorted (distinct-permuted tail sorted permuted (pairs-distinct tail done.once)) i j d low high in
          elim (cases_Bool (same_monomial (get_or sorted j d).0 (get_or sorted i d).0)) [
            | inl c ↦ absurd (true≢false (sym (same_monomial_sym (get_or sorted j d).0 (get_or sorted i d).0 c) ∙ off))
            | inr c ↦ c
          ]

      descending : AllPairs (λ t u. grevlex u.0 t.0 ≡ Less) sorted
      descending i j d low high = go (grevlex a b) refl
        where
          a : List ℕ
          a = (get_or sorted j d).0

          b : List ℕ
          b = (get_or sorted i d).0

          far : is_lt (grevlex b a) ≡ false
          far = sorted_far (λ (s t : List ℕ × Fraction). is_lt (grevlex t.0 s.0)) (IsStrictWeakOrder-flip (λ (s t : List ℕ × Fraction). is_lt (grevlex s.0 t.0)) (ranks_by grevlex_laws.total (λ (s : List ℕ × Fraction). s.0))) sorted descends i j d (omega (arith, low)) high

          many : length a ≡ length b
          many = (terms_sorted j d high).vars ∙ sym (terms_sorted i d (omega (arith, low, high))).vars

          go : (o : Ordering) → grevlex a b ≡ o → o ≡ Less
          go Less e = refl
          go Equal e = absurd (true≢false (sym (subst (λ (m : List ℕ). same_monomial a m ≡ true) (grevlex_ties a b many e) (same_monomial_refl a)) ∙ apart i j d low high))
          go Greater e = absurd (true≢false (sym (ap is_lt (grevlex_laws.total.antisymm b a ∙ ap ordering_reverse e)) ∙ far))

      pub solved-sorted : IsTrue (same_monomial lead (lead_in_z s h)) → IsFalse (is_zero (residue_ops s.p) (z_coefficient s h lead)) → IsSolved s h (record { lead = lead; tail = sorted })
      solved-sorted same divisor = record {
        lead = same;
        divisor = divisor;
        others = moved (λ t. IsFalse (same_monomial lead t.0)) done.others;
        made = moved (λ t. IsSolution s h lead t.0 t.1) done.made;
        once = apart;
        whole = λ b off absent.
            let none : z_coefficient s h b ≡ [] = ap (λ (f : Poly). z_coefficient s f b) (sym (take_all k h all)) ∙ done.whole b off (All-permutation (λ t. same_monomial t.0 b ≡ false) sorted tail (IsPermutation-sym tail sorted permuted) (absent-all b sorted absent)) in
            ap (is_zero (residue_ops s.p)) none ∙ zero-nil (residue_ops s.p) (residue_laws s.p) (λ c. nat_lt c s.p) n;
      }

      pub stored-sorted : length lead ≡ space_count s → total_degree lead ≤ max_degree → IsStoredRelation s.p (space_count s) (record { lead = lead; tail = sorted })
      stored-sorted many low = record {
        vars = many;
        low = low;
        tail = record { terms = terms_sorted; descending = descending };
        below = moved (λ t. grevlex t.0 lead ≡ Less) done.below;
      }
