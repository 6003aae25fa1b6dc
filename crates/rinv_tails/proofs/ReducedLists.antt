-- Relations whose tails are reduced in turn.
--   lists-start, lists-more, made-again, lists-meet      the first of them
use Rattle.std.proofs.Common.{◌≡◌, ◌⊎◌, ℕ, zero, suc, ◌<◌, ◌≤◌, ◌+◌, List, [], ◌∷◌, ◌++◌, length, length-append, get_or, take, take_all, refl, sym, ◌∙◌, ap, subst, inl, inr, arith, All}
use Rattle.std.specs.Prelude.{IsFalse, Contains}
use Rattle.std.proofs.lemmas.Bool.{cases_order}
use Rattle.std.proofs.lemmas.List.{take-append-le}
use Rattle.std.proofs.lemmas.List.Elements.{All-nil, All-push, All-contains}
use Rattle.std.specs.declared.cmp.Ordering.TheVariants.{Less}
use Rattle.rinv_algebra.specs.Monomial.{total_degree, max_degree}
use Rattle.rinv_algebra.specs.Order.{grevlex}
use Rattle.rinv_ring.specs.Fault.{DegreesMeet}
use Rattle.rinv_ring.specs.declared.fault.RingFault.{RingFault}
use Rattle.rinv_poly.proofs.Meets.{meet-weaker}
use Rattle.rinv_defs.specs.Invariant.{Fraction}
use Rattle.rinv_defs.specs.Extended.{Relation, FractionPoly, is_reducible}
use Rattle.rinv_tails.specs.Stored.{IsTail, IsStoredRelation, none}
use Rattle.rinv_tails.specs.Reducing.{Reduces, AreReducedSoFar, TailMeets, TailsMeet}

module _ (p v : ℕ) where
  -- the first k relations are reduced
  pub record AreReducing (rs : List Relation) (k : ℕ) (qs : List Relation) : Type 0 where
    pub number : length qs ≡ k
    pub so_far : AreReducedSoFar p v rs qs
    pub stored : All (IsStoredRelation p v) qs

  pub lists-start : (rs qs : List Relation) → qs ≡ [] → AreReducing rs 0 qs
  lists-start rs qs e = rw e (record {
    number = refl;
    so_far = record { within = start rs; leads = λ k low. absurd (omega (arith, low)); tails = λ k low. absurd (omega (arith, low)); whole = λ k low u c. absurd (omega (arith, low)) };
    stored = All-nil (IsStoredRelation p v);
  })
    where
      start : (rs : List Relation) → (0 < length rs) ⊎ (0 ≡ length rs)
      start [] = inr refl
      start (r ∷ rs) = inl (omega arith)

  -- what holds at the places of a list and at the end holds with one more
  at-end : (qs : List Relation) (q : Relation) → get_or (qs ++ q ∷ []) (length qs) none ≡ q
  at-end [] q = refl
  at-end (x ∷ qs) q = at-end qs q

  at-before : (qs : List Relation) (q : Relation) (k : ℕ) → k < length qs → get_or (qs ++ q ∷ []) k none ≡ get_or qs k none
  at-before [] q k low = absurd (omega arith)
  at-before (x ∷ qs) q zero low = refl
  at-before (x ∷ qs) q (suc k) low = at-before qs q k (omega (arith, low))

  each : (P : ℕ → List Relation → Relation → Type 0) (qs : List Relation) (q : Relation) → ((k : ℕ) → k < length qs → P k (take k qs) (get_or qs k none)) → P (length qs) qs q → (k : ℕ) → k < length (qs ++ q ∷ []) → P k (take k (qs ++ q ∷ [])) (get_or (qs ++ q ∷ []) k none)
  each P qs q before last k low = elim (cases_order k (length qs)) [
    | inl same ↦ subst (λ (j : ℕ). P j (take j (qs ++ q ∷ [])) (get_or (qs ++ q ∷ []) j none)) (sym same)
        (subst (λ (r : Relation). P (length qs) (take (length qs) (qs ++ q ∷ [])) r) (sym (at-end qs q)) (subst (λ (xs : List Relation). P (length qs) xs q) (sym (take-append-le (length qs) qs (q ∷ []) (omega arith) ∙ take_all (length qs) qs (omega arith))) last))
    | inr (inl less) ↦ subst (λ (r : Relation). P k (take k (qs ++ q ∷ [])) r) (sym (at-before qs q k less)) (subst (λ (xs : List Relation). P k xs (get_or qs k none)) (sym (take-append-le k qs (q ∷ []) (omega (arith, less)))) (before k less))
    | inr (inr more) ↦ let l = length-append qs (q ∷ []) in absurd (omega (arith, low, more, l))
  ]

  -- the next relation
  module _ (rs : List Relation) (k : ℕ) (qs : List Relation) (h : AreReducing rs k qs) (r : Relation) (low : k < length rs) (here : r ≡ get_or rs k none) where
    there : get_or rs (length qs) none ≡ r
    there = ap (λ (j : ℕ). get_or rs j none) h.number ∙ sym here

    -- its tail is reduced
    pub lists-more : (more : List Relation) (q : Relation) → more ≡ qs ++ q ∷ [] → q.lead ≡ r.lead → Reduces p v qs r.tail q.tail → All (λ t. IsFalse (is_reducible qs t.0)) q.tail → IsStoredRelation p v q → AreReducing rs (k + 1) more
    lists-more more q e lead steps whole stored = rw e (record {
      number = length-append qs (q ∷ []) ∙ ap (λ (j : ℕ). j + 1) h.number;
      so_far = record {
        within = let l = length-append qs (q ∷ []) in let n = h.number in room (omega (arith, low, l, n));
        leads = each (λ j xs x. x.lead ≡ (get_or rs j none).lead) qs q h.so_far.leads (lead ∙ ap (λ (x : Relation). x.lead) (sym there));
        tails = each (λ j xs x. Reduces p v xs (get_or rs j none).tail x.tail) qs q h.so_far.tails (subst (λ (x : Relation). Reduces p v qs x.tail q.tail) (sym there) steps);
        whole = each (λ j xs x. (u : List ℕ × Fraction) → Contains x.tail u → IsFalse (is_reducible xs u.0)) qs q h.so_far.whole (λ u c. All-contains (λ t. IsFalse (is_reducible qs t.0)) q.tail u whole c);
      };
      stored = All-push (IsStoredRelation p v) qs q h.stored stored;
    })
      where
        room : length (qs ++ q ∷ []) ≤ length rs → (length (qs ++ q ∷ []) < length rs) ⊎ (length (qs ++ q ∷ []) ≡ length rs)
        room le = elim (cases_order (length (qs ++ q ∷ [])) (length rs)) [
          | inl same ↦ inr same
          | inr (inl less) ↦ inl less
          | inr (inr more) ↦ absurd (omega (arith, le, more))
        ]

    -- degrees are met
    pub lists-meet : (fault : RingFault) → DegreesMeet (TailMeets p v qs r.tail) fault → DegreesMeet (TailsMeet p v rs) fault
    lists-meet = meet-weaker (TailMeets p v qs r.tail) (TailsMeet p v rs) (λ x y meets. record {
      reduced = qs;
      before = let n = h.number in omega (arith, low, n);
      so_far = h.so_far;
      meets = subst (λ (s : Relation). TailMeets p v qs s.tail x y) (sym there) meets;
    })

    -- as it is stored: the lead, and the tail that is made of the one that was given
    pub made-again : (lead : List ℕ) (given made : FractionPoly) (by : List Relation) → by ≡ qs → record { lead = lead; tail = given } ≡ r → IsStoredRelation p v r → Reduces p v by given made → All (λ t. IsFalse (is_reducible by t.0)) made → IsTail p v made
        → ((m : List ℕ) → All (λ t. grevlex t.0 m ≡ Less) given → All (λ t. grevlex t.0 m ≡ Less) made) → (more : List Relation) → more ≡ qs ++ (record { lead = lead; tail = made }) ∷ [] → AreReducing rs (k + 1) more
    made-again lead given made by same is good steps whole tail below more e =
        lists-more more (record { lead = lead; tail = made }) e same_lead
        (subst (λ (x : Relation). Reduces p v qs x.tail made) is (subst (λ (xs : List Relation). Reduces p v xs given made) same steps))
        (subst (λ (xs : List Relation). All (λ t. IsFalse (is_reducible xs t.0)) made) same whole)
        (record {
          vars = subst (λ (m : List ℕ). length m ≡ v) (sym same_lead) good.vars;
          low = subst (λ (m : List ℕ). total_degree m ≤ max_degree) (sym same_lead) good.low;
          tail = tail;
          below = below lead (subst (λ (x : Relation). All (λ t. grevlex t.0 x.lead ≡ Less) x.tail) (sym is) good.below);
        })
      where
        same_lead : lead ≡ r.lead
        same_lead = ap (λ (x : Relation). x.lead) is
