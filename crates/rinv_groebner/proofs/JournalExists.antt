-- There is a complete journal: Buchberger's algorithm ends. A pair more is settled at each step, or a leading monomial is added that no
-- earlier one divides.
--   journal_exists       a complete journal, and the list that it makes
use Rattle.std.proofs.Common.{◌≡◌, ◌⊎◌, ℕ, suc, ◌<◌, ◌≤◌, Bool, true, false, not, List, [], ◌∷◌, ◌++◌, length, length-take, take, get_or, refl, sym, ◌∙◌, ap, inl, inr, arith, IsTrue, true≢false}
use Rattle.std.specs.Prelude.{IsFalse, ◌||◌, Some, None}
use Rattle.std.specs.List.{list_any, AllByRecursion}
use Rattle.std.specs.declared.cmp.Ordering.{Ordering}
use Rattle.std.proofs.lemmas.Bool.{cases_Bool}
use Rattle.std.proofs.lemmas.Bool.Decides.{nat_tests}
use Rattle.std.proofs.lemmas.List.Folds.{list_any-append}
use mathlib.Core.WellFounded.{Acc}
use Rattle.rinv_algebra.specs.Ring.{RingOps, RingLaws, FieldLaws}
use Rattle.rinv_algebra.specs.Monomial.{divides, coprime}
use Rattle.rinv_algebra.specs.Polynomial.{Polynomial, is_zero}
use Rattle.rinv_algebra.specs.Leading.{leading_monomial, s_polynomial}
use Rattle.rinv_algebra.proofs.MonomialLaws.{same_at}
use Rattle.rinv_theory.proofs.Monoid.{IsOne, monomial}
use Rattle.rinv_groebner.specs.Orders.{OrdersMonomials}
use Rattle.rinv_groebner.specs.Division.{Step, is_reducible, IsIrreducible, IsDivision}
use Rattle.rinv_groebner.specs.Settled.{is_listed, lead_at}
use Rattle.rinv_groebner.specs.Count.{AddsUndivided}
use Rattle.rinv_groebner.specs.Journal.{Entry, reduced, coprime as coprime_kind, pairs_of, kept_steps, nonzeros, IsOpen, LeavesRest, Journal, IsComplete}
use Rattle.rinv_groebner.proofs.Compared.{InFirst, nonzero-front, class_leads, first_of}
use Rattle.rinv_groebner.proofs.ListElements.{AllFirst}
use Rattle.rinv_groebner.proofs.LeadingMonomials.{leading_monomial-leads}
use Rattle.rinv_groebner.proofs.MonomialLists.{divides_at, divides_from}
use Rattle.rinv_groebner.proofs.Reducible.{parts_divide, reducible-one}
use Rattle.rinv_groebner.proofs.NextSteps.{division_exists}
use Rattle.rinv_groebner.proofs.Ascents.{ascents_end}
use Rattle.rinv_groebner.proofs.PairsOfLists.{s_polynomial-first}
use Rattle.rinv_groebner.proofs.SettledLists.{pair_cases}
use Rattle.rinv_groebner.proofs.PairLists.{listed-more, listed-entry, all_pairs, all-listed, IsInside, all-inside}
use Rattle.rinv_groebner.proofs.JournalFacts.{ListFacts, journal-facts}
use Rattle.rinv_groebner.proofs.JournalUnique.{same_refl}

module _ {E : Type 0} (o : RingOps E) (l : RingLaws o) (field : FieldLaws o) (cmp : List ℕ → List ℕ → Ordering) (v : ℕ) (order : OrdersMonomials cmp v) (given : List (Polynomial E)) (given_first : AllFirst o l v given) where
  -- a complete journal
  abbrev pub HasJournal : Type 0
  HasJournal = (journal : List Entry) × (list : List (Polynomial E)) × Journal o cmp given journal list × IsComplete o cmp journal list

  facts : {journal : List Entry} {list : List (Polynomial E)} → Journal o cmp given journal list → ListFacts o l field cmp v order given given_first list
  facts j = journal-facts o l field cmp v order given given_first j

  -- what can be done where an element is added
  abbrev Grows : List (Polynomial E) → Type 0
  Grows list = (journal : List Entry) (rest : Polynomial E) → Journal o cmp given journal (list ++ rest ∷ []) → IsFalse (is_zero o rest) → IsIrreducible o cmp list rest → HasJournal

  module _ (list : List (Polynomial E)) where
    -- each pair of places is in the journal or yet to be done
    abbrev IsCovered : List Entry → List (ℕ × ℕ) → Type 0
    IsCovered journal todo = (i j : ℕ) → i < j → j < length list → IsTrue (is_listed (pairs_of journal) i j) ⊎ IsTrue (is_listed todo i j)

    -- the first pair yet to be done is in the journal
    cover : (journal next : List Entry) (i j : ℕ) (todo : List (ℕ × ℕ)) → i < j → ((a b : ℕ) → IsTrue (is_listed (pairs_of journal) a b) → IsTrue (is_listed (pairs_of next) a b)) → IsTrue (is_listed (pairs_of next) i j) → IsCovered journal ((i, j) ∷ todo) → IsCovered next todo
    cover journal next i j todo low more here covered a b lo hi = go (covered a b lo hi)
      where
        place : ((a ≡ i) × (b ≡ j)) ⊎ ((a ≡ j) × (b ≡ i)) ⊎ IsTrue (is_listed todo a b) → IsTrue (is_listed (pairs_of next) a b) ⊎ IsTrue (is_listed todo a b)
        place (inl e) = inl (ap (λ (a : ℕ). is_listed (pairs_of next) a b) e.0 ∙ ap (λ (b : ℕ). is_listed (pairs_of next) i b) e.1 ∙ here)
        place (inr (inl e)) = absurd (omega (arith, e.0, e.1, lo, low))
        place (inr (inr h)) = inr h

        go : IsTrue (is_listed (pairs_of journal) a b) ⊎ IsTrue (is_listed ((i, j) ∷ todo) a b) → IsTrue (is_listed (pairs_of next) a b) ⊎ IsTrue (is_listed todo a b)
        go (inl h) = inl (more a b h)
        go (inr h) = place (pair_cases i j a b todo h)

    open_at : (journal : List Entry) (i j : ℕ) → i < j → j < length list → is_listed (pairs_of journal) i j ≡ false → IsOpen o cmp journal list i j
    open_at journal i j low high fresh = record { ascending = low; inside = high; fresh = fresh }

    -- a pair that is not in the journal is entered
    settle : (journal : List Entry) → Journal o cmp given journal list → (i j : ℕ) → i < j → j < length list → is_listed (pairs_of journal) i j ≡ false → Grows list
        → ((e : Entry) → e.first ≡ i → e.second ≡ j → Journal o cmp given (journal ++ e ∷ []) list → HasJournal) → HasJournal
    settle journal j i k low high fresh grows again = elim (cases_Bool (coprime (lead_at o cmp list i) (lead_at o cmp list k))) [
      | inl apart ↦
          let e : Entry = record { first = i; second = k; kind = coprime_kind; steps = 0 } in
          again e refl refl (Journal.enter journal list e list j (record { open_pair = open_at journal i k low high fresh; makes = (refl, apart, refl) }))
      | inr meet ↦ divided meet (division_exists o l field cmp v order list (facts j).first (s_polynomial o cmp (get_or list i []) (get_or list k [])) (s_polynomial-first o l field cmp v order list (facts j).first (i, (facts j).nonzero i (omega (arith, low, high))) (k, (facts j).nonzero k high)))
    ]
      where
        divided : coprime (lead_at o cmp list i) (lead_at o cmp list k) ≡ false → (steps : List (Step E)) × (rest : Polynomial E) × IsDivision o cmp list (s_polynomial o cmp (get_or list i []) (get_or list k [])) steps rest → HasJournal
        divided meet (steps, rest, d) = elim (cases_Bool (is_zero o rest)) [
          | inl vanishes ↦
              let e : Entry = record { first = i; second = k; kind = reduced None; steps = kept_steps (length steps) } in
              again e refl refl (Journal.enter journal list e list j (record { open_pair = open_at journal i k low high fresh; makes = (refl, rest, leaves, vanishes) }))
          | inr nonzero ↦
              let e : Entry = record { first = i; second = k; kind = reduced (Some (length list)); steps = kept_steps (length steps) } in
              grows (journal ++ e ∷ []) rest (Journal.enter journal list e (list ++ rest ∷ []) j (record { open_pair = open_at journal i k low high fresh; makes = (refl, rest, leaves, nonzero, refl) })) nonzero d.irreducible
        ]
          where
            leaves : LeavesRest o cmp list i k (kept_steps (length steps)) rest
            leaves = record { not_coprime = λ apart. true≢false (sym apart ∙ meet); steps = steps; division = d; counted = refl }

    -- the pairs yet to be done, one after another
    run : (todo : List (ℕ × ℕ)) → AllByRecursion (IsInside (length list)) todo → (journal : List Entry) → Journal o cmp given journal list → IsCovered journal todo → Grows list → HasJournal
    run [] inside journal j covered grows = (journal, list, j, λ a b low high. elim (covered a b low high) [ inl h ↦ h | inr h ↦ absurd (true≢false (sym h)) ])
    run ((i, k) ∷ todo) inside journal j covered grows = elim (cases_Bool (is_listed (pairs_of journal) i k)) [
      | inl done ↦ run todo inside.1 journal j (cover journal journal i k todo inside.0.0 (λ a b h. h) done covered) grows
      | inr fresh ↦ settle journal j i k inside.0.0 inside.0.1 fresh grows (λ e p q n. run todo inside.1 (journal ++ e ∷ []) n
          (cover journal (journal ++ e ∷ []) i k todo inside.0.0 (λ a b h. listed-more journal e a b h)
          (sym (ap (λ (a : ℕ). is_listed (pairs_of (journal ++ e ∷ [])) a e.second) p ∙ ap (λ (b : ℕ). is_listed (pairs_of (journal ++ e ∷ [])) i b) q)
          ∙ listed-entry journal e (omega (arith, p, q, inside.0.0))) covered) grows)
    ]

  -- what a monomial of the list divides is reducible
  abbrev AreLeads : List (List ℕ) → List (Polynomial E) → Type 0
  AreLeads ms list = (m : List ℕ) → IsTrue (list_any (λ d. divides d m) ms) → IsTrue (is_reducible o cmp list m)

  module _ (list : List (Polynomial E)) (rest : Polynomial E) (in_first : InFirst o l v rest) (nonzero : IsFalse (is_zero o rest)) (irreducible : IsIrreducible o cmp list rest) (ms : List (List ℕ)) (leads : AreLeads ms list) where
    abbrev lead : List ℕ
    lead = leading_monomial o cmp rest

    one : IsOne lead (take v lead)
    one = first_of cmp v order lead (nonzero-front o l v in_first (monomial lead) (class_leads o l v cmp order rest in_first nonzero).nonzero)

    -- the leading monomial of the rest is divided by none of them
    added : AddsUndivided v (take v lead ∷ ms) ms
    added = record { added = take v lead; in_variables = short; undivided = undivided (list_any (λ d. divides d (take v lead)) ms) refl; whole = refl }
      where
        short : length (take v lead) ≤ v
        short = let e = length-take v lead in omega (arith, e)

        undivided : (b : Bool) → list_any (λ d. divides d (take v lead)) ms ≡ b → not (list_any (λ d. divides d (take v lead)) ms) ≡ true
        undivided true h = absurd (true≢false (sym (reducible-one o cmp list lead (take v lead) one ∙ leads (take v lead) h) ∙ irreducible lead (leading_monomial-leads o l cmp order.laws rest nonzero).has))
        undivided false h = ap not h

    -- and it is one of the list with the rest
    more_leads : AreLeads (take v lead ∷ ms) (list ++ rest ∷ [])
    more_leads m h = list_any-append _ list (rest ∷ []) ∙ either (cases_Bool (divides (take v lead) m)) h
      where
        front_part : (a b : Bool) → a ≡ true → (a || b) ≡ true
        front_part a b e = grind (arith, nat_tests, e)

        end_part : (a b : Bool) → b ≡ true → (a || (b || false)) ≡ true
        end_part a b e = grind (arith, nat_tests, e)

        off : (a b : Bool) → a ≡ false → (a || b) ≡ true → b ≡ true
        off a b e h = grind (arith, nat_tests, e, h)

        either : (divides (take v lead) m ≡ true) ⊎ (divides (take v lead) m ≡ false) → IsTrue (list_any (λ d. divides d m) (take v lead ∷ ms)) → (is_reducible o cmp list m || is_reducible o cmp (rest ∷ []) m) ≡ true
        either (inl d) h = end_part (is_reducible o cmp list m) _ (parts_divide o cmp rest m nonzero (divides_from lead m (λ k. let x = same_at lead (take v lead) one k in let y = divides_at (take v lead) m d k in omega (arith, x, y))))
        either (inr e) h = front_part _ _ (leads m (off (divides (take v lead) m) _ e h))

  -- the algorithm ends
  ends : (ms : List (List ℕ)) → Acc (AddsUndivided v) ms → (journal : List Entry) (list : List (Polynomial E)) → Journal o cmp given journal list → AreLeads ms list → HasJournal
  ends ms (Acc.intro x h) journal list j leads = run list (all_pairs (length list)) (all-inside (length list)) journal j (λ a b low high. inr (all-listed (length list) a b low high)) (λ next rest k nonzero irreducible.
      let in_first : InFirst o l v rest = last_first list rest (facts k).first in
      ends (take v (leading_monomial o cmp rest) ∷ x) (h (take v (leading_monomial o cmp rest) ∷ x) (added list rest in_first nonzero irreducible x leads)) next (list ++ rest ∷ []) k (more_leads list rest in_first nonzero irreducible x leads))
    where
      last_first : (list : List (Polynomial E)) (rest : Polynomial E) → AllFirst o l v (list ++ rest ∷ []) → InFirst o l v rest
      last_first [] rest r = r 0
      last_first (g ∷ list) rest r = last_first list rest (λ k. r (suc k))

  -- there is a complete journal
  pub journal_exists : HasJournal
  journal_exists = ends [] ((ascents_end v).apply []) [] (nonzeros o given) (Journal.begin (nonzeros o given) (same_refl o l (nonzeros o given))) (λ m h. absurd (true≢false (sym h)))
