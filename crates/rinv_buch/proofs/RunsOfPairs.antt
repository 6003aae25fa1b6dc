-- Runs of the algorithm from pair to pair: the journal with an entry more, and the pairs of an element more.
use Rattle.std.proofs.Common.{◌≡◌, ◌⊎◌, ℕ, ◌+◌, ◌<◌, ◌≤◌, List, [], ◌∷◌, ◌++◌, length, length-append, get_or, map, sym, ◌∙◌, ap, ap₂, subst, subst₂, inl, inr, arith, IsTrue, true≢false}
use Rattle.std.specs.Prelude.{IsFalse, Some, None}
use Rattle.std.proofs.lemmas.Bool.{cases_Bool, cases_order}
use Rattle.std.proofs.lemmas.List.{get_or-map, get_or_append_left}
use Rattle.std.specs.declared.cmp.Ordering.{Ordering}
use Rattle.rinv_algebra.specs.Ring.{RingOps}
use Rattle.rinv_algebra.specs.Monomial.{lcm, total_degree, max_degree}
use Rattle.rinv_algebra.specs.Polynomial.{Polynomial}
use Rattle.rinv_algebra.specs.Leading.{leading_monomial}
use Rattle.rinv_groebner.specs.Settled.{is_listed, lead_at, lcm_at}
use Rattle.rinv_groebner.specs.Journal.{Entry, Kind, reduced, coprime, chain, pairs_of, Makes, IsOpen, Journal}
use Rattle.rinv_groebner.proofs.JournalGood.{listed-append}
use Rattle.rinv_pairs.specs.High.{FirstIsHigh, AreLow as AreLowWith}
use Rattle.rinv_buch.specs.Causes.{LcmMeets}
use Rattle.rinv_buch.specs.Runs.{AreLow}

module _ {E : Type 0} (o : RingOps E) (cmp : List ℕ → List ℕ → Ordering) where
  -- the list that an entry makes is not shorter
  makes-longer : (journal : List Entry) (list : List (Polynomial E)) (i j count : ℕ) (kind : Kind) (made : List (Polynomial E)) → Makes o cmp journal list i j count kind made → length list ≤ length made
  makes-longer journal list i j count (reduced None) made m = let e = ap length m.0 in omega (arith, e)
  makes-longer journal list i j count (reduced (Some at)) made (_, rest, _, _, w) = let e = ap length w in omega (arith, e, length-append list (rest ∷ []))
  makes-longer journal list i j count coprime made m = let e = ap length m.0 in omega (arith, e)
  makes-longer journal list i j count (chain by) made m = let e = ap length m.0 in omega (arith, e)

  -- the pairs of a journal, in whichever order, lie inside its list
  journal-inside : {given : List (Polynomial E)} {journal : List Entry} {list : List (Polynomial E)} → Journal o cmp given journal list → (i j : ℕ) → IsTrue (is_listed (pairs_of journal) i j) → (i < length list) × (j < length list)
  journal-inside (Journal.begin list s) i j h = absurd (true≢false (sym h))
  journal-inside (Journal.enter journal list e made before entry) i j h = go (journal-inside before i j) (listed-append journal e i j h)
    where
      longer : length list ≤ length made
      longer = makes-longer journal list e.first e.second e.steps e.kind made entry.makes

      go : (IsTrue (is_listed (pairs_of journal) i j) → (i < length list) × (j < length list)) → IsTrue (is_listed (pairs_of journal) i j) ⊎ ((i ≡ e.first) × (j ≡ e.second)) ⊎ ((i ≡ e.second) × (j ≡ e.first)) → (i < length made) × (j < length made)
      go earlier (inl x) = (omega (arith, longer, (earlier x).0), omega (arith, longer, (earlier x).1))
      go earlier (inr (inl x)) = (omega (arith, longer, x.0, entry.open_pair.ascending, entry.open_pair.inside), omega (arith, longer, x.1, entry.open_pair.inside))
      go earlier (inr (inr x)) = (omega (arith, longer, x.0, entry.open_pair.inside), omega (arith, longer, x.1, entry.open_pair.ascending, entry.open_pair.inside))

  -- so a pair with the place after them is not listed, with an entry more of a pair inside
  pub last-fresh : {given : List (Polynomial E)} {journal : List Entry} {list : List (Polynomial E)} → Journal o cmp given journal list → (e : Entry) → IsOpen o cmp journal list e.first e.second → (i : ℕ) → IsFalse (is_listed (pairs_of (journal ++ e ∷ [])) i (length list))
  last-fresh {given} {journal} {list} j e open_pair i = elim (cases_Bool (is_listed (pairs_of (journal ++ e ∷ [])) i (length list))) [
    | inl h ↦ elim (listed-append journal e i (length list) h) [
      | inl x ↦ absurd (let y = (journal-inside j i (length list) x).1 in omega (arith, y))
      | inr (inl x) ↦ absurd (omega (arith, x.1, open_pair.inside))
      | inr (inr x) ↦ absurd (omega (arith, x.1, open_pair.ascending, open_pair.inside))
    ]
    | inr off ↦ off
  ]

  module _ (list : List (Polynomial E)) (leads : List (List ℕ)) (of_list : leads ≡ map (leading_monomial o cmp) list) where
    lead-at : (k : ℕ) → k < length list → get_or leads k [] ≡ lead_at o cmp list k
    lead-at k low = ap (λ (ms : List (List ℕ)). get_or ms k []) of_list ∙ get_or-map (leading_monomial o cmp) list k [] [] low

    multiple-at : (i k : ℕ) → i < k → k < length list → total_degree (lcm (get_or leads i []) (get_or leads k [])) ≡ total_degree (lcm_at o cmp list i k)
    multiple-at i k low inside = ap₂ (λ (a b : List ℕ). total_degree (lcm a b)) (lead-at i (omega (arith, low, inside))) (lead-at k inside)

    -- the least common multiples of the first k elements are low, and those with the next one
    pub low-next : (k : ℕ) → k < length list → ((i j : ℕ) → i < j → j < k → total_degree (lcm_at o cmp list i j) ≤ max_degree) → AreLowWith leads k k → (i j : ℕ) → i < j → j < k + 1 → total_degree (lcm_at o cmp list i j) ≤ max_degree
    low-next k inside earlier here i j low high = elim (cases_order j k) [
      | inl e ↦ subst (λ (j : ℕ). total_degree (lcm_at o cmp list i j) ≤ max_degree) (sym e)
          (let below : i < k = omega (arith, low, e) in subst (λ (d : ℕ). d ≤ max_degree) (multiple-at i k below inside) (here i below))
      | inr (inl below) ↦ earlier i j low below
      | inr (inr above) ↦ absurd (omega (arith, high, above))
    ]

    -- an earlier element with which the next one has a multiple that is too high
    pub first-meets : (journal : List Entry) (k x y : ℕ) → k < length list → ((i : ℕ) → IsFalse (is_listed (pairs_of journal) i k)) → FirstIsHigh leads k x y → LcmMeets o cmp journal list x y
    first-meets journal k x y inside fresh high = record {
      first = high.place;
      second = k;
      open_pair = record { ascending = high.earlier; inside = inside; fresh = fresh high.place };
      left = ap total_degree (sym (lead-at high.place (omega (arith, high.earlier, inside)))) ∙ high.left_degree;
      right = ap total_degree (sym (lead-at k inside)) ∙ high.right_degree;
      over = subst (λ (d : ℕ). max_degree < d) (multiple-at high.place k high.earlier inside) high.high;
    }

  -- a list that is low, with an element more at its end
  pub low-append : (list : List (Polynomial E)) (h : Polynomial E) (leads : List (List ℕ)) → leads ≡ map (leading_monomial o cmp) (list ++ h ∷ []) → AreLow o cmp list → AreLowWith leads (length list) (length list) → AreLow o cmp (list ++ h ∷ [])
  low-append list h leads of_list low here i j below inside =
      low-next (list ++ h ∷ []) leads of_list (length list) (omega (arith, length-append list (h ∷ []))) earlier here i j below (omega (arith, inside, length-append list (h ∷ [])))
    where
      front : (k : ℕ) → k < length list → lead_at o cmp list k ≡ lead_at o cmp (list ++ h ∷ []) k
      front k inside = ap (leading_monomial o cmp) (sym (get_or_append_left list (h ∷ []) [] k inside))

      earlier : (i j : ℕ) → i < j → j < length list → total_degree (lcm_at o cmp (list ++ h ∷ []) i j) ≤ max_degree
      earlier i j below inside = subst₂ (λ (a b : List ℕ). total_degree (lcm a b) ≤ max_degree) (front i (omega (arith, below, inside))) (front j inside) (low i j below inside)
