-- A pool after a term is added to a run, or taken from it.
use Rattle.std.proofs.Common.{◌≡◌, ◌≢◌, ℕ, zero, suc, ◌+◌, ◌<◌, ◌≤◌, ◌^◌, ◌==◌, ◌⊎◌, true, false, if◌then◌else◌, List, [], ◌∷◌, ◌++◌, map, length, get_or, Option, Some, None, refl, sym, ap, ◌∙◌, subst, arith, inl, inr}
use Rattle.std.specs.Bool.{⊤}
use Rattle.std.proofs.lemmas.Bool.Decides.{nat_tests}
use Rattle.std.proofs.lemmas.List.{map-append, length_push}
use Rattle.rinv_pool.specs.declared.slots.Chain.{Chain}
use Rattle.rinv_pool.specs.Pools.{held, terms_in}
use Rattle.rinv_pool.specs.Chains.{Holds, IsChain, IsRow, empties, row_of}
use Rattle.rinv_pool.proofs.Chains.{Stays, chain-stays, chain-push, chain-front, chain-last}
use Rattle.rinv_pool.proofs.Rows.{Change, at-each, row-stays, rows-seen, updated, updated-same, updated-other}

low-rank : (rank : ℕ → ℕ) (q p n : ℕ) → q ≡ p → rank q < n → rank p ≡ n → ⊥
low-rank rank q p n same low high = let e : rank q ≡ rank p = ap rank same in omega (arith, e, low, high)

count-after : (n c d : ℕ) → suc n ≡ c → d + 1 ≡ c → n ≡ d
count-after n c d e f = omega (arith, e, f)

sum-taken : (live live' old new n m : ℕ) → m ≡ suc n → live ≡ old → live' + 1 ≡ live → new + m ≡ old + n → live' ≡ new
sum-taken live live' old new n m e a b c = omega (arith, e, a, b, c)

sum-added : (live live' old new n m : ℕ) → m ≡ n + 1 → live ≡ old → live' ≡ live + 1 → new + n ≡ old + m → live' ≡ new
sum-added live live' old new n m e a b c = omega (arith, e, a, b, c)

-- the ranks of the slots of one owner, one more each
abbrev raised : (ℕ → ℕ) → (ℕ → ℕ) → ℕ → ℕ → ℕ
raised owner rank own q = if owner q == own then suc (rank q) else rank q

raised-own : (owner rank : ℕ → ℕ) (own q : ℕ) → owner q ≡ own → raised owner rank own q ≡ suc (rank q)
raised-own owner rank own q same = let e : (owner q == own) ≡ true = grind (arith, nat_tests, same) in rw e refl

raised-other : (owner rank : ℕ → ℕ) (own q : ℕ) → owner q ≢ own → raised owner rank own q ≡ rank q
raised-other owner rank own q other = let e : (owner q == own) ≡ false = grind (arith, nat_tests, other) in rw e refl

zero-rank : (rank : ℕ → ℕ) (q p : ℕ) → q ≡ p → 0 < rank q → rank p ≡ 0 → ⊥
zero-rank rank q p same high low = let e : rank q ≡ rank p = ap rank same in omega (arith, e, low, high)

owner-zero : (owner : ℕ → ℕ) (q p own : ℕ) → q ≡ p → owner p ≡ 0 → owner q ≡ suc own → ⊥
owner-zero owner q p own same zero-of owned = let e : owner q ≡ owner p = ap owner same in omega (arith, e, zero-of, owned)

no-zero : (n m : ℕ) → n ≡ suc m → (n == 0) ≡ false
no-zero n m e = grind (arith, nat_tests, e)

yes-zero : (n : ℕ) → 0 ≡ n → (n == 0) ≡ true
yes-zero n e = grind (arith, nat_tests, e)

module _ {T : Type 0} where
  -- the rows that a pool holds are those that its chains show
  pub holds-seen : (next : ℕ → ℕ) (term : ℕ → Option T) (size free spare live : ℕ) (runs : List (Option Chain)) (rows : List (Option (List T)))
      → Holds next term size free spare live runs rows → map (row_of next term) runs ≡ rows
  holds-seen next term size free spare live runs rows h = rows-seen next term size h.owner h.rank (λ k. k) runs rows h.numbers h.chains

  -- the first slot of a run with terms, and the run without its first term
  pub row-first : (next : ℕ → ℕ) (term : ℕ → Option T) (size : ℕ) (owner rank : ℕ → ℕ) (r : ℕ) (c : Chain) (t : T) (ts : List T)
      → IsRow next term size owner rank r (Some c) (Some (t ∷ ts))
      → (c.first < size) × (owner c.first ≡ suc r) × (term c.first ≡ Some t) × (c.count ≡ suc (length ts))
  row-first next term size owner rank r c t ts h = (h.1.0, h.1.1, h.1.3, sym h.0)

  -- the first term of a run is taken, and its slot comes before the free ones
  pub holds-taken : (next next' : ℕ → ℕ) (term term' : ℕ → Option T) (size free spare spare' live live' : ℕ) (runs runs' : List (Option Chain)) (rows rows' : List (Option (List T))) (r : ℕ) (c d : Chain) (t : T) (ts : List T)
      → Holds next term size free spare live runs rows
      → get_or runs r None ≡ Some c → get_or rows r None ≡ Some (t ∷ ts)
      → next' c.first ≡ free → ((q : ℕ) → q ≢ c.first → next' q ≡ next q)
      → term' c.first ≡ None → ((q : ℕ) → q ≢ c.first → term' q ≡ term q)
      → d.first ≡ next c.first → d.last ≡ c.last → d.count + 1 ≡ c.count
      → spare' ≡ suc spare → live' + 1 ≡ live
      → Change runs runs' rows rows' r (Some d) (Some ts)
      → Holds next' term' size c.first spare' live' runs' rows'
  holds-taken next next' term term' size free spare spare' live live' runs runs' rows rows' r c d t ts h run row next-here next-others term-here term-others first last count more fewer change =
      let p = c.first in
      let owner' : ℕ → ℕ = updated h.owner p 0 in
      let rank' : ℕ → ℕ = updated h.rank p (length (empties {T = T} spare)) in
      let old : IsRow next term size h.owner h.rank r (Some c) (Some (t ∷ ts)) =
      subst (λ (x : Option (List T)). IsRow next term size h.owner h.rank r (Some c) x) row
      (subst (λ (x : Option Chain). IsRow next term size h.owner h.rank r x (get_or rows r None)) run (h.chains r)) in
      let stays : (q : ℕ) → q ≢ p → Stays size next next' term term' h.owner owner' h.rank rank' q =
      λ q other. (next-others q other, term-others q other, updated-other h.owner p 0 q other, updated-other h.rank p (length (empties {T = T} spare)) q other) in
      let apart : (q own : ℕ) → own ≢ suc r → h.owner q ≡ own → q ≢ p =
      λ q own differ owned same. differ (sym owned ∙ ap h.owner same ∙ old.1.1) in
      let spares : IsChain next' term' size owner' rank' (λ _. ⊤) 0 free (empties spare) =
      chain-stays size next next' term term' h.owner owner' h.rank rank' size (λ _. ⊤) 0 free (empties spare) (λ q i. i)
      (λ q i o l. stays q (apart q 0 (λ e. absurd (omega (arith, e))) o)) h.spares in
      let rest : IsChain next' term' size owner' rank' (λ q. q ≡ c.last) (suc r) (next p) (map Some ts) =
      chain-stays size next next' term term' h.owner owner' h.rank rank' size (λ q. q ≡ c.last) (suc r) (next p) (map Some ts) (λ q i. i)
      (λ q i o l. stays q (λ same. absurd (low-rank h.rank q p (length (map Some ts)) same l old.1.2))) old.1.5 in
      let here : IsRow next' term' size owner' rank' r (Some d) (Some ts) = (
        count-after (length ts) c.count d.count old.0 count,
        subst (λ (e : ℕ). IsChain next' term' size owner' rank' (λ q. q ≡ e) (suc r) d.first (map Some ts)) (sym last)
            (subst (λ (f : ℕ). IsChain next' term' size owner' rank' (λ q. q ≡ c.last) (suc r) f (map Some ts)) (sym first) rest),
      ) in
      record {
        owner = owner';
        rank = rank';
        spares = subst (λ (n : ℕ). IsChain next' term' size owner' rank' (λ _. ⊤) 0 p (empties n)) (sym more)
            (chain-front next' term' size owner' rank' 0 p None (empties spare) old.1.0 (updated-same h.owner p 0) (updated-same h.rank p (length (empties {T = T} spare))) term-here
            (subst (λ (n : ℕ). IsChain next' term' size owner' rank' (λ _. ⊤) 0 n (empties spare)) (sym next-here) spares));
        chains = at-each (IsRow next' term' size owner' rank') runs runs' rows rows' r (Some d) (Some ts) change here
            (λ k other. row-stays size size next next' term term' h.owner owner' h.rank rank' k (get_or runs k None) (get_or rows k None) (λ q i. i)
            (λ q i o. stays q (apart q (suc k) (λ e. other (omega (arith, e))) o)) (h.chains k));
        numbers = change.numbers;
        sum = sum-taken live live' (held rows) (held rows') (length ts) (length (terms_in (get_or rows r None))) (ap (λ (x : Option (List T)). length (terms_in x)) row) h.sum fewer change.total;
        whole = let w : live + spare ≡ size = h.whole in omega (arith, w, more, fewer);
        few = h.few;
      }

  -- the slot that is linked to the new one: the last one of the run, or the new one itself
  pub link-place : (next : ℕ → ℕ) (term : ℕ → Option T) (size : ℕ) (owner rank : ℕ → ℕ) (r free a : ℕ) (c : Chain) (ts : List T)
      → IsRow next term size owner rank r (Some c) (Some ts) → a ≡ (if c.count == 0 then free else c.last)
      → (a ≡ free) ⊎ ((a < size) × (owner a ≡ suc r) × (rank a ≡ 0))
  link-place next term size owner rank r free a c [] h e =
      let none : (c.count == 0) ≡ true = yes-zero c.count h.0 in inl (rw none at e)
  link-place next term size owner rank r free a c (t ∷ ts) h e =
      let some : (c.count == 0) ≡ false = no-zero c.count (length ts) (sym h.0) in
      let last : a ≡ c.last = rw some at e in
      inr (subst (λ (p : ℕ). (p < size) × (owner p ≡ suc r) × (rank p ≡ 0)) (sym last)
      (chain-last next term size owner rank c.last (suc r) c.first (Some t) (map Some ts) h.1))

  -- the row of a run with one more term, whose slot was a free one
  row-added : (next next' : ℕ → ℕ) (term term' : ℕ → Option T) (size : ℕ) (owner owner' rank rank' : ℕ → ℕ) (r free a : ℕ) (c d : Chain) (x : T) (ts : List T)
      → IsRow next term size owner rank r (Some c) (Some ts) → a ≡ (if c.count == 0 then free else c.last)
      → d.first ≡ (if c.count == 0 then free else c.first) → d.last ≡ free → d.count ≡ c.count + 1
      → free < size → owner' free ≡ suc r → rank' free ≡ 0 → term' free ≡ Some x
      → ((q : ℕ) → owner q ≡ suc r → (owner' q ≡ suc r) × (rank' q ≡ suc (rank q)) × (term' q ≡ term q))
      → ((q : ℕ) → owner q ≡ suc r → 0 < rank q → next' q ≡ next q)
      → next' a ≡ free
      → IsRow next' term' size owner' rank' r (Some d) (Some (ts ++ x ∷ []))
  row-added next next' term term' size owner owner' rank rank' r free a c d x [] h target first last count inside owned ranked holds same links link =
      let none : (c.count == 0) ≡ true = yes-zero c.count h.0 in
      let begins : d.first ≡ free = rw none at first in
      let size-of : 0 ≡ c.count = h.0 in (
        omega (arith, size-of, count),
        subst (λ (p : ℕ). IsChain next' term' size owner' rank' (λ q. q ≡ d.last) (suc r) p (Some x ∷ [])) (sym begins) (inside, owned, ranked, holds, (λ _. sym last), tt),
      )
  row-added next next' term term' size owner owner' rank rank' r free a c d x (t ∷ ts) h target first last count inside owned ranked holds same links link =
      let some : (c.count == 0) ≡ false = no-zero c.count (length ts) (sym h.0) in
      let begins : d.first ≡ c.first = rw some at first in
      let ends : a ≡ c.last = rw some at target in
      let size-of : suc (length ts) ≡ c.count = h.0 in
      let longer : IsChain next' term' size owner' rank' (λ q. q ≡ free) (suc r) c.first (map Some (t ∷ ts) ++ Some x ∷ []) =
      chain-push size next next' term term' owner owner' rank rank' c.last free (suc r) c.first (Some x) (map Some (t ∷ ts)) same links
      (ap next' (sym ends) ∙ link) inside owned ranked holds (omega arith) h.1 in (
        omega (arith, size-of, count, length_push ts x),
        subst (λ (e : ℕ). IsChain next' term' size owner' rank' (λ q. q ≡ e) (suc r) d.first (map Some (t ∷ ts ++ x ∷ []))) (sym last)
            (subst (λ (f : ℕ). IsChain next' term' size owner' rank' (λ q. q ≡ free) (suc r) f (map Some (t ∷ ts ++ x ∷ []))) (sym begins)
            (subst (λ (us : List (Option T)). IsChain next' term' size owner' rank' (λ q. q ≡ free) (suc r) c.first us) (sym (map-append Some (t ∷ ts) (x ∷ []))) longer)),
      )

  -- a term is added at the end of a run, in the first free slot
  pub holds-added : (next next' : ℕ → ℕ) (term term' : ℕ → Option T) (size free spare spare' live live' : ℕ) (runs runs' : List (Option Chain)) (rows rows' : List (Option (List T))) (r a : ℕ) (c d : Chain) (x : T) (ts : List T)
      → Holds next term size free spare live runs rows
      → get_or runs r None ≡ Some c → get_or rows r None ≡ Some ts → a ≡ (if c.count == 0 then free else c.last)
      → next' a ≡ free → ((q : ℕ) → q ≢ free → q ≢ a → next' q ≡ next q)
      → term' free ≡ Some x → ((q : ℕ) → q ≢ free → term' q ≡ term q)
      → d.first ≡ (if c.count == 0 then free else c.first) → d.last ≡ free → d.count ≡ c.count + 1
      → spare ≡ suc spare' → live' ≡ live + 1
      → Change runs runs' rows rows' r (Some d) (Some (ts ++ x ∷ []))
      → Holds next' term' size (next free) spare' live' runs' rows'
  holds-added next next' term term' size free spare spare' live live' runs runs' rows rows' r a c d x ts h run row target link next-others term-here term-others first last count fewer more change =
      let lifted : ℕ → ℕ = raised h.owner h.rank (suc r) in
      let owner' : ℕ → ℕ = updated h.owner free (suc r) in
      let rank' : ℕ → ℕ = updated lifted free 0 in
      let old : IsRow next term size h.owner h.rank r (Some c) (Some ts) =
      subst (λ (y : Option (List T)). IsRow next term size h.owner h.rank r (Some c) y) row
      (subst (λ (y : Option Chain). IsRow next term size h.owner h.rank r y (get_or rows r None)) run (h.chains r)) in
      let spares : IsChain next term size h.owner h.rank (λ _. ⊤) 0 free (None ∷ empties spare') =
      subst (λ (n : ℕ). IsChain next term size h.owner h.rank (λ _. ⊤) 0 free (empties n)) fewer h.spares in
      let place : (a ≡ free) ⊎ ((a < size) × (h.owner a ≡ suc r) × (h.rank a ≡ 0)) = link-place next term size h.owner h.rank r free a c ts old target in
      let not-free : (q own : ℕ) → h.owner q ≡ suc own → q ≢ free =
      λ q own owned same. absurd (owner-zero h.owner q free own same spares.1 owned) in
      let not-target : (q own : ℕ) → h.owner q ≡ own → own ≢ suc r → q ≢ free → q ≢ a =
      λ q own owned differ other same. elim place [
        | inl is ↦ absurd (other (same ∙ is))
        | inr at ↦ absurd (differ (sym owned ∙ ap h.owner same ∙ at.1))
      ] in
      let stays : (q own : ℕ) → h.owner q ≡ own → own ≢ suc r → q ≢ free → Stays size next next' term term' h.owner owner' h.rank rank' q =
      λ q own owned differ other. (
        next-others q other (not-target q own owned differ other),
        term-others q other,
        updated-other h.owner free (suc r) q other,
        updated-other lifted free 0 q other ∙ raised-other h.owner h.rank (suc r) q (λ e. differ (sym owned ∙ e)),
      ) in
      let here : IsRow next' term' size owner' rank' r (Some d) (Some (ts ++ x ∷ [])) =
      row-added next next' term term' size h.owner owner' h.rank rank' r free a c d x ts old target first last count spares.0
      (updated-same h.owner free (suc r)) (updated-same lifted free 0) term-here
      (λ q owned. (
        updated-other h.owner free (suc r) q (not-free q r owned) ∙ owned,
        updated-other lifted free 0 q (not-free q r owned) ∙ raised-own h.owner h.rank (suc r) q owned,
        term-others q (not-free q r owned),
      ))
      (λ q owned high. next-others q (not-free q r owned) (λ same. elim place [
        | inl is ↦ absurd (not-free q r owned (same ∙ is))
        | inr at ↦ absurd (zero-rank h.rank q a same high at.2)
      ]))
      link in
      record {
        owner = owner';
        rank = rank';
        spares = chain-stays size next next' term term' h.owner owner' h.rank rank' size (λ _. ⊤) 0 (next free) (empties spare') (λ q i. i)
            (λ q i o l. stays q 0 o (λ e. absurd (omega (arith, e))) (λ same. absurd (low-rank h.rank q free (length (empties {T = T} spare')) same l spares.2))) spares.5;
        chains = at-each (IsRow next' term' size owner' rank') runs runs' rows rows' r (Some d) (Some (ts ++ x ∷ [])) change here
            (λ k other. row-stays size size next next' term term' h.owner owner' h.rank rank' k (get_or runs k None) (get_or rows k None) (λ q i. i)
            (λ q i o. stays q (suc k) o (λ e. other (omega (arith, e))) (not-free q k o)) (h.chains k));
        numbers = change.numbers;
        sum = sum-added live live' (held rows) (held rows') (length ts) (length (ts ++ x ∷ [])) (length_push ts x) h.sum more
            (subst (λ (n : ℕ). held rows' + n ≡ held rows + length (ts ++ x ∷ [])) (ap (λ (y : Option (List T)). length (terms_in y)) row) change.total);
        whole = let w : live + spare ≡ size = h.whole in omega (arith, w, more, fewer);
        few = h.few;
      }
