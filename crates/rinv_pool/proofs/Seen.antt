-- The pool as contracts see it, after a term is added or taken.
use Rattle.std.proofs.Common.{◌≡◌, ◌≢◌, ℕ, zero, suc, ◌+◌, ◌-◌, ◌<◌, ◌≤◌, ◌^◌, ◌==◌, ◌⊎◌, true, if◌then◌else◌, List, [], ◌∷◌, ◌++◌, set, map, length, get_or, Option, Some, None, is_some, refl, sym, ap, ◌∙◌, subst, arith, inl, inr}
use Rattle.std.specs.Option.{MatchOption}
use Rattle.rinv_pool.specs.declared.slots.Chain.{Chain}
use Rattle.rinv_pool.specs.Pools.{Pool, Changes, Takes, held, is_in_use, terms_in, terms_of}
use Rattle.rinv_pool.specs.Chains.{Holds, IsRow, row_of, terms_from}
use Rattle.rinv_pool.proofs.Adding.{holds-added, holds-seen, holds-taken, link-place}
use Rattle.rinv_pool.proofs.Numbers.{inside-used}
use Rattle.rinv_pool.proofs.Rows.{Change, change-set, row-changes, row-get, rows-number}

-- an element inside a list is the same with any other
pub same-default : {A : Type 0} (xs : List A) (k : ℕ) (d e : A) → k < length xs → get_or xs k d ≡ get_or xs k e
same-default [] k d e inside = absurd (omega (arith, inside))
same-default (x ∷ xs) zero d e inside = refl
same-default (x ∷ xs) (suc k) d e inside = same-default xs k d e (omega (arith, inside))

-- the run that an index reads
pub run-at : (runs : List (Option Chain)) (r : ℕ) (x : Option Chain) (c : Chain) → r < length runs → x ≡ get_or runs r x → x ≡ Some c → get_or runs r None ≡ Some c
run-at runs r x c inside read is = same-default runs r None x inside ∙ sym read ∙ is

module _ {T : Type 0} where
  -- the number of a run in use is inside the list of runs
  pub run-inside : (before old : Pool T) (r n : ℕ) (next : ℕ → ℕ) (term : ℕ → Option T) (runs : List (Option Chain))
      → before ≡ old → r ≡ n → before.rows ≡ map (row_of next term) runs → is_in_use old n ≡ true → r < length runs
  run-inside before old r n next term runs seen number rows used =
      let here : is_some (get_or (map (row_of next term) runs) r None) ≡ true =
      ap (λ (xs : List (Option (List T))). is_some (get_or xs r None)) (sym rows) ∙ ap (λ (p : Pool T). is_some (get_or p.rows r None)) seen
      ∙ ap (λ (k : ℕ). is_some (get_or old.rows k None)) number ∙ used in
      let low : r < length (map (row_of next term) runs) = inside-used (map (row_of next term) runs) r here in
      subst (λ (k : ℕ). r < k) (rows-number next term runs) low

  -- the row of a run
  pub row-there : (next : ℕ → ℕ) (term : ℕ → Option T) (runs : List (Option Chain)) (r : ℕ) (c : Chain) → get_or runs r None ≡ Some c
      → get_or (map (row_of next term) runs) r None ≡ Some (terms_from next term c.count c.first)
  row-there next term runs r c run = row-get next term runs r ∙ ap (row_of next term) run

  pub chain-there : (next : ℕ → ℕ) (term : ℕ → Option T) (size free spare live : ℕ) (runs : List (Option Chain)) (r : ℕ) (c : Chain) (h : Holds next term size free spare live runs (map (row_of next term) runs))
      → get_or runs r None ≡ Some c → IsRow next term size h.owner h.rank r (Some c) (Some (terms_from next term c.count c.first))
  chain-there next term size free spare live runs r c h run =
      subst (λ (x : Option (List T)). IsRow next term size h.owner h.rank r (Some c) x) (row-there next term runs r c run)
      (subst (λ (x : Option Chain). IsRow next term size h.owner h.rank r x (get_or (map (row_of next term) runs) r None)) run (h.chains r))

  -- a row has no more terms than all
  held-low : (rows : List (Option (List T))) (r : ℕ) → length (terms_in (get_or rows r None)) ≤ held rows
  held-low [] r = omega arith
  held-low (x ∷ rows) zero = omega arith
  held-low (x ∷ rows) (suc r) = let e : length (terms_in (get_or rows r None)) ≤ held rows = held-low rows r in omega (arith, e)

  pub count-low : (next : ℕ → ℕ) (term : ℕ → Option T) (size free spare live : ℕ) (runs : List (Option Chain)) (r : ℕ) (c : Chain) (h : Holds next term size free spare live runs (map (row_of next term) runs))
      → get_or runs r None ≡ Some c → c.count ≤ live
  count-low next term size free spare live runs r c h run =
      let rows = map (row_of next term) runs in
      let low : length (terms_in (get_or rows r None)) ≤ held rows = held-low rows r in
      let same : length (terms_in (get_or rows r None)) ≡ length (terms_from next term c.count c.first) = ap (λ (x : Option (List T)). length (terms_in x)) (row-there next term runs r c run) in
      let row : IsRow next term size h.owner h.rank r (Some c) (Some (terms_from next term c.count c.first)) = chain-there next term size free spare live runs r c h run in
      let count : length (terms_from next term c.count c.first) ≡ c.count = row.0 in
      let sum : live ≡ held rows = h.sum in
      omega (arith, low, same, count, sum)

  -- the slot that is linked lies inside
  pub link-inside : (next : ℕ → ℕ) (term : ℕ → Option T) (size free spare live : ℕ) (runs : List (Option Chain)) (r a : ℕ) (c : Chain) (h : Holds next term size free spare live runs (map (row_of next term) runs))
      → get_or runs r None ≡ Some c → a ≡ (if c.count == 0 then free else c.last) → free < size → a < size
  link-inside next term size free spare live runs r a c h run target inside =
      elim (link-place next term size h.owner h.rank r free a c (terms_from next term c.count c.first) (chain-there next term size free spare live runs r c h run) target) [
        | inl is ↦ subst (λ (p : ℕ). p < size) (sym is) inside
        | inr at ↦ at.0
      ]

  -- a change of one row, as contracts see it
  pub changes-seen : (before old new : Pool T) (r n : ℕ) (runs runs' : List (Option Chain)) (rows : List (Option (List T))) (run : Option Chain) (F : Pool T → ℕ → Option (List T))
      → before ≡ old → r ≡ n → new.rows ≡ rows → Change runs runs' before.rows rows r run (F before r) → Changes old new n (F old n)
  changes-seen before old new r n runs runs' rows run F seen number same change =
      subst (λ (m : ℕ). Changes old new m (F old m)) number
      (subst (λ (p : Pool T). Changes p new r (F p r)) seen (row-changes before new runs runs' rows r run (F before r) same change))

  -- what holds of the rows that the chains show
  pub holds-shown : (next : ℕ → ℕ) (term : ℕ → Option T) (size free spare live : ℕ) (runs : List (Option Chain)) (rows : List (Option (List T)))
      → Holds next term size free spare live runs rows → Holds next term size free spare live runs (map (row_of next term) runs)
  holds-shown next term size free spare live runs rows h =
      subst (λ (xs : List (Option (List T))). Holds next term size free spare live runs xs) (sym (holds-seen next term size free spare live runs rows h)) h

  -- the pool after a push, whose rows are those before with one changed
  pub pool-added : (next next' : ℕ → ℕ) (term term' : ℕ → Option T) (size size' free free' spare live : ℕ) (runs : List (Option Chain)) (r a : ℕ) (c d : Chain) (x : T)
      → Holds next term size free spare live runs (map (row_of next term) runs)
      → size' ≡ size → free' ≡ next free → r < length runs → get_or runs r None ≡ Some c → a ≡ (if c.count == 0 then free else c.last)
      → next' a ≡ free → ((q : ℕ) → q ≢ free → q ≢ a → next' q ≡ next q)
      → term' free ≡ Some x → ((q : ℕ) → q ≢ free → term' q ≡ term q)
      → d.first ≡ (if c.count == 0 then free else c.first) → d.last ≡ free → d.count ≡ c.count + 1
      → 1 ≤ spare
      → Holds next' term' size' free' (spare - 1) (live + 1) (set runs r (Some d)) (set (map (row_of next term) runs) r (Some (terms_in (get_or (map (row_of next term) runs) r None) ++ x ∷ [])))
  pool-added next next' term term' size size' free free' spare live runs r a c d x h long start inside run target link next-others term-here term-others first last count room =
      let rows = map (row_of next term) runs in
      let row : get_or rows r None ≡ Some (terms_in (get_or rows r None)) =
      row-there next term runs r c run ∙ ap (λ (y : Option (List T)). Some (terms_in y)) (sym (row-there next term runs r c run)) in
      subst (λ (n : ℕ). Holds next' term' n free' (spare - 1) (live + 1) (set runs r (Some d)) (set rows r (Some (terms_in (get_or rows r None) ++ x ∷ [])))) (sym long)
      (subst (λ (f : ℕ). Holds next' term' size f (spare - 1) (live + 1) (set runs r (Some d)) (set rows r (Some (terms_in (get_or rows r None) ++ x ∷ [])))) (sym start)
      (holds-added next next' term term' size free spare (spare - 1) live (live + 1) runs (set runs r (Some d)) rows (set rows r (Some (terms_in (get_or rows r None) ++ x ∷ []))) r a c d x (terms_in (get_or rows r None))
      h run row target link next-others term-here term-others first last count (omega (arith, room)) refl
      (change-set runs rows r (Some d) (Some (terms_in (get_or rows r None) ++ x ∷ [])) (rows-number next term runs) inside)))

  -- a free slot lies inside
  pub spare-inside : (next : ℕ → ℕ) (term : ℕ → Option T) (size free spare live : ℕ) (runs : List (Option Chain)) (rows : List (Option (List T)))
      → Holds next term size free spare live runs rows → 1 ≤ spare → free < size
  spare-inside next term size free zero live runs rows h room = absurd (omega (arith, room))
  spare-inside next term size free (suc spare) live runs rows h room = h.spares.0

  first-of : (next : ℕ → ℕ) (term : ℕ → Option T) (size : ℕ) (owner rank : ℕ → ℕ) (r : ℕ) (c : Chain) (row : Option (List T)) (us : List T)
      → row ≡ Some us → IsRow next term size owner rank r (Some c) (Some us) → (c.count ≡ 0 → ⊥)
      → (t : T) × (ts : List T) × (row ≡ Some (t ∷ ts)) × (term c.first ≡ Some t) × (c.first < size) × (1 ≤ c.count)
  first-of next term size owner rank r c row [] e h some = let none : 0 ≡ c.count = h.0 in absurd (some (sym none))
  first-of next term size owner rank r c row (t ∷ ts) e h some =
      let count : suc (length ts) ≡ c.count = h.0 in (t, ts, e, h.1.3, h.1.0, omega (arith, count))

  -- the first term of a run with terms, and those behind it
  pub first-there : (next : ℕ → ℕ) (term : ℕ → Option T) (size free spare live : ℕ) (runs : List (Option Chain)) (r : ℕ) (c : Chain)
      → Holds next term size free spare live runs (map (row_of next term) runs) → get_or runs r None ≡ Some c → (c.count ≡ 0 → ⊥)
      → (t : T) × (ts : List T) × (get_or (map (row_of next term) runs) r None ≡ Some (t ∷ ts)) × (term c.first ≡ Some t) × (c.first < size) × (1 ≤ c.count)
  first-there next term size free spare live runs r c h run some =
      first-of next term size h.owner h.rank r c (get_or (map (row_of next term) runs) r None) (terms_from next term c.count c.first) (row-there next term runs r c run)
      (chain-there next term size free spare live runs r c h run) some

  -- the pool after its first term is taken from a run
  pub pool-taken : (next next' : ℕ → ℕ) (term term' : ℕ → Option T) (size size' free spare live : ℕ) (runs : List (Option Chain)) (r : ℕ) (c d : Chain) (t : T) (ts : List T)
      → Holds next term size free spare live runs (map (row_of next term) runs)
      → size' ≡ size → r < length runs → get_or runs r None ≡ Some c → get_or (map (row_of next term) runs) r None ≡ Some (t ∷ ts) → 1 ≤ c.count
      → next' c.first ≡ free → ((q : ℕ) → q ≢ c.first → next' q ≡ next q)
      → term' c.first ≡ None → ((q : ℕ) → q ≢ c.first → term' q ≡ term q)
      → d.first ≡ next c.first → d.last ≡ c.last → d.count ≡ c.count - 1
      → Holds next' term' size' c.first (spare + 1) (live - 1) (set runs r (Some d)) (set (map (row_of next term) runs) r (Some ts))
  pool-taken next next' term term' size size' free spare live runs r c d t ts h long inside run row some next-here next-others term-here term-others first last count =
      let rows = map (row_of next term) runs in
      let low : c.count ≤ live = count-low next term size free spare live runs r c h run in
      subst (λ (n : ℕ). Holds next' term' n c.first (spare + 1) (live - 1) (set runs r (Some d)) (set rows r (Some ts))) (sym long)
      (holds-taken next next' term term' size free spare (spare + 1) live (live - 1) runs (set runs r (Some d)) rows (set rows r (Some ts)) r c d t ts
      h run row next-here next-others term-here term-others first last (omega (arith, count, some)) (omega arith) (omega (arith, low, some))
      (change-set runs rows r (Some d) (Some ts) (rows-number next term runs) inside))

  takes-same : (before new : Pool T) (r : ℕ) (runs runs' : List (Option Chain)) (rows : List (Option (List T))) (run : Option Chain) (t : T) (ts : List T)
      → new.rows ≡ rows → get_or before.rows r None ≡ Some (t ∷ ts) → Change runs runs' before.rows rows r run (Some ts)
      → new.live + 1 ≡ before.live → new.spare ≡ before.spare + 1 → new.size ≡ before.size → Takes before new r t
  takes-same before new r runs runs' rows run t ts same row change live spare size =
      let left : terms_of new r ≡ ts = ap (λ (xs : List (Option (List T))). terms_in (get_or xs r None)) same ∙ ap (λ (y : Option (List T)). terms_in y) change.row_here in record {
        first = ap (λ (y : Option (List T)). terms_in y) row ∙ ap (λ (us : List T). t ∷ us) (sym left);
        rows = subst (λ (us : List T). Changes before new r (Some us)) (sym left) (row-changes before new runs runs' rows r run (Some ts) same change);
        live = live;
        spare = spare;
        size = size;
      }

  -- a term is taken, as contracts see it
  pub takes-seen : (before old new : Pool T) (r n : ℕ) (runs runs' : List (Option Chain)) (rows : List (Option (List T))) (run : Option Chain) (t : T) (ts : List T) (o : Option T) (P : Type 0)
      → before ≡ old → r ≡ n → o ≡ Some t
      → new.rows ≡ rows → get_or before.rows r None ≡ Some (t ∷ ts) → Change runs runs' before.rows rows r run (Some ts)
      → new.live + 1 ≡ before.live → new.spare ≡ before.spare + 1 → new.size ≡ before.size
      → MatchOption o P (λ x. Takes old new n x)
  takes-seen before old new r n runs runs' rows run t ts o P seen number is same row change live spare size =
      subst (λ (y : Option T). MatchOption y P (λ x. Takes old new n x)) (sym is)
      (subst (λ (m : ℕ). Takes old new m t) number
      (subst (λ (p : Pool T). Takes p new r t) seen (takes-same before new r runs runs' rows run t ts same row change live spare size)))
