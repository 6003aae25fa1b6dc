-- A change of one run and its row: what it leaves, and the terms that the rows then have.
use Rattle.std.proofs.Common.{◌≡◌, ◌≢◌, ℕ, zero, suc, ◌+◌, ◌<◌, ◌==◌, true, false, if◌then◌else◌, List, [], ◌∷◌, ◌++◌, set, map, length, get_or, Option, Some, None, refl, sym, ap, ap₂, ◌∙◌, subst, arith, inl, inr}
use Rattle.std.specs.Bool.{⊤}
use Rattle.std.proofs.lemmas.Bool.{cases_eq}
use Rattle.std.proofs.lemmas.Bool.Decides.{nat_tests}
use Rattle.std.proofs.lemmas.List.{get_or-set_same, get_or-set_other, length-set, length_push}
use Rattle.rinv_pool.specs.declared.slots.Chain.{Chain}
use Rattle.rinv_pool.specs.Pools.{Pool, Changes, held, runs_in, runs_in_use, terms_in, used}
use Rattle.rinv_pool.specs.Chains.{IsRow, row_of, terms_from}
use Rattle.rinv_pool.proofs.Chains.{Stays, chain-stays, terms-chain}

-- a function with another value at one place
abbrev pub updated : {A : Type 0} → (ℕ → A) → ℕ → A → ℕ → A
updated f place x at = if at == place then x else f at

pub updated-same : {A : Type 0} (f : ℕ → A) (place : ℕ) (x : A) → updated f place x place ≡ x
updated-same f place x = let e : (place == place) ≡ true = grind (arith, nat_tests) in rw e refl

pub updated-other : {A : Type 0} (f : ℕ → A) (place : ℕ) (x : A) (at : ℕ) → at ≢ place → updated f place x at ≡ f at
updated-other f place x at other = let e : (at == place) ≡ false = grind (arith, nat_tests, other) in rw e refl

-- one more at the end of a list
pub push-here : {A : Type 0} (xs : List (Option A)) (x : Option A) → get_or (xs ++ x ∷ []) (length xs) None ≡ x
push-here [] x = refl
push-here (y ∷ xs) x = push-here xs x

pub push-others : {A : Type 0} (xs : List (Option A)) (x : Option A) (k : ℕ) → k ≢ length xs → get_or (xs ++ x ∷ []) k None ≡ get_or xs k None
push-others [] x zero other = absurd (other refl)
push-others [] x (suc k) other = refl
push-others (y ∷ xs) x zero other = refl
push-others (y ∷ xs) x (suc k) other = push-others xs x k (λ e. other (ap suc e))

module _ {T : Type 0} where
  -- one run has another chain, and another row
  pub record Change (runs runs' : List (Option Chain)) (rows rows' : List (Option (List T))) (r : ℕ) (run : Option Chain) (row : Option (List T)) : Type 0 where
    pub run_here : get_or runs' r None ≡ run
    pub run_others : (k : ℕ) → k ≢ r → get_or runs' k None ≡ get_or runs k None
    pub row_here : get_or rows' r None ≡ row
    pub row_others : (k : ℕ) → k ≢ r → get_or rows' k None ≡ get_or rows k None
    pub numbers : length rows' ≡ length runs'
    pub total : held rows' + length (terms_in (get_or rows r None)) ≡ held rows + length (terms_in row)
    pub in_use : used rows' + runs_in (get_or rows r None) ≡ used rows + runs_in row

  pub held-set : (rows : List (Option (List T))) (r : ℕ) (row : Option (List T)) → r < length rows
      → held (set rows r row) + length (terms_in (get_or rows r None)) ≡ held rows + length (terms_in row)
  held-set [] r row inside = absurd (omega (arith, inside))
  held-set (x ∷ rows) zero row inside = omega arith
  held-set (x ∷ rows) (suc r) row inside = omega (arith, held-set rows r row (omega (arith, inside)))

  pub held-push : (rows : List (Option (List T))) (row : Option (List T)) → held (rows ++ row ∷ []) ≡ held rows + length (terms_in row)
  held-push [] row = omega arith
  held-push (x ∷ rows) row = omega (arith, held-push rows row)

  used-one : (x : Option (List T)) (rows : List (Option (List T))) → used (x ∷ rows) ≡ runs_in x + used rows
  used-one None rows = omega arith
  used-one (Some ts) rows = omega arith

  pub used-set : (rows : List (Option (List T))) (r : ℕ) (row : Option (List T)) → r < length rows
      → used (set rows r row) + runs_in (get_or rows r None) ≡ used rows + runs_in row
  used-set [] r row inside = absurd (omega (arith, inside))
  used-set (x ∷ rows) zero row inside = omega (arith, used-one x rows, used-one row rows)
  used-set (x ∷ rows) (suc r) row inside =
      omega (arith, used-one x rows, used-one x (set rows r row), used-set rows r row (omega (arith, inside)))

  pub used-push : (rows : List (Option (List T))) (row : Option (List T)) → used (rows ++ row ∷ []) ≡ used rows + runs_in row
  used-push [] row = let e : used (row ∷ []) ≡ runs_in row + used {A = List T} [] = used-one row [] in omega (arith, e)
  used-push (x ∷ rows) row = omega (arith, used-one x rows, used-one x (rows ++ row ∷ []), used-push rows row)

  past-end : (rows : List (Option (List T))) → get_or rows (length rows) None ≡ None
  past-end [] = refl
  past-end (x ∷ rows) = past-end rows

  -- the run's place is written
  pub change-set : (runs : List (Option Chain)) (rows : List (Option (List T))) (r : ℕ) (run : Option Chain) (row : Option (List T))
      → length rows ≡ length runs → r < length runs → Change runs (set runs r run) rows (set rows r row) r run row
  change-set runs rows r run row same inside =
      let within : r < length rows = omega (arith, same, inside) in record {
        run_here = get_or-set_same runs r run None inside;
        run_others = λ k other. get_or-set_other runs r k run None other;
        row_here = get_or-set_same rows r row None within;
        row_others = λ k other. get_or-set_other rows r k row None other;
        numbers = length-set rows r row ∙ same ∙ sym (length-set runs r run);
        total = held-set rows r row within;
        in_use = used-set rows r row within;
      }

  -- a place is added
  pub change-push : (runs : List (Option Chain)) (rows : List (Option (List T))) (run : Option Chain) (row : Option (List T))
      → length rows ≡ length runs → Change runs (runs ++ run ∷ []) rows (rows ++ row ∷ []) (length runs) run row
  change-push runs rows run row same = record {
    run_here = push-here runs run;
    run_others = λ k other. push-others runs run k other;
    row_here = subst (λ n. get_or (rows ++ row ∷ []) n None ≡ row) same (push-here rows row);
    row_others = λ k other. push-others rows row k (λ e. other (e ∙ same));
    numbers = length_push rows row ∙ ap (λ n. n + 1) same ∙ sym (length_push runs run);
    total = subst (λ n. held (rows ++ row ∷ []) + length (terms_in (get_or rows n None)) ≡ held rows + length (terms_in row)) same
        (rw (past-end rows) (let e : held (rows ++ row ∷ []) ≡ held rows + length (terms_in row) = held-push rows row in omega (arith, e)));
    in_use = subst (λ n. used (rows ++ row ∷ []) + runs_in (get_or rows n None) ≡ used rows + runs_in row) same
        (rw (past-end rows) (let e : used (rows ++ row ∷ []) ≡ used rows + runs_in row = used-push rows row in omega (arith, e)));
  }

  -- what holds of the changed run, and still of the others, holds of each
  pub at-each : (P : ℕ → Option Chain → Option (List T) → Type 0) (runs runs' : List (Option Chain)) (rows rows' : List (Option (List T))) (r : ℕ) (run : Option Chain) (row : Option (List T))
      → Change runs runs' rows rows' r run row → P r run row → ((k : ℕ) → k ≢ r → P k (get_or runs k None) (get_or rows k None))
      → (k : ℕ) → P k (get_or runs' k None) (get_or rows' k None)
  at-each P runs runs' rows rows' r run row change here others k = elim (cases_eq k r) [
    | inl same ↦ subst (λ (n : ℕ). P n (get_or runs' n None) (get_or rows' n None)) (sym same)
        (subst (λ (c : Option Chain). P r c (get_or rows' r None)) (sym change.run_here) (subst (λ (x : Option (List T)). P r run x) (sym change.row_here) here))
    | inr other ↦ subst (λ (c : Option Chain). P k c (get_or rows' k None)) (sym (change.run_others k other))
        (subst (λ (x : Option (List T)). P k (get_or runs k None) x) (sym (change.row_others k other)) (others k other))
  ]

  row-seen : (next : ℕ → ℕ) (term : ℕ → Option T) (size : ℕ) (owner rank : ℕ → ℕ) (number : ℕ) (run : Option Chain) (row : Option (List T))
      → IsRow next term size owner rank number run row → row_of next term run ≡ row
  row-seen next term size owner rank number None None h = refl
  row-seen next term size owner rank number None (Some ts) h = absurd h
  row-seen next term size owner rank number (Some c) None h = absurd h
  row-seen next term size owner rank number (Some c) (Some ts) h =
      ap Some (ap (λ (n : ℕ). terms_from next term n c.first) (sym h.0) ∙ terms-chain next term size owner rank (λ p. p ≡ c.last) (suc number) c.first ts h.1)

  -- a row is that of the run with its number
  pub row-get : (next : ℕ → ℕ) (term : ℕ → Option T) (runs : List (Option Chain)) (r : ℕ) → get_or (map (row_of next term) runs) r None ≡ row_of next term (get_or runs r None)
  row-get next term [] r = refl
  row-get next term (c ∷ runs) zero = refl
  row-get next term (c ∷ runs) (suc r) = row-get next term runs r

  -- there are as many rows as runs
  pub rows-number : (next : ℕ → ℕ) (term : ℕ → Option T) (runs : List (Option Chain)) → length (map (row_of next term) runs) ≡ length runs
  rows-number next term [] = refl
  rows-number next term (c ∷ runs) = ap suc (rows-number next term runs)

  -- the rows are what the chains show
  pub rows-seen : (next : ℕ → ℕ) (term : ℕ → Option T) (size : ℕ) (owner rank : ℕ → ℕ) (f : ℕ → ℕ) (runs : List (Option Chain)) (rows : List (Option (List T)))
      → length rows ≡ length runs → ((k : ℕ) → IsRow next term size owner rank (f k) (get_or runs k None) (get_or rows k None)) → map (row_of next term) runs ≡ rows
  rows-seen next term size owner rank f [] [] same h = refl
  rows-seen next term size owner rank f [] (x ∷ rows) same h = absurd (omega (arith, same))
  rows-seen next term size owner rank f (c ∷ runs) [] same h = absurd (omega (arith, same))
  rows-seen next term size owner rank f (c ∷ runs) (x ∷ rows) same h =
      ap₂ (λ (a : Option (List T)) (rest : List (Option (List T))). a ∷ rest) (row-seen next term size owner rank (f 0) c x (h 0))
      (rows-seen next term size owner rank (λ k. f (suc k)) runs rows (omega (arith, same)) (λ k. h (suc k)))

  -- a run whose slots stay keeps its row
  pub row-stays : (size size' : ℕ) (next next' : ℕ → ℕ) (term term' : ℕ → Option T) (owner owner' rank rank' : ℕ → ℕ) (number : ℕ) (run : Option Chain) (row : Option (List T))
      → ((q : ℕ) → q < size → q < size')
      → ((q : ℕ) → q < size → owner q ≡ suc number → Stays size next next' term term' owner owner' rank rank' q)
      → IsRow next term size owner rank number run row → IsRow next' term' size' owner' rank' number run row
  row-stays size size' next next' term term' owner owner' rank rank' number None None bound same h = tt
  row-stays size size' next next' term term' owner owner' rank rank' number None (Some ts) bound same h = absurd h
  row-stays size size' next next' term term' owner owner' rank rank' number (Some c) None bound same h = absurd h
  row-stays size size' next next' term term' owner owner' rank rank' number (Some c) (Some ts) bound same h =
      (h.0, chain-stays size next next' term term' owner owner' rank rank' size' (λ p. p ≡ c.last) (suc number) c.first (map Some ts) bound (λ q i o l. same q i o) h.1)

  -- the contract's change of a row
  pub row-changes : (before after : Pool T) (runs runs' : List (Option Chain)) (rows : List (Option (List T))) (r : ℕ) (run : Option Chain) (row : Option (List T))
      → after.rows ≡ rows → Change runs runs' before.rows rows r run row → Changes before after r row
  row-changes before after runs runs' rows r run row e change = record {
    changed = ap (λ (xs : List (Option (List T))). get_or xs r None) e ∙ change.row_here;
    others = λ k other. ap (λ (xs : List (Option (List T))). get_or xs k None) e ∙ change.row_others k (λ s. absurd (grind (arith, nat_tests, s, other)));
    in_use = subst (λ (xs : List (Option (List T))). used xs + runs_in (get_or before.rows r None) ≡ runs_in_use before + runs_in row) (sym e) change.in_use;
  }
