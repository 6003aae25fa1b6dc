-- Which elements are kept, place by place.
--   stands_against       whether the monomial at a place stands against another being kept
--   kept-none, kept-all  a place is kept where no place stands against it
--   places-more, place-kept, place-past    the places that pass a test, one more
--   kept_place-is        the monomial's place is kept where the element is
--   places-end, kept-at_places, kept_places-inside    the kept places, once all are passed, and the elements there
--   elements-more        the elements at the first places, one more
use Rattle.std.proofs.Common.{◌≡◌, ℕ, zero, suc, ◌<◌, ◌≤◌, ◌+◌, Bool, true, false, not, ◌&&◌, ◌||◌, List, [], ◌∷◌, ◌++◌, length, map, take, drop, get_or, refl, sym, ◌∙◌, ap, ap₂, cond, subst, subst₂, All, filter, ◌⊎◌, inl, inr, arith, true≢false}
use Rattle.std.specs.Prelude.{nat_lt}
use Rattle.std.specs.List.{list_any, range_with_len}
use Rattle.std.specs.declared.cmp.Ordering.{Ordering}
use Rattle.std.proofs.lemmas.Bool.{cases_Bool}
use Rattle.std.proofs.lemmas.Bool.Decides.{nat_tests}
use Rattle.std.proofs.lemmas.List.{take-map, take_more, drop_more, get_or-map, get_or-take, length-take, length-map, map-append, append_assoc, append-nil, drop_all}
use Rattle.std.proofs.lemmas.List.FromFn.{filter_of_map_range_with_len_more, get_or-range_with_len, length-range_with_len}
use Rattle.std.proofs.lemmas.List.Elements.{All-from_get_or, All-filter}
use Rattle.std.proofs.lemmas.List.Folds.{list_any_none, list_any_at}
use Rattle.rinv_algebra.specs.Ring.{RingOps}
use Rattle.rinv_algebra.specs.Monomial.{divides, same_monomial}
use Rattle.rinv_algebra.specs.Polynomial.{Polynomial}
use Rattle.rinv_algebra.specs.Leading.{leading_monomial}
use Rattle.rinv_algebra.proofs.MonomialLaws.{same_at, same_from, same_monomial_sym}
use Rattle.rinv_algebra.proofs.Same.{and_true}
use Rattle.rinv_groebner.specs.Reduced.{is_kept, kept, kept_after}
use Rattle.rinv_groebner.proofs.MonomialLists.{divides_at, divides_from}
use Rattle.rinv_buch.specs.Reducing.{is_kept_place, kept_places}

-- two monomials are one where each divides the other
same-both : (a b : List ℕ) → divides a b ≡ true → divides b a ≡ true → same_monomial a b ≡ true
same-both a b p q = same_from a b (λ k. let x = divides_at a b p k in let y = divides_at b a q k in omega (arith, x, y))

divides-same : (a b : List ℕ) → same_monomial a b ≡ true → divides a b ≡ true
divides-same a b s = divides_from a b (λ k. let x = same_at a b s k in omega (arith, x))

-- whether the monomial at k stands against keeping the one at the place: it divides that, and is earlier or another
abbrev pub stands_against : List (List ℕ) → ℕ → ℕ → Bool
stands_against ms place k = divides (get_or ms k []) (get_or ms place []) && (nat_lt k place || not (divides (get_or ms place []) (get_or ms k [])))

first-off : (d e r s : Bool) → (d && (e || not r)) ≡ false → (d ≡ true → r ≡ true → s ≡ true) → (d && not s) ≡ false
first-off false e r s h u = refl
first-off true e r true h u = refl
first-off true e true false h u = sym (u refl refl)
first-off true true false false h u = h
first-off true false false false h u = h

second-off : (d e r s : Bool) → (d && (e || not r)) ≡ false → e ≡ true → (s ≡ true → d ≡ true) → s ≡ false
second-off d e r false h t u = refl
second-off false e r true h t u = sym (u refl)
second-off true true r true h t u = h
second-off true false r true h t u = sym t

second-on : (d e r : Bool) → (d && (e || not r)) ≡ true → r ≡ true → (d ≡ true) × (e ≡ true)
second-on false e r h t = absurd (true≢false (sym h))
second-on true true r h t = (refl, refl)
second-on true false true h t = absurd (true≢false (sym h))
second-on true false false h t = absurd (true≢false (sym t))

first-on : (d e r s : Bool) → (d && (e || not r)) ≡ true → s ≡ false → (d && not s) ≡ true
first-on d e r true h t = absurd (true≢false t)
first-on true e r false h t = refl
first-on false e r false h t = h

off-first : (a b : Bool) → a ≡ true → (not a && not b) ≡ false
off-first true b e = refl
off-first false b e = absurd (true≢false (sym e))

off-second : (a b : Bool) → b ≡ true → (not a && not b) ≡ false
off-second true b e = refl
off-second false true e = refl
off-second false false e = sym e

module _ (ms : List (List ℕ)) (place : ℕ) where
  abbrev mono : List ℕ
  mono = get_or ms place []

  abbrev properly : List ℕ → Bool
  properly m = divides m mono && not (same_monomial m mono)

  abbrev again : List ℕ → Bool
  again m = same_monomial m mono

  -- where a place stands against it, it is not kept
  pub kept-none : (k : ℕ) → k < length ms → stands_against ms place k ≡ true → is_kept_place ms place ≡ false
  kept-none k low e = elim (cases_Bool (again m)) [
    | inl same ↦
        let on = second-on (divides m mono) (nat_lt k place) (divides mono m) e (divides-same mono m (same_monomial_sym m mono same)) in
        let early : k < place = grind (arith, nat_tests, on.1) in
        let short = length-take place ms in
        off-second (list_any properly ms) _ (list_any_at again (take place ms) k [] (omega (arith, early, low, short)) (ap again (get_or-take place ms k [] early) ∙ same))
    | inr other ↦ off-first _ (list_any again (take place ms)) (list_any_at properly ms k [] low (first-on (divides m mono) (nat_lt k place) (divides mono m) (again m) e other))
  ]
    where
      m : List ℕ
      m = get_or ms k []

  -- where none does, it is
  pub kept-all : ((k : ℕ) → k < length ms → stands_against ms place k ≡ false) → is_kept_place ms place ≡ true
  kept-all none = rw (first, second) refl
    where
      first : list_any properly ms ≡ false
      first = list_any_none properly ms (All-from_get_or (λ m. properly m ≡ false) ms [] (λ k low.
          first-off (divides (get_or ms k []) mono) (nat_lt k place) (divides mono (get_or ms k [])) (again (get_or ms k [])) (none k low) (same-both (get_or ms k []) mono)))

      second : list_any again (take place ms) ≡ false
      second = list_any_none again (take place ms) (All-from_get_or (λ m. again m ≡ false) (take place ms) [] (λ k low.
          let short = length-take place ms in
          let early : k < place = omega (arith, low, short) in
          ap again (get_or-take place ms k [] early)
          ∙ second-off (divides (get_or ms k []) mono) (nat_lt k place) (divides mono (get_or ms k [])) (again (get_or ms k [])) (none k (omega (arith, low, short))) (grind (arith, nat_tests, early)) (divides-same (get_or ms k []) mono)))

-- a place stands against another by the tests on the two monomials
pub against : (ms : List (List ℕ)) (place k : ℕ) (m p : List ℕ) → m ≡ get_or ms k [] → p ≡ get_or ms place [] → divides m p ≡ true → (nat_lt k place ≡ true) ⊎ (not (divides p m) ≡ true) → stands_against ms place k ≡ true
against ms place k m p e f d why = subst₂ (λ (m p : List ℕ). (divides m p && (nat_lt k place || not (divides p m))) ≡ true) e f (and_true (divides m p) _ d (elim why [ inl early ↦ rw early refl | inr other ↦ or_second (nat_lt k place) (not (divides p m)) other ]))
  where
    or_second : (a b : Bool) → b ≡ true → (a || b) ≡ true
    or_second true b e = refl
    or_second false b e = e

list_any-mapped : {X Y : Type 0} (test : Y → Bool) (f : X → Y) (xs : List X) → list_any test (map f xs) ≡ list_any (λ x. test (f x)) xs
list_any-mapped test f [] = refl
list_any-mapped test f (x ∷ xs) = ap (λ b. test (f x) || b) (list_any-mapped test f xs)

itself : {X : Type 0} (xs : List X) → map (λ x. x) xs ≡ xs
itself [] = refl
itself (x ∷ xs) = ap (λ ys. x ∷ ys) (itself xs)

-- the places that pass a test, one more
pub places-more : (test : ℕ → Bool) (k : ℕ) → filter test (range_with_len 0 (k + 1)) ≡ filter test (range_with_len 0 k) ++ cond (test k) (k ∷ []) []
places-more test k =
    ap (filter test) (sym (itself (range_with_len 0 (k + 1)))) ∙ filter_of_map_range_with_len_more test (λ x. x) 0 k k (omega arith) ∙ ap (λ (ks : List ℕ). filter test ks ++ cond (test k) (k ∷ []) []) (itself (range_with_len 0 k))

module _ (test : ℕ → Bool) (k : ℕ) (places : List ℕ) (so_far : places ≡ filter test (range_with_len 0 k)) where
  -- where it passes
  pub place-kept : test k ≡ true → places ++ k ∷ [] ≡ filter test (range_with_len 0 (k + 1))
  place-kept on = ap₂ (λ (ks : List ℕ) (b : Bool). ks ++ cond b (k ∷ []) []) so_far (sym on) ∙ sym (places-more test k)

  -- and where it does not
  pub place-past : test k ≡ false → places ≡ filter test (range_with_len 0 (k + 1))
  place-past off = sym (append-nil places) ∙ ap₂ (λ (ks : List ℕ) (b : Bool). ks ++ cond b (k ∷ []) []) so_far (sym off) ∙ sym (places-more test k)

range-inside : (n : ℕ) → All (λ k. k < n) (range_with_len 0 n)
range-inside n = All-from_get_or (λ k. k < n) (range_with_len 0 n) 0 (λ i low.
    let inside : i < n = omega (arith, low, length-range_with_len 0 n) in
    let e = get_or-range_with_len 0 n i 0 inside in
    omega (arith, inside, e))

map-cond : {X Y : Type 0} (f : X → Y) (b : Bool) (x : X) → map f (cond b (x ∷ []) []) ≡ cond b (f x ∷ []) []
map-cond f true x = refl
map-cond f false x = refl

cond-append : {X : Type 0} (b : Bool) (x : X) (xs : List X) → cond b (x ∷ xs) xs ≡ cond b (x ∷ []) [] ++ xs
cond-append true x xs = refl
cond-append false x xs = refl

-- the element at a place
abbrev pub element_at : {E : Type 0} → List (Polynomial E) → ℕ → Polynomial E
element_at hs k = get_or hs k []

module _ {E : Type 0} (o : RingOps E) (cmp : List ℕ → List ℕ → Ordering) (hs : List (Polynomial E)) where
  -- the monomial's place is kept where the element is
  pub kept_place-is : (k : ℕ) → k < length hs → is_kept_place (map (leading_monomial o cmp) hs) k ≡ is_kept o cmp hs (take k hs) (get_or hs k [])
  kept_place-is k inside =
      rw (get_or-map (leading_monomial o cmp) hs k [] [] inside, take-map (leading_monomial o cmp) k hs)
      (ap₂ (λ a b. not a && not b)
      (list_any-mapped (λ m. divides m (leading_monomial o cmp (get_or hs k [])) && not (same_monomial m (leading_monomial o cmp (get_or hs k [])))) (leading_monomial o cmp) hs)
      (list_any-mapped (λ m. same_monomial m (leading_monomial o cmp (get_or hs k []))) (leading_monomial o cmp) (take k hs)))

  abbrev element : ℕ → Polynomial E
  element = element_at hs

  abbrev test : ℕ → Bool
  test = is_kept_place (map (leading_monomial o cmp) hs)

  abbrev kept_from : ℕ → List (Polynomial E)
  kept_from k = kept_after o cmp hs (take k hs) (drop k hs)

  -- the kept elements from a place on, by the element there
  one_more : (k : ℕ) → k < length hs → kept_from k ≡ cond (test k) (element k ∷ []) [] ++ kept_from (k + 1)
  unfolding kept_after
  one_more k inside =
      ap (kept_after o cmp hs (take k hs)) (drop_more hs k [] inside)
      ∙ ap (λ (r : List (Polynomial E)). cond (is_kept o cmp hs (take k hs) (element k)) (element k ∷ kept_after o cmp hs r (drop (k + 1) hs)) (kept_after o cmp hs r (drop (k + 1) hs))) (sym (take_more hs k [] inside))
      ∙ ap (λ (b : Bool). cond b (element k ∷ kept_from (k + 1)) (kept_from (k + 1))) (sym (kept_place-is k inside)) ∙ cond-append (test k) (element k) (kept_from (k + 1))

  -- those at the kept places among the first k, and those from k on
  split-at : (k : ℕ) → k ≤ length hs → map element (filter test (range_with_len 0 k)) ++ kept_from k ≡ kept o cmp hs
  split-at zero low = refl
  split-at (suc k) low =
      let inside : k < length hs = omega (arith, low) in
      let next : k + 1 ≡ suc k = omega arith in
      let front = ap (map element) (places-more test k) ∙ map-append element (filter test (range_with_len 0 k)) (cond (test k) (k ∷ []) []) ∙ ap (λ (r : List (Polynomial E)). map element (filter test (range_with_len 0 k)) ++ r) (map-cond element (test k) k) in
      subst (λ (n : ℕ). map element (filter test (range_with_len 0 n)) ++ kept_from n ≡ kept o cmp hs) next
      (ap (λ (r : List (Polynomial E)). r ++ kept_from (k + 1)) front
      ∙ append_assoc (map element (filter test (range_with_len 0 k))) (cond (test k) (element k ∷ []) []) (kept_from (k + 1))
      ∙ ap (λ (r : List (Polynomial E)). map element (filter test (range_with_len 0 k)) ++ r) (sym (one_more k inside)) ∙ split-at k (omega (arith, low)))

  -- the kept places, once all are passed
  pub places-end : (places : List ℕ) (k : ℕ) → k ≡ length hs → places ≡ filter test (range_with_len 0 k) → places ≡ kept_places (map (leading_monomial o cmp) hs)
  places-end places k end so_far = so_far ∙ ap (λ (n : ℕ). filter test (range_with_len 0 n)) (end ∙ sym (length-map hs (leading_monomial o cmp)))

  -- the elements at the kept places are the kept elements
  pub kept-at_places : map element (kept_places (map (leading_monomial o cmp) hs)) ≡ kept o cmp hs
  unfolding kept_after
  kept-at_places =
      ap (λ (n : ℕ). map element (filter test (range_with_len 0 n))) (length-map hs (leading_monomial o cmp)) ∙ sym (append-nil (map element (filter test (range_with_len 0 (length hs)))))
      ∙ ap (λ (r : List (Polynomial E)). map element (filter test (range_with_len 0 (length hs))) ++ kept_after o cmp hs (take (length hs) hs) r) (sym (drop_all (length hs) hs (omega arith))) ∙ split-at (length hs) (omega arith)

  -- and are inside
  pub kept_places-inside : All (λ k. k < length hs) (kept_places (map (leading_monomial o cmp) hs))
  kept_places-inside = subst (λ (n : ℕ). All (λ k. k < n) (kept_places (map (leading_monomial o cmp) hs))) (length-map hs (leading_monomial o cmp)) (All-filter test (λ k. k < length (map (leading_monomial o cmp) hs)) (range_with_len 0 (length (map (leading_monomial o cmp) hs))) (range-inside (length (map (leading_monomial o cmp) hs))))

-- the elements at the first places, one more
pub elements-more : {E : Type 0} (hs : List (Polynomial E)) (places : List ℕ) (k place : ℕ) (h : Polynomial E) (before after : List (Polynomial E)) → k < length places → place ≡ get_or places k place → h ≡ element_at hs place
    → before ≡ map (element_at hs) (take k places) → after ≡ before ++ h ∷ [] → after ≡ map (element_at hs) (take (k + 1) places)
elements-more hs places k place h before after low is at so_far put =
    put ∙ ap₂ (λ (r : List (Polynomial _)) (x : Polynomial _). r ++ x ∷ []) so_far (at ∙ ap (element_at hs) is)
    ∙ sym (ap (map (element_at hs)) (take_more places k place low) ∙ map-append (element_at hs) (take k places) (get_or places k place ∷ []))
