-- The elements of a list that are kept.
--   none_passes          where no element passes a test, none does
--   kept-in              a kept element is one of the list
--   kept_or              what stands against an element that is not kept
--   kept-minimal         no leading monomial of the list properly divides that of a kept element
--   kept-differ          no two kept elements have one leading monomial
use Rattle.std.proofs.Common.{◌≡◌, ◌⊎◌, ℕ, zero, suc, ◌<◌, Bool, true, false, not, cond, ◌&&◌, List, [], ◌∷◌, ◌++◌, length, take, get_or, refl, sym, ◌∙◌, ap, subst, inl, inr, arith, true≢false}
use Rattle.std.specs.List.{list_any}
use Rattle.std.specs.declared.cmp.Ordering.{Ordering}
use Rattle.std.proofs.lemmas.Bool.Decides.{nat_tests}
use Rattle.std.proofs.lemmas.List.{append_assoc, append-nil}
use Rattle.rinv_algebra.specs.Ring.{RingOps}
use Rattle.rinv_algebra.specs.Polynomial.{Polynomial}
use Rattle.rinv_groebner.specs.Reduced.{same_lead, properly_divides, is_kept, kept_after}
use Rattle.rinv_groebner.proofs.Ascending.{Has, split, has_at}

-- ---- lists

-- where no element passes a test, none does
pub none_passes : {X : Type 0} (test : X → Bool) (xs : List X) {x : X} → Has x xs → list_any test xs ≡ false → test x ≡ false
none_passes test [] h e = elim h [ ]
none_passes test (x ∷ xs) Has.first e = grind (arith, nat_tests, e)
none_passes test (x ∷ xs) (Has.later h) e = let rest : list_any test xs ≡ false = grind (arith, nat_tests, e) in none_passes test xs h rest

pub has-append : {X : Type 0} {x : X} (xs ys : List X) → Has x ys → Has x (xs ++ ys)
has-append [] ys h = h
has-append (x ∷ xs) ys h = Has.later (has-append xs ys h)

none_before : {X : Type 0} (test : X → Bool) (xs ys : List X) → list_any test (xs ++ ys) ≡ false → list_any test xs ≡ false
none_before test [] ys e = refl
none_before test (x ∷ xs) ys e =
    let rest : list_any test (xs ++ ys) ≡ false = grind (arith, nat_tests, e) in
    let first : test x ≡ false = grind (arith, nat_tests, e) in
    let again = none_before test xs ys rest in
    grind (arith, nat_tests, first, again)

module _ {E : Type 0} (o : RingOps E) (cmp : List ℕ → List ℕ → Ordering) (all : List (Polynomial E)) where
  -- a kept element is one of the list
  pub kept-in : (earlier hs : List (Polynomial E)) {g : Polynomial E} → Has g (kept_after o cmp all earlier hs) → Has g hs
  unfolding kept_after
  kept-in earlier [] h = h
  kept-in earlier (x ∷ hs) {g} h = go (is_kept o cmp all earlier x) h (λ k. Has.later (kept-in (earlier ++ x ∷ []) hs k))
    where
      go : (b : Bool) → Has g (cond b (x ∷ kept_after o cmp all (earlier ++ x ∷ []) hs) (kept_after o cmp all (earlier ++ x ∷ []) hs)) → (Has g (kept_after o cmp all (earlier ++ x ∷ []) hs) → Has g (x ∷ hs)) → Has g (x ∷ hs)
      go true m again = elim (split m) [ inl e ↦ subst (λ y. Has y (x ∷ hs)) (sym e) Has.first | inr k ↦ again k ]
      go false m again = again m

  -- and was kept by the test, after the earlier elements and some of the list
  kept-passes : (earlier hs : List (Polynomial E)) {g : Polynomial E} → Has g (kept_after o cmp all earlier hs) → (between : List (Polynomial E)) × (is_kept o cmp all (earlier ++ between) g ≡ true)
  unfolding kept_after
  kept-passes earlier [] h = elim h [ ]
  kept-passes earlier (x ∷ hs) {g} h = go (is_kept o cmp all earlier x) refl h (λ k. kept-passes (earlier ++ x ∷ []) hs k)
    where
      more : (between : List (Polynomial E)) × (is_kept o cmp all (earlier ++ x ∷ [] ++ between) g ≡ true) → (between : List (Polynomial E)) × (is_kept o cmp all (earlier ++ between) g ≡ true)
      more (between, e) = (x ∷ between, ap (λ (ys : List (Polynomial E)). is_kept o cmp all ys g) (sym (append_assoc earlier (x ∷ []) between)) ∙ e)

      go : (b : Bool) → is_kept o cmp all earlier x ≡ b → Has g (cond b (x ∷ kept_after o cmp all (earlier ++ x ∷ []) hs) (kept_after o cmp all (earlier ++ x ∷ []) hs))
          → (Has g (kept_after o cmp all (earlier ++ x ∷ []) hs) → (between : List (Polynomial E)) × (is_kept o cmp all (earlier ++ x ∷ [] ++ between) g ≡ true)) → (between : List (Polynomial E)) × (is_kept o cmp all (earlier ++ between) g ≡ true)
      go true e m again = elim (split m) [
        | inl i ↦ ([], ap (λ (ys : List (Polynomial E)). is_kept o cmp all ys g) (append-nil earlier) ∙ ap (is_kept o cmp all earlier) i ∙ e)
        | inr k ↦ more (again k)
      ]
      go false e m again = more (again m)

  -- an element is kept, or another leading monomial properly divides its own, or an earlier element has the same one
  pub kept_or : (earlier hs : List (Polynomial E)) (i : ℕ) → i < length hs
      → Has (get_or hs i []) (kept_after o cmp all earlier hs) ⊎ (list_any (λ g. properly_divides o cmp g (get_or hs i [])) all ≡ true) ⊎ (list_any (λ g. same_lead o cmp g (get_or hs i [])) (earlier ++ take i hs) ≡ true)
  unfolding kept_after
  kept_or earlier [] i inside = absurd (omega arith)
  kept_or earlier (x ∷ hs) zero inside = go (is_kept o cmp all earlier x) refl
    where
      why : (p q : Bool) → (not p && not q) ≡ false → (p ≡ true) ⊎ (q ≡ true)
      why true q e = inl refl
      why false true e = inr refl
      why false false e = absurd (true≢false e)

      go : (b : Bool) → is_kept o cmp all earlier x ≡ b → Has x (cond b (x ∷ kept_after o cmp all (earlier ++ x ∷ []) hs) (kept_after o cmp all (earlier ++ x ∷ []) hs)) ⊎ (list_any (λ g. properly_divides o cmp g x) all ≡ true) ⊎ (list_any (λ g. same_lead o cmp g x) (earlier ++ []) ≡ true)
      go true e = inl Has.first
      go false e = elim (why (list_any (λ g. properly_divides o cmp g x) all) (list_any (λ g. same_lead o cmp g x) earlier) e) [ inl p ↦ inr (inl p) | inr q ↦ inr (inr (ap (list_any (λ g. same_lead o cmp g x)) (append-nil earlier) ∙ q)) ]
  kept_or earlier (x ∷ hs) (suc i) inside = go (is_kept o cmp all earlier x) (kept_or (earlier ++ x ∷ []) hs i (omega (arith, inside)))
    where
      g : Polynomial E
      g = get_or hs i []

      go : (b : Bool) → Has (get_or hs i []) (kept_after o cmp all (earlier ++ x ∷ []) hs) ⊎ (list_any (λ g. properly_divides o cmp g (get_or hs i [])) all ≡ true) ⊎ (list_any (λ g. same_lead o cmp g (get_or hs i [])) (earlier ++ x ∷ [] ++ take i hs) ≡ true)
          → Has (get_or hs i []) (cond b (x ∷ kept_after o cmp all (earlier ++ x ∷ []) hs) (kept_after o cmp all (earlier ++ x ∷ []) hs)) ⊎ (list_any (λ g. properly_divides o cmp g (get_or hs i [])) all ≡ true) ⊎ (list_any (λ g. same_lead o cmp g (get_or hs i [])) (earlier ++ x ∷ take i hs) ≡ true)
      go true (inl h) = inl (Has.later h)
      go false (inl h) = inl h
      go b (inr (inl p)) = inr (inl p)
      go b (inr (inr q)) = inr (inr (ap (list_any (λ g. same_lead o cmp g (get_or hs i []))) (sym (append_assoc earlier (x ∷ []) (take i hs))) ∙ q))

  -- no leading monomial of the whole list properly divides that of a kept element, and no earlier one is the same
  pub kept-minimal : (earlier hs : List (Polynomial E)) {g : Polynomial E} → Has g (kept_after o cmp all earlier hs) → list_any (λ h. properly_divides o cmp h g) all ≡ false
  kept-minimal earlier hs {g} h = let (between, e) = kept-passes earlier hs h in left (list_any (λ h. properly_divides o cmp h g) all) (list_any (λ h. same_lead o cmp h g) (earlier ++ between)) e
    where
      left : (p q : Bool) → (not p && not q) ≡ true → p ≡ false
      left false q e = refl
      left true q e = absurd (true≢false (sym e))

  kept-new : (earlier hs : List (Polynomial E)) {g : Polynomial E} → Has g (kept_after o cmp all earlier hs) → list_any (λ h. same_lead o cmp h g) earlier ≡ false
  kept-new earlier hs {g} h = let (between, e) = kept-passes earlier hs h in none_before (λ h. same_lead o cmp h g) earlier between (right (list_any (λ h. properly_divides o cmp h g) all) (list_any (λ h. same_lead o cmp h g) (earlier ++ between)) e)
    where
      right : (p q : Bool) → (not p && not q) ≡ true → q ≡ false
      right false false e = refl
      right false true e = absurd (true≢false (sym e))
      right true q e = absurd (true≢false (sym e))

  -- two kept elements have different leading monomials
  pub kept-differ : (earlier hs : List (Polynomial E)) (i j : ℕ) → i < j → j < length (kept_after o cmp all earlier hs) → same_lead o cmp (get_or (kept_after o cmp all earlier hs) i []) (get_or (kept_after o cmp all earlier hs) j []) ≡ false
  unfolding kept_after
  kept-differ earlier [] i j below inside = absurd (omega arith)
  kept-differ earlier (x ∷ hs) i j below inside = go (is_kept o cmp all earlier x) i j below inside (λ i j below inside. kept-differ (earlier ++ x ∷ []) hs i j below inside)
    where
      later_ones : List (Polynomial E)
      later_ones = kept_after o cmp all (earlier ++ x ∷ []) hs

      go : (b : Bool) (i j : ℕ) → i < j → j < length (cond b (x ∷ later_ones) later_ones) → ((i j : ℕ) → i < j → j < length later_ones → same_lead o cmp (get_or later_ones i []) (get_or later_ones j []) ≡ false)
          → same_lead o cmp (get_or (cond b (x ∷ later_ones) later_ones) i []) (get_or (cond b (x ∷ later_ones) later_ones) j []) ≡ false
      go false i j below inside again = again i j below inside
      go true i zero below inside again = absurd (omega arith)
      go true zero (suc j) below inside again = none_passes (λ h. same_lead o cmp h (get_or later_ones j [])) (earlier ++ x ∷ []) (has-append earlier (x ∷ []) Has.first) (kept-new (earlier ++ x ∷ []) hs (has_at [] later_ones j (omega (arith, inside))))
      go true (suc i) (suc j) below inside again = again i j (omega (arith, below)) (omega (arith, inside))
