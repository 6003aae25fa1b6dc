-- Counts of monomials fall where a test that passes less leaves one out: the measures of the loops.
--   count-less           the count of the monomials that pass a test
--   reaches-less         of those that a polynomial reaches, where all terms of the next are below some monomial that it reaches
--   undivided-less       of those that no monomial of a list divides, where one of them is added
use Rattle.std.proofs.Common.{◌≡◌, ℕ, zero, suc, ◌<◌, ◌≤◌, Bool, true, false, cond, List, [], ◌∷◌, ◌++◌, length, sum, refl, sym, ap, ◌∙◌, arith, subst, inl, inr, ◌⊎◌, IsTrue, true≢false}
use Rattle.std.specs.List.{list_all}
use Rattle.std.specs.Cmp.{IsTotalOrder}
use Rattle.std.specs.Ordering.{is_lt, is_ge, ordering_reverse}
use Rattle.std.proofs.lemmas.Cmp.{tied_itself}
use Rattle.std.specs.declared.cmp.Ordering.{Ordering}
use Rattle.std.specs.declared.cmp.Ordering.TheVariants.{Less, Equal, Greater}
use Rattle.std.proofs.lemmas.List.Sums.{sum_by-cons}
use Rattle.std.proofs.lemmas.List.Folds.{list_any-append}
use Rattle.std.proofs.lemmas.Bool.{cases_Bool, cases_order}
use Rattle.std.proofs.lemmas.Bool.Decides.{nat_tests}
use Rattle.rinv_algebra.specs.Monomial.{divides}
use Rattle.rinv_algebra.specs.Polynomial.{Polynomial}
use Rattle.rinv_algebra.proofs.Same.{both}
use Rattle.rinv_groebner.specs.Count.{sum_to, count, reaches, is_undivided}
use Rattle.rinv_groebner.proofs.Greatest.{not_less, ge-not_less}
use Rattle.rinv_groebner.proofs.MonomialLists.{divides_from}

sum_to-le : (d : ℕ) (f g : ℕ → ℕ) → ((k : ℕ) → f k ≤ g k) → sum_to d f ≤ sum_to d g
unfolding sum_to
sum_to-le zero f g h = h zero
sum_to-le (suc d) f g h = let a = sum_to-le d f g h in let b = h (suc d) in omega arith

sum_to-less : (d : ℕ) (f g : ℕ → ℕ) (x : ℕ) → ((k : ℕ) → f k ≤ g k) → x ≤ d → f x < g x → sum_to d f < sum_to d g
unfolding sum_to
sum_to-less zero f g x h low less = let e : x ≡ 0 = omega arith in subst (λ (k : ℕ). f k < g k) e less
sum_to-less (suc d) f g x h low less = elim (cases_order x (suc d)) [
  | inl same ↦ let a = sum_to-le d f g h in let b : f (suc d) < g (suc d) = subst (λ (k : ℕ). f k < g k) same less in omega arith
  | inr (inl below) ↦ let a = sum_to-less d f g x h (omega arith) less in let b = h (suc d) in omega arith
  | inr (inr above) ↦ absurd (omega arith)
]

cond-le : (a b : Bool) → (a ≡ true → b ≡ true) → cond a 1 0 ≤ cond b 1 0
cond-le true true h = omega arith
cond-le true false h = absurd (true≢false (sym (h refl)))
cond-le false b h = omega arith

count-le : (v d : ℕ) (p q : List ℕ → Bool) → ((e : List ℕ) → p e ≡ true → q e ≡ true) → count v d p ≤ count v d q
unfolding count
count-le zero d p q h = cond-le (p []) (q []) (h [])
count-le (suc v) d p q h = sum_to-le d (λ k. count v d (λ e. p (k ∷ e))) (λ k. count v d (λ e. q (k ∷ e))) (λ k. count-le v d (λ e. p (k ∷ e)) (λ e. q (k ∷ e)) (λ e. h (k ∷ e)))

-- the monomial m passes the second test and not the first
pub count-less : (v d : ℕ) (p q : List ℕ → Bool) (m : List ℕ) → ((e : List ℕ) → p e ≡ true → q e ≡ true) → length m ≡ v → sum m ≤ d → p m ≡ false → q m ≡ true → count v d p < count v d q
unfolding count
count-less zero d p q [] h len low off on = rw (off, on) (omega arith)
count-less zero d p q (x ∷ m) h len low off on = absurd (omega arith)
count-less (suc v) d p q [] h len low off on = absurd (omega arith)
count-less (suc v) d p q (x ∷ m) h len low off on =
    let s = sum_by-cons (λ (k : ℕ). k) x m in
    sum_to-less d (λ k. count v d (λ e. p (k ∷ e))) (λ k. count v d (λ e. q (k ∷ e))) x
    (λ k. count-le v d (λ e. p (k ∷ e)) (λ e. q (k ∷ e)) (λ e. h (k ∷ e)))
    (omega arith)
    (count-less v d (λ e. p (x ∷ e)) (λ e. q (x ∷ e)) m (λ e. h (x ∷ e)) (omega arith) (omega arith) off on)

-- what tests as less is less
pub is-less : (c : Ordering) → is_lt c ≡ true → c ≡ Less
is-less Less e = refl
is-less Equal e = absurd (true≢false (sym e))
is-less Greater e = absurd (true≢false (sym e))

module _ {E : Type 0} (cmp : List ℕ → List ℕ → Ordering) (total : IsTotalOrder cmp) where
  -- what is up to a monomial below m is not above m
  reaches_less : (f : Polynomial E) (m e : List ℕ) → IsTrue (list_all (λ t. is_lt (cmp t.0 m)) f) → reaches cmp f e ≡ true → cmp e m ≡ Less
  reaches_less [] m e low h = absurd (true≢false (sym h))
  reaches_less (t ∷ f) m e low h = elim (cases_Bool (is_ge (cmp t.0 e))) [
    | inl up ↦ below (cmp e t.0) refl (is-less _ (both (is_lt (cmp t.0 m)) _ low).0) up
    | inr off ↦ reaches_less f m e (both (is_lt (cmp t.0 m)) _ low).1 (grind (arith, nat_tests, off, h))
  ]
    where
      below : (c : Ordering) → cmp e t.0 ≡ c → cmp t.0 m ≡ Less → IsTrue (is_ge (cmp t.0 e)) → cmp e m ≡ Less
      below Less i low up = total.trans e t.0 m i low
      below Equal i low up = total.congr e t.0 m i ∙ low
      below Greater i low up = absurd (ge-not_less cmp total t.0 e up (total.antisymm t.0 e ∙ ap ordering_reverse i))

  reaches_up : (f : Polynomial E) (m e : List ℕ) → cmp e m ≡ Less → reaches cmp f m ≡ true → reaches cmp f e ≡ true
  reaches_up [] m e low h = h
  reaches_up (t ∷ f) m e low h = elim (cases_Bool (is_ge (cmp t.0 m))) [
    | inl up ↦
        let over : is_ge (cmp t.0 e) ≡ true = not_less cmp total t.0 e (λ less. ge-not_less cmp total t.0 m up (total.trans t.0 e m less low)) in
        grind (arith, nat_tests, over)
    | inr off ↦ let rest = reaches_up f m e low (grind (arith, nat_tests, off, h)) in grind (arith, nat_tests, rest)
  ]

  -- where all terms of g are below a monomial that f reaches, g reaches fewer
  pub reaches-less : (v d : ℕ) (f g : Polynomial E) (m : List ℕ) → length m ≡ v → sum m ≤ d → IsTrue (reaches cmp f m) → IsTrue (list_all (λ t. is_lt (cmp t.0 m)) g) → count v d (reaches cmp g) < count v d (reaches cmp f)
  reaches-less v d f g m len low h below = count-less v d (reaches cmp g) (reaches cmp f) m (λ e r. reaches_up f m e (reaches_less g m e below r) h) len low (not_itself (cases_Bool (reaches cmp g m))) h
    where
      not_itself : (reaches cmp g m ≡ true) ⊎ (reaches cmp g m ≡ false) → reaches cmp g m ≡ false
      not_itself (inl r) = absurd (ge-not_less cmp total m m (ap is_ge (tied_itself total m)) (reaches_less g m m below r))
      not_itself (inr r) = r

-- where a monomial that none divides is added, fewer are undivided
pub undivided-less : (v d : ℕ) (ms : List (List ℕ)) (m : List ℕ) → length m ≡ v → sum m ≤ d → IsTrue (is_undivided ms m) → count v d (is_undivided (ms ++ m ∷ [])) < count v d (is_undivided ms)
undivided-less v d ms m len low h = count-less v d (is_undivided (ms ++ m ∷ [])) (is_undivided ms) m weaker len low itself h
  where
    weaker : (e : List ℕ) → is_undivided (ms ++ m ∷ []) e ≡ true → is_undivided ms e ≡ true
    weaker e r = let a = list_any-append (λ d. divides d e) ms (m ∷ []) in grind (arith, nat_tests, a, r)

    itself : is_undivided (ms ++ m ∷ []) m ≡ false
    itself =
        let a = list_any-append (λ d. divides d m) ms (m ∷ []) in
        let s : divides m m ≡ true = divides_from m m (λ k. omega arith) in
        grind (arith, nat_tests, a, s)
