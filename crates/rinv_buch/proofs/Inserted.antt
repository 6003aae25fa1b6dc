-- An element put into an ascending list.
--   orders_in            an order that fits v variables orders the monomials in v variables
--   less-from, not-less  a comparison by its index
--   above-more           one more element that a monomial is above
--   above-later          what is below the element at a place is below all from there on
--   ascend-insert        where a monomial is above those before its place and below those after it, the list ascends
use Rattle.std.proofs.Common.{◌≡◌, ℕ, zero, suc, ◌<◌, ◌+◌, List, [], ◌∷◌, length, take, drop, get_or, refl, sym, ap, ◌∙◌, subst, arith, All, AllPairs, true, false, ◌==◌, true≢false}
use Rattle.std.specs.List.{insert}
use Rattle.std.specs.Ordering.{ordering_reverse, ordering_index}
use Rattle.std.specs.declared.cmp.Ordering.{Ordering}
use Rattle.std.specs.declared.cmp.Ordering.TheVariants.{Less, Equal, Greater}
use Rattle.std.proofs.lemmas.List.{get_or-drop, get_or_read, length-drop}
use Rattle.std.proofs.lemmas.List.Elements.{All-cons, All-head, All-tail, All-take, All-drop, All-append, All-more}
use Rattle.std.proofs.lemmas.List.Kept.{AllPairs-cons}
use Rattle.rinv_algebra.specs.MonomialOrder.{MonoOrderLaws}
use Rattle.rinv_groebner.specs.Orders.{OrdersMonomials}

-- an order that fits v variables orders the monomials in v variables
pub orders_in : (cmp : List ℕ → List ℕ → Ordering) (fits : ℕ → Type 0) → MonoOrderLaws cmp → ((a b : List ℕ) → length a ≡ length b → fits (length a) → cmp a b ≡ Equal → a ≡ b) → (v : ℕ) → fits v → OrdersMonomials cmp v
orders_in cmp fits laws ties v suits = record { laws = laws; ties = λ a b la lb e. ties a b (la ∙ sym lb) (subst fits (sym la) suits) e }

-- the comparison answers Less where its index is 0
pub less-from : (p : Ordering) → (ordering_index p == 0) ≡ true → p ≡ Less
less-from Less e = refl
less-from Equal e = absurd (true≢false (sym e))
less-from Greater e = absurd (true≢false (sym e))

pub not-less : (p : Ordering) → (ordering_index p == 0) ≡ false → p ≡ Less → ⊥
not-less p e less = true≢false (sym (ap (λ (p : Ordering). ordering_index p == 0) less) ∙ e)

module _ (cmp : List ℕ → List ℕ → Ordering) (v : ℕ) (order : OrdersMonomials cmp v) where
  -- a monomial is above one that it is not below, and that is another
  above_other : (m n : List ℕ) → length m ≡ v → length n ≡ v → (n ≡ m → ⊥) → (cmp m n ≡ Less → ⊥) → cmp n m ≡ Less
  above_other m n lm ln other high = go (cmp m n) refl
    where
      go : (p : Ordering) → cmp m n ≡ p → cmp n m ≡ Less
      go Less e = absurd (high e)
      go Equal e = absurd (other (sym (order.ties m n lm ln e)))
      go Greater e = order.laws.total.antisymm n m ∙ ap ordering_reverse e

  -- one more element that the monomial is above
  pub above-more : {X : Type 0} (f : X → List ℕ) (xs : List X) (k : ℕ) (x : X) (m n : List ℕ) → k < length xs → x ≡ get_or xs k x → n ≡ f x → length m ≡ v → length n ≡ v → All (λ a. f a ≡ m → ⊥) xs → (cmp m n ≡ Less → ⊥)
      → All (λ a. cmp (f a) m ≡ Less) (take k xs) → All (λ a. cmp (f a) m ≡ Less) (take (k + 1) xs)
  above-more {X} f xs k x m n inside at lead lm ln new high before =
      let here = lead ∙ ap f at in
      All-more (λ a. cmp (f a) m ≡ Less) xs k x inside before (subst (λ (e : List ℕ). cmp e m ≡ Less) here (above_other m n lm ln (λ e. new k x inside (sym here ∙ e)) high))

  -- what is below the element at a place is below all from there on
  pub above-later : {X : Type 0} (f : X → List ℕ) (xs : List X) (k : ℕ) (x : X) (m : List ℕ) → k < length xs → x ≡ get_or xs k x → AllPairs (λ a b. cmp (f a) (f b) ≡ Less) xs → cmp m (f x) ≡ Less → All (λ a. cmp m (f a) ≡ Less) (drop k xs)
  above-later {X} f xs k x m inside at pairs first j d low = subst (λ (a : X). cmp m (f a) ≡ Less) (sym (get_or-drop k xs j d)) (go j low)
    where
      here : cmp m (f (get_or xs k d)) ≡ Less
      here = subst (λ (a : X). cmp m (f a) ≡ Less) (get_or_read xs k x inside at d) first

      go : (j : ℕ) → j < length (drop k xs) → cmp m (f (get_or xs (k + j) d)) ≡ Less
      go zero low = let e : k ≡ k + 0 = omega arith in subst (λ (i : ℕ). cmp m (f (get_or xs i d)) ≡ Less) e here
      go (suc j) low = let short = length-drop k xs in order.laws.total.trans m (f (get_or xs k d)) (f (get_or xs (k + suc j) d)) here (pairs k (k + suc j) d (omega arith) (omega (arith, low, short)))

-- where an element is related to those before its place and after it, all pairs are
pairs-insert : {X : Type 0} (R : X → X → Type 0) (xs : List X) (k : ℕ) (y : X) → AllPairs R xs → All (λ x. R x y) (take k xs) → All (R y) (drop k xs) → AllPairs R (insert xs k y)
pairs-insert R xs zero y pairs before after = AllPairs-cons R y xs after pairs
pairs-insert R [] (suc k) y pairs before after = AllPairs-cons R y [] after pairs
pairs-insert R (x ∷ xs) (suc k) y pairs before after =
    AllPairs-cons R x (insert xs k y)
    (All-append (R x) (take k xs) (y ∷ drop k xs) (All-take (R x) k xs below) (All-cons (R x) y (drop k xs) (All-head (λ z. R z y) x (take k xs) before) (All-drop (R x) k xs below)))
    (pairs-insert R xs k y (λ i j d low high. pairs (suc i) (suc j) d (omega (arith, low)) (omega (arith, high))) (All-tail (λ z. R z y) x (take k xs) before) after)
  where
    below : All (R x) xs
    below j d low = pairs 0 (suc j) d (omega arith) (omega (arith, low))

-- so it is by the monomial of the element
pub ascend-insert : (cmp : List ℕ → List ℕ → Ordering) {X : Type 0} (f : X → List ℕ) (xs after : List X) (k : ℕ) (y : X) (m : List ℕ) → m ≡ f y → after ≡ insert xs k y → AllPairs (λ a b. cmp (f a) (f b) ≡ Less) xs
    → All (λ a. cmp (f a) m ≡ Less) (take k xs) → All (λ a. cmp m (f a) ≡ Less) (drop k xs) → AllPairs (λ a b. cmp (f a) (f b) ≡ Less) after
ascend-insert cmp {X} f xs after k y m lead put pairs before above =
    subst (AllPairs (λ a b. cmp (f a) (f b) ≡ Less)) (sym put)
    (pairs-insert (λ a b. cmp (f a) (f b) ≡ Less) xs k y pairs (subst (λ (m : List ℕ). All (λ a. cmp (f a) m ≡ Less) (take k xs)) lead before) (subst (λ (m : List ℕ). All (λ a. cmp m (f a) ≡ Less) (drop k xs)) lead above))
