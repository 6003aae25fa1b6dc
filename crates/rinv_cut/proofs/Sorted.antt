-- A list put into ascending order.
--   sorted, sorted-has, has-sorted    it has the same elements
--   sorted-ascends       and ascends, where no two of them tie
use Rattle.std.proofs.Common.{◌≡◌, ◌⊎◌, zero, suc, List, [], ◌∷◌, get_or, refl, sym, ◌∙◌, ap, subst, inl, inr, arith, All, AllPairs}
use Rattle.std.specs.Cmp.{IsTotalOrder}
use Rattle.std.specs.Ordering.{ordering_reverse}
use Rattle.std.specs.declared.cmp.Ordering.{Ordering}
use Rattle.std.specs.declared.cmp.Ordering.TheVariants.{Less, Equal, Greater}
use Rattle.std.proofs.lemmas.List.Kept.{AllPairs-cons}
use Rattle.rinv_groebner.proofs.Ascending.{Has, split, has_at, place_of}

-- a fact of all elements, place by place
pub all-from_has : {X : Type 0} (P : X → Type 0) (xs : List X) → ((x : X) → Has x xs → P x) → All P xs
all-from_has P xs h k d low = h (get_or xs k d) (has_at d xs k low)

-- what the first element is to the others
pub first-to : {X : Type 0} (R : X → X → Type 0) (x : X) (xs : List X) → AllPairs R (x ∷ xs) → (y : X) → Has y xs → R x y
first-to R x xs pairs y has = let (k, low, e) = place_of x xs has in subst (R x) e (pairs zero (suc k) x (omega arith) (omega (arith, low)))

pub pairs-rest : {X : Type 0} (R : X → X → Type 0) (x : X) (xs : List X) → AllPairs R (x ∷ xs) → AllPairs R xs
pairs-rest R x xs pairs i j d below low = pairs (suc i) (suc j) d (omega (arith, below)) (omega (arith, low))

-- elements compared by a key
module _ {A K : Type 0} (key : A → K) (cmp : K → K → Ordering) (total : IsTotalOrder cmp) where
  abbrev Below : A → A → Type 0
  Below x y = cmp (key x) (key y) ≡ Less

  put : A → A → List A → List A → Ordering → List A
  put x y ys more Less = x ∷ y ∷ ys
  put x y ys more Equal = x ∷ y ∷ ys
  put x y ys more Greater = y ∷ more

  insert : A → List A → List A
  insert x [] = x ∷ []
  insert x (y ∷ ys) = put x y ys (insert x ys) (cmp (key x) (key y))

  pub sorted : List A → List A
  sorted [] = []
  sorted (x ∷ xs) = insert x (sorted xs)

  -- ---- the same elements

  has-insert : (x : A) (ys : List A) (z : A) → Has z (insert x ys) → (z ≡ x) ⊎ Has z ys
  unfolding insert put
  has-insert x [] z h = split h
  has-insert x (y ∷ ys) z h = go (cmp (key x) (key y)) h (λ k. has-insert x ys z k)
    where
      later : (z ≡ x) ⊎ Has z ys → (z ≡ x) ⊎ Has z (y ∷ ys)
      later (inl e) = inl e
      later (inr k) = inr (Has.later k)

      behind : (z ≡ y) ⊎ Has z (insert x ys) → (Has z (insert x ys) → (z ≡ x) ⊎ Has z ys) → (z ≡ x) ⊎ Has z (y ∷ ys)
      behind (inl e) again = inr (subst (λ (w : A). Has w (y ∷ ys)) (sym e) Has.first)
      behind (inr k) again = later (again k)

      go : (o : Ordering) → Has z (put x y ys (insert x ys) o) → (Has z (insert x ys) → (z ≡ x) ⊎ Has z ys) → (z ≡ x) ⊎ Has z (y ∷ ys)
      go Less h again = split h
      go Equal h again = split h
      go Greater h again = behind (split h) again

  insert-first : (x : A) (ys : List A) → Has x (insert x ys)
  unfolding insert put
  insert-first x [] = Has.first
  insert-first x (y ∷ ys) = go (cmp (key x) (key y)) (insert-first x ys)
    where
      go : (o : Ordering) → Has x (insert x ys) → Has x (put x y ys (insert x ys) o)
      go Less k = Has.first
      go Equal k = Has.first
      go Greater k = Has.later k

  insert-later : (x : A) (ys : List A) (z : A) → Has z ys → Has z (insert x ys)
  unfolding insert put
  insert-later x [] z h = Has.later h
  insert-later x (y ∷ ys) z h = go (cmp (key x) (key y)) (λ k. insert-later x ys z k)
    where
      behind : (z ≡ y) ⊎ Has z ys → (Has z ys → Has z (insert x ys)) → Has z (y ∷ insert x ys)
      behind (inl e) again = subst (λ (w : A). Has w (y ∷ insert x ys)) (sym e) Has.first
      behind (inr k) again = Has.later (again k)

      go : (o : Ordering) → (Has z ys → Has z (insert x ys)) → Has z (put x y ys (insert x ys) o)
      go Less again = Has.later h
      go Equal again = Has.later h
      go Greater again = behind (split h) again

  pub sorted-has : (xs : List A) (z : A) → Has z (sorted xs) → Has z xs
  unfolding sorted
  sorted-has [] z h = h
  sorted-has (x ∷ xs) z h = go (has-insert x (sorted xs) z h) (λ k. sorted-has xs z k)
    where
      go : (z ≡ x) ⊎ Has z (sorted xs) → (Has z (sorted xs) → Has z xs) → Has z (x ∷ xs)
      go (inl e) again = subst (λ (w : A). Has w (x ∷ xs)) (sym e) Has.first
      go (inr k) again = Has.later (again k)

  pub has-sorted : (xs : List A) (z : A) → Has z xs → Has z (sorted xs)
  unfolding sorted
  has-sorted [] z h = h
  has-sorted (x ∷ xs) z h = go (split h) (λ k. has-sorted xs z k)
    where
      go : (z ≡ x) ⊎ Has z xs → (Has z xs → Has z (sorted xs)) → Has z (insert x (sorted xs))
      go (inl e) again = subst (λ (w : A). Has w (insert x (sorted xs))) (sym e) (insert-first x (sorted xs))
      go (inr k) again = insert-later x (sorted xs) z (again k)

  -- ---- they ascend

  insert-ascends : (x : A) (ys : List A) → AllPairs Below ys → ((z : A) → Has z ys → cmp (key x) (key z) ≡ Equal → ⊥) → AllPairs Below (insert x ys)
  unfolding insert put
  insert-ascends x [] up apart = AllPairs-cons Below x [] (λ k d low. absurd (omega (arith, low))) (λ i j d below low. absurd (omega (arith, low)))
  insert-ascends x (y ∷ ys) up apart = go (cmp (key x) (key y)) refl (insert-ascends x ys (pairs-rest Below y ys up) (λ z h. apart z (Has.later h)))
    where
      go : (o : Ordering) → cmp (key x) (key y) ≡ o → AllPairs Below (insert x ys) → AllPairs Below (put x y ys (insert x ys) o)
      go Less e rest = AllPairs-cons Below x (y ∷ ys) (all-from_has (Below x) (y ∷ ys) (λ z h. over z (split h))) up
        where
          over : (z : A) → (z ≡ y) ⊎ Has z ys → Below x z
          over z (inl q) = subst (Below x) (sym q) e
          over z (inr k) = total.trans (key x) (key y) (key z) e (first-to Below y ys up z k)
      go Equal e rest = absurd (apart y Has.first e)
      go Greater e rest = AllPairs-cons Below y (insert x ys) (all-from_has (Below y) (insert x ys) (λ z h. over z (has-insert x ys z h))) rest
        where
          over : (z : A) → (z ≡ x) ⊎ Has z ys → Below y z
          over z (inl q) = subst (Below y) (sym q) (total.antisymm (key y) (key x) ∙ ap ordering_reverse e)
          over z (inr k) = first-to Below y ys up z k

  pub sorted-ascends : (xs : List A) → AllPairs (λ x y. cmp (key x) (key y) ≡ Equal → ⊥) xs → AllPairs (λ x y. cmp (key x) (key y) ≡ Less) (sorted xs)
  unfolding sorted
  sorted-ascends [] apart = λ i j d below low. absurd (omega (arith, low))
  sorted-ascends (x ∷ xs) apart = insert-ascends x (sorted xs) (sorted-ascends xs (pairs-rest (λ x y. cmp (key x) (key y) ≡ Equal → ⊥) x xs apart)) (λ z h. first-to (λ x y. cmp (key x) (key y) ≡ Equal → ⊥) x xs apart z (sorted-has xs z h))
