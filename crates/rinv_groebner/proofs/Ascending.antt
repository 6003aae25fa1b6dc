-- Two lists in ascending order with the same elements are equal.
--   Has x xs, split      x is in the list; it is the first element, or a later one
--   has_at, place_of     the element at a place is in it, and each that is has a place
--   Ascends Less xs      each element is less than those after it
--   ascending-equal      where each element of the one is in the other, and the other way round, they are equal
use Rattle.std.proofs.Common.{◌≡◌, ◌⊎◌, ℕ, zero, suc, ◌<◌, List, [], ◌∷◌, length, get_or, arith, refl, sym, ap₂, subst, inl, inr}
use mathlib.Core.Logic.{∥∥₁_elim, ∥∥₁_map}
use mathlib.Core.List as MList

-- x is in the list
pub data Has {A : Type 0} (x : A) : List A → Type 0 where
  first : {xs : List A} → Has x (x ∷ xs)
  later : {y : A} {xs : List A} → Has x xs → Has x (y ∷ xs)

-- it is the first element, or a later one
pub split : {A : Type 0} {x y : A} {xs : List A} → Has y (x ∷ xs) → (y ≡ x) ⊎ Has y xs
split first = inl refl
split (later h) = inr h

-- the element at a place of a list is in it
pub has_at : {X : Type 0} (d : X) (xs : List X) (k : ℕ) → k < length xs → Has (get_or xs k d) xs
has_at d [] k h = absurd (omega arith)
has_at d (x ∷ xs) zero h = Has.first
has_at d (x ∷ xs) (suc k) h = Has.later (has_at d xs k (omega (arith, h)))

-- an element has a place
pub place_of : {X : Type 0} (d : X) (xs : List X) {x : X} → Has x xs → (k : ℕ) × (k < length xs) × (get_or xs k d ≡ x)
place_of d [] h = elim h [ ]
place_of d (x ∷ xs) Has.first = (0, (omega arith), refl)
place_of d (x ∷ xs) (Has.later h) = let (k, inside, e) = place_of d xs h in (suc k, (omega (arith, inside)), e)

module _ {A : Type 0} (Less : A → A → Type 0) where
  -- x is less than each element
  pub data Bounds (x : A) : List A → Type 0 where
    no_more : Bounds x []
    and : {y : A} {ys : List A} → Less x y → Bounds x ys → Bounds x (y ∷ ys)

  -- each element is less than those after it
  pub data Ascends : List A → Type 0 where
    empty : Ascends []
    begin : {x : A} {xs : List A} → Bounds x xs → Ascends xs → Ascends (x ∷ xs)

module _ {A : Type 0} (Less : A → A → Type 0) (trans : (a b c : A) → Less a b → Less b c → Less a c) (irreflexive : (a : A) → Less a a → ⊥) (A_set : IsSet A) where
  bound-has : {x y : A} {xs : List A} → Bounds Less x xs → Has y xs → Less x y
  bound-has no_more h = elim h [ ]
  bound-has (and l b) first = l
  bound-has (and l b) (later h) = bound-has b h

  cycle : {x y : A} {xs ys : List A} → Bounds Less x xs → Bounds Less y ys → Has y xs → Has x ys → ⊥
  cycle {x} {y} b c h k = irreflexive x (trans x y x (bound-has b h) (bound-has c k))

  not_in : {x : A} {xs : List A} → Bounds Less x xs → Has x xs → ⊥
  not_in {x} b h = irreflexive x (bound-has b h)

  -- each element of the one is in the other
  abbrev pub Within : List A → List A → Type 0
  Within xs ys = (z : A) → Has z xs → ∥ Has z ys ∥₁

  head_equal : {x y : A} {xs ys : List A} → Bounds Less x xs → Bounds Less y ys → Has x (y ∷ ys) → Has y (x ∷ xs) → x ≡ y
  head_equal b c first k = refl
  head_equal b c (later h) first = refl
  head_equal b c (later h) (later k) = absurd (cycle b c k h)

  strip : {x z : A} {xs ys : List A} → Bounds Less x xs → Has z xs → Has z (x ∷ ys) → Has z ys
  strip b h first = absurd (not_in b h)
  strip b h (later k) = k

  none : {x : A} → Has x [] → ⊥
  none h = elim h [ ]

  list_set : IsSet (List A)
  list_set = MList.is_set A_set

  -- ascending lists with the same elements are equal
  pub ascending-equal : (xs ys : List A) → Ascends Less xs → Ascends Less ys → Within xs ys → Within ys xs → xs ≡ ys
  ascending-equal [] [] a c u w = refl
  ascending-equal [] (y ∷ ys) a c u w = ∥∥₁_elim (w y first) (list_set _ _) (λ h. absurd (none h))
  ascending-equal (x ∷ xs) [] a c u w = ∥∥₁_elim (u x first) (list_set _ _) (λ h. absurd (none h))
  ascending-equal (x ∷ xs) (y ∷ ys) (begin b a) (begin c d) u w = ∥∥₁_elim (u x first) (list_set _ _) (λ h. ∥∥₁_elim (w y first) (list_set _ _) (λ k. join (head_equal b c h k) (ascending-equal xs ys a d)))
    where
      join : x ≡ y → (Within xs ys → Within ys xs → xs ≡ ys) → x ∷ xs ≡ y ∷ ys
      join e again = ap₂ ◌∷◌ e (again (λ z h. ∥∥₁_map (u z (later h)) (λ k. strip b h (subst (λ v. Has z (v ∷ ys)) (sym e) k))) (λ z h. ∥∥₁_map (w z (later h)) (λ k. strip c h (subst (λ v. Has z (v ∷ xs)) e k))))
