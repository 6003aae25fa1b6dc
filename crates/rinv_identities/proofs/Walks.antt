-- Walks along a list up to the first element that fails.
--   walk-start, walk-more, walk-stop, walk-end     the place of the failure, by the elements that are left
--   element-at                                     an element of a mapped list
use Rattle.std.proofs.Common.{◌≡◌, ℕ, zero, suc, ◌+◌, ◌<◌, ◌≤◌, List, [], ◌∷◌, length, map, get_or, drop, Bool, true, false, cond, Some, None, refl, ap, ◌∙◌, arith, add-one, drop-cons}
use Rattle.std.proofs.lemmas.List.{drop_all}
use Rattle.std.specs.List.{position_from}

-- what is left fails at the same place as the whole
abbrev pub Walks : {A : Type 0} → (A → Bool) → List A → ℕ → Type 0
Walks test xs k = position_from test 1 xs ≡ position_from test (k + 1) (drop k xs)

pub walk-start : {A : Type 0} (test : A → Bool) (xs : List A) → Walks test xs 0
walk-start test xs = refl

split : {A : Type 0} (xs : List A) (k : ℕ) (x : A) → k < length xs → x ≡ get_or xs k x → drop k xs ≡ x ∷ drop (k + 1) xs
split xs k x within is = rw (add-one, drop-cons xs k x within, ← is) refl

passes : {A : Type 0} (test : A → Bool) (k : ℕ) (x : A) (xs : List A) → test x ≡ false → position_from test k (x ∷ xs) ≡ position_from test (k + 1) xs
passes test k x xs e = rw e refl

stops : {A : Type 0} (test : A → Bool) (k : ℕ) (x : A) (xs : List A) → test x ≡ true → position_from test k (x ∷ xs) ≡ Some k
stops test k x xs e = rw e refl

pub walk-more : {A : Type 0} (test : A → Bool) (xs : List A) (k : ℕ) (x : A) → k < length xs → x ≡ get_or xs k x → test x ≡ false → Walks test xs k → Walks test xs (k + 1)
walk-more test xs k x within is e w = w ∙ ap (position_from test (k + 1)) (split xs k x within is) ∙ passes test (k + 1) x (drop (k + 1) xs) e

pub walk-stop : {A : Type 0} (test : A → Bool) (xs : List A) (k : ℕ) (x : A) → k < length xs → x ≡ get_or xs k x → test x ≡ true → Walks test xs k → position_from test 1 xs ≡ Some (k + 1)
walk-stop test xs k x within is e w = w ∙ ap (position_from test (k + 1)) (split xs k x within is) ∙ stops test (k + 1) x (drop (k + 1) xs) e

pub walk-end : {A : Type 0} (test : A → Bool) (xs : List A) (k : ℕ) → length xs ≤ k → Walks test xs k → position_from test 1 xs ≡ None
walk-end test xs k past w = w ∙ ap (position_from test (k + 1)) (drop_all k xs past)

-- an element that stands in a list stands, seen by a function, in the mapped one
pub element-at : {A B : Type 0} (f : A → B) (xs : List A) (k : ℕ) (x : A) → k < length xs → x ≡ get_or xs k x → f x ≡ get_or (map f xs) k (f x)
element-at f [] k x within is = absurd (omega (arith, within))
element-at f (y ∷ ys) zero x within is = ap f is
element-at f (y ∷ ys) (suc k) x within is = element-at f ys k x (omega (arith, within)) is

-- the walk along a mapped list is that along the list
pub position_from-map : {A B : Type 0} (f : A → B) (test : B → Bool) (k : ℕ) (xs : List A) → position_from test k (map f xs) ≡ position_from (λ x. test (f x)) k xs
position_from-map f test k [] = refl
position_from-map f test k (x ∷ xs) = ap (cond (test (f x)) (Some k)) (position_from-map f test (k + 1) xs)

-- tests that agree fail at the same place
pub position_from-agree : {A : Type 0} (f g : A → Bool) → ((x : A) → f x ≡ g x) → (k : ℕ) (xs : List A) → position_from f k xs ≡ position_from g k xs
position_from-agree f g e k [] = refl
position_from-agree f g e k (x ∷ xs) = rw (e x, position_from-agree f g e (k + 1) xs) refl
