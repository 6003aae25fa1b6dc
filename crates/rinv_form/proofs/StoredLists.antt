-- What is stored of lists.
use Rattle.std.proofs.Common.{◌≡◌, ℕ, ◌+◌, ◌<◌, ◌≤◌, List, [], ◌∷◌, ◌++◌, length, get_or, drop, Bool, true, false, ◌&&◌, Option, Some, None, option_map, if◌then◌else◌, refl, sym, ap, ◌∙◌, add-one, drop-cons, append_assoc}
use Rattle.std.specs.List.{list_all}
use Rattle.std.proofs.lemmas.List.{append-nil, drop_all}
use Rattle.rinv_form.specs.Forms.{kept, before, each_stored}

-- what was stored, and then what the rest gives
abbrev pub with_front : {A : Type 0} → List A → Option (List A) → Option (List A)
with_front xs o = option_map (λ ys. xs ++ ys) o

with_front-append : {A : Type 0} (xs ys : List A) (o : Option (List A)) → with_front xs (with_front ys o) ≡ with_front (xs ++ ys) o
with_front-append xs ys None = refl
with_front-append xs ys (Some zs) = ap Some (sym (append_assoc xs ys zs))

pub with_front-nil : {A : Type 0} (o : Option (List A)) → with_front [] o ≡ o
with_front-nil None = refl
with_front-nil (Some zs) = refl

each_stored-some : {A B : Type 0} (f : A → Option B) (x : A) (xs : List A) (y : B) → Some y ≡ f x → each_stored f (x ∷ xs) ≡ with_front (y ∷ []) (each_stored f xs)
unfolding each_stored
each_stored-some f x xs y e = rw (← e) (elim (each_stored f xs) as (λ o. before (Some y) o ≡ with_front (y ∷ []) o) [ None ↦ refl | Some ys ↦ refl ])

each_stored-none : {A B : Type 0} (f : A → Option B) (x : A) (xs : List A) → None ≡ f x → each_stored f (x ∷ xs) ≡ None
unfolding each_stored
each_stored-none f x xs e = rw (← e) refl

from_place : {A : Type 0} (xs : List A) (i : ℕ) (x : A) → i < length xs → x ≡ get_or xs i x → drop i xs ≡ x ∷ drop (i + 1) xs
from_place xs i x within is = rw (add-one, drop-cons xs i x, ← is) refl

-- one more was stored
pub each_stored-step : {A B : Type 0} (f : A → Option B) (xs : List A) (i : ℕ) (x : A) (y : B) (found : List B) → i < length xs → x ≡ get_or xs i x → Some y ≡ f x
    → with_front (found ++ y ∷ []) (each_stored f (drop (i + 1) xs)) ≡ with_front found (each_stored f (drop i xs))
each_stored-step f xs i x y found within is one =
    sym (with_front-append found (y ∷ []) _) ∙ ap (with_front found) (sym (each_stored-some f x (drop (i + 1) xs) y one) ∙ ap (each_stored f) (sym (from_place xs i x within is)))

-- one has another form
pub each_stored-stop : {A B : Type 0} (f : A → Option B) (xs : List A) (i : ℕ) (x : A) (found : List B) → i < length xs → x ≡ get_or xs i x → None ≡ f x
    → with_front found (each_stored f (drop i xs)) ≡ None
each_stored-stop f xs i x found within is none = ap (with_front found) (ap (each_stored f) (from_place xs i x within is) ∙ each_stored-none f x (drop (i + 1) xs) none)

pub each_stored-end : {A B : Type 0} (f : A → Option B) (xs : List A) (i : ℕ) (found : List B) → length xs ≤ i → with_front found (each_stored f (drop i xs)) ≡ Some found
unfolding each_stored
each_stored-end f xs i found past = rw (drop_all i xs past) (ap Some (append-nil found))

-- where what is stored is the value itself
pub each_stored-kept : {A : Type 0} (f : A → Option A) (test : A → Bool) → ((x : A) → f x ≡ kept (test x) x) → (xs : List A) → each_stored f xs ≡ kept (list_all test xs) xs
unfolding each_stored
each_stored-kept f test is [] = refl
each_stored-kept f test is (x ∷ xs) = rw (is x, each_stored-kept f test is xs) (cases (test x) (list_all test xs))
  where
    cases : (b d : Bool) → before (kept b x) (kept d xs) ≡ kept (b && d) (x ∷ xs)
    cases true true = refl
    cases true false = refl
    cases false d = refl

-- the same of a list of so many
pub counted_stored-kept : {A : Type 0} (b : Bool) (f : A → Option A) (test : A → Bool) → ((x : A) → f x ≡ kept (test x) x) → (xs : List A)
    → (if b then each_stored f xs else None) ≡ kept (b && list_all test xs) xs
counted_stored-kept true f test is xs = each_stored-kept f test is xs
counted_stored-kept false f test is xs = refl
