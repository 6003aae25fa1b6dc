-- Lists that are made element by element.
--   one-more, mapped-more    the first k elements, or what they are mapped to, and one more
--   all-made, all-mapped     all of them
--   holds-at                 what holds of all holds of each
--   same-place               two elements at one place are one
--   zipped-more, tests-more  what stands beside them, or passes a test, and one more
use Rattle.std.proofs.Common.{◌≡◌, ℕ, ◌+◌, ◌<◌, ◌≤◌, List, [], ◌∷◌, ◌++◌, length, get_or, map, take, All, sym, ◌∙◌, ap, subst, subst₂, refl, Bool, true}
use Rattle.std.specs.List.{AllZip, list_all}
use Rattle.std.proofs.lemmas.List.{take_all, map_push, get_or_default}
use Rattle.std.proofs.lemmas.List.Folds.{list_all-append}
use Rattle.rinv_algebra.proofs.Same.{and_true}
use Rattle.rinv_sub.proofs.Sums.{take-at}
use Rattle.rinv_gens.proofs.Tied.{zip-push}

module _ {X : Type 0} where
  pub one-more : (xs made : List X) (k : ℕ) (x y : X) → k < length xs → x ≡ get_or xs k x → y ≡ x → made ≡ take k xs → made ++ y ∷ [] ≡ take (k + 1) xs
  one-more xs made k x y h at same so_far = ap (λ ys. ys ++ y ∷ []) so_far ∙ ap (λ z. take k xs ++ z ∷ []) same ∙ sym (take-at xs k x h at)

  pub all-made : (xs made : List X) (k : ℕ) → length xs ≤ k → made ≡ take k xs → made ≡ xs
  all-made xs made k past so_far = so_far ∙ take_all k xs past

  -- what holds of all holds of each
  pub holds-at : (P : X → Type 0) (xs : List X) (k : ℕ) (x : X) → All P xs → k < length xs → x ≡ get_or xs k x → P x
  holds-at P xs k x all h at = subst P (sym at) (all k x h)

module _ {X Y : Type 0} (f : X → Y) where
  pub mapped-more : (xs : List X) (made : List Y) (k : ℕ) (x : X) (y : Y) → k < length xs → x ≡ get_or xs k x → y ≡ f x → made ≡ map f (take k xs) → made ++ y ∷ [] ≡ map f (take (k + 1) xs)
  mapped-more xs made k x y h at same so_far =
      ap (λ ys. ys ++ y ∷ []) so_far ∙ ap (λ z. map f (take k xs) ++ z ∷ []) same ∙ sym (map_push f (take k xs) x) ∙ ap (map f) (sym (take-at xs k x h at))

  pub all-mapped : (xs : List X) (made : List Y) (k : ℕ) → length xs ≤ k → made ≡ map f (take k xs) → made ≡ map f xs
  all-mapped xs made k past so_far = so_far ∙ ap (map f) (take_all k xs past)

-- what stands beside the first k elements, and one more
pub zipped-more : {X Y U : Type 0} (R : X → Y → Type 0) (view : U → Y) (xs : List X) (k : ℕ) (x : X) (made : List U) (u : U) → k < length xs → x ≡ get_or xs k x → AllZip R (take k xs) (map view made) → R x (view u) → AllZip R (take (k + 1) xs) (map view (made ++ u ∷ []))
zipped-more R view xs k x made u inside at so_far here =
    subst₂ (AllZip R) (sym (take-at xs k x inside at)) (sym (map_push view made u)) (zip-push R (take k xs) (map view made) x (view u) so_far here)

-- a test that all pass, and one more
pub tests-more : {Y U : Type 0} (test : Y → Bool) (view : U → Y) (made : List U) (u : U) → list_all test (map view made) ≡ true → test (view u) ≡ true → list_all test (map view (made ++ u ∷ [])) ≡ true
tests-more test view made u so_far here = ap (list_all test) (map_push view made u) ∙ list_all-append test (map view made) (view u ∷ []) ∙ and_true _ _ so_far (and_true _ _ here refl)

-- two elements at one place are one
pub same-place : {X : Type 0} (xs : List X) (k : ℕ) (x y : X) → k < length xs → x ≡ get_or xs k x → y ≡ get_or xs k y → x ≡ y
same-place xs k x y h a b = a ∙ get_or_default xs k x y h ∙ sym b
