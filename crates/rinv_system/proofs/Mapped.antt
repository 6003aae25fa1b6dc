-- Lists of elements that are seen through f, as far as a place.
use Rattle.std.proofs.Common.{◌≡◌, ℕ, ◌+◌, ◌<◌, ◌≤◌, List, [], ◌∷◌, ◌++◌, take, drop, length, get_or, map, Bool, true, false, sym, ap, subst, ◌∙◌, append_assoc, take_all}
use Rattle.std.specs.List.{All, Any}
use Rattle.std.specs.Bool.{MatchBool}
use Rattle.std.proofs.lemmas.List.{take_more, take-append-drop, get_or-map, length-map}
use Rattle.std.proofs.lemmas.List.Elements.{All-push}
use Rattle.std.proofs.lemmas.Simd.{map-map}

module _ {X : Type 0} (f : X → List ℕ) (xs : List X) (k : ℕ) (d : X) where
  within : k < length xs → k < length (map f xs)
  within lt = subst (λ n. k < n) (sym (length-map xs f)) lt

  -- the front with one element more
  pub mapped_more : k < length xs → take (k + 1) (map f xs) ≡ take k (map f xs) ++ f (get_or xs k d) ∷ []
  mapped_more lt = take_more (map f xs) k [] (within lt) ∙ ap (λ v. take k (map f xs) ++ v ∷ []) (get_or-map f xs k d [] lt)

  -- the list at an element
  pub mapped_split : k < length xs → map f xs ≡ take k (map f xs) ++ f (get_or xs k d) ∷ drop (k + 1) (map f xs)
  mapped_split lt = sym (take-append-drop (k + 1) (map f xs)) ∙ ap (λ front. front ++ drop (k + 1) (map f xs)) (mapped_more lt) ∙ append_assoc (take k (map f xs)) (f (get_or xs k d) ∷ []) (drop (k + 1) (map f xs))

  -- an element that has a property
  pub Any_mapped : (P : List ℕ → Type 0) → k < length xs → P (f (get_or xs k d)) → Any P (map f xs)
  Any_mapped P lt p = (k, f (get_or xs k d), within lt, get_or-map f xs k d _ lt, p)

  pub All_mapped-more : (P : List ℕ → Type 0) → k < length xs → All P (take k (map f xs)) → P (f (get_or xs k d)) → All P (take (k + 1) (map f xs))
  All_mapped-more P lt all p = subst (All P) (sym (mapped_more lt)) (All-push P (take k (map f xs)) (f (get_or xs k d)) all p)

-- all elements have come
pub mapped_all : {X : Type 0} (f : X → List ℕ) (xs : List X) (k : ℕ) → length xs ≤ k → take k (map f xs) ≡ map f xs
mapped_all f xs k le = take_all k (map f xs) (subst (λ n. n ≤ k) (sym (length-map xs f)) le)

-- each element seen through f and then g
pub map_done : {X : Type 0} (f : X → List ℕ) (g : List ℕ → List ℕ) (xs : List X) (found all : List (List ℕ)) (k : ℕ) → found ≡ map (λ x. g (f x)) (take k xs) → length xs ≤ k → map f xs ≡ all → found ≡ map g all
map_done f g xs found all k is le whole = is ∙ ap (map (λ x. g (f x))) (take_all k xs le) ∙ sym (map-map g f xs) ∙ ap (map g) whole

-- what an answer says where it is yes, and where it is no
pub at_yes : (P Q : Type 0) (b : Bool) → MatchBool b P Q → b ≡ true → P
at_yes P Q true h e = h
at_yes P Q false h e = absurd (let f : false ≡ true = e in cc)

pub at_no : (P Q : Type 0) (b : Bool) → MatchBool b P Q → b ≡ false → Q
at_no P Q false h e = h
at_no P Q true h e = absurd (let f : true ≡ false = e in cc)
