-- Lists of monomials that are distinct, one after another.
--   distinct-push     one more at the end
--   distinct-front    where the first ones are not distinct, all are not
--   distinct-more, distinct-stop    by a set of those before, where all have one length
use Rattle.std.proofs.Common.{◌≡◌, ℕ, ◌+◌, ◌<◌, Bool, true, false, List, [], ◌∷◌, ◌++◌, length, get_or, take, drop, map, not, ◌&&◌, ◌||◌, refl, ap, ap₂, sym, subst, ◌∙◌}
use Rattle.std.specs.Prelude.{if◌then◌else◌, nat_eq, All}
use Rattle.std.specs.List.{list_any}
use Rattle.std.specs.Cmp.{both_ways}
use Rattle.std.specs.Cmp.Lexicographic.{pointwise, same_text, bytes_decides}
use Rattle.std.proofs.lemmas.List.{take_more, take-append-drop, map-append}
use Rattle.std.proofs.lemmas.List.Folds.{list_any-append}
use Rattle.std.proofs.lemmas.List.Elements.{All-head, All-tail, All-take, All-map, All-get_or}
use Rattle.rinv_algebra.specs.Monomial.{same_monomial}
use Rattle.rinv_algebra.proofs.MonomialLaws.{same_monomial_refl, same_monomial-of_length}
use Rattle.rinv_defs.specs.Format.{are_distinct}

step : (a x b n : Bool) → (not (a || (x || false)) && (b && not n)) ≡ ((not a && b) && not (x || n))
step true x b n = refl
step false true true n = refl
step false true false n = refl
step false false true n = refl
step false false false n = refl

pub distinct-push : (xs : List (List ℕ)) (x : List ℕ) → are_distinct (xs ++ x ∷ []) ≡ (are_distinct xs && not (list_any (λ y. same_monomial y x) xs))
unfolding are_distinct
distinct-push [] x = refl
distinct-push (y ∷ ys) x =
    ap₂ (λ a b. not a && b) (list_any-append (same_monomial y) ys (x ∷ [])) (distinct-push ys x)
    ∙ step (list_any (same_monomial y) ys) (same_monomial y x) (are_distinct ys) (list_any (λ z. same_monomial z x) ys)

front-step : (a a' b b' : Bool) → (a ≡ true → a' ≡ true) → (b ≡ false → b' ≡ false) → (not a && b) ≡ false → (not a' && b') ≡ false
front-step true a' b b' f g e = rw (f refl) refl
front-step false true b b' f g e = refl
front-step false false b b' f g e = g e

or-left : (a b : Bool) → a ≡ true → (a || b) ≡ true
or-left true b e = refl
or-left false b e = cc

pub distinct-front : (xs ys : List (List ℕ)) → are_distinct xs ≡ false → are_distinct (xs ++ ys) ≡ false
unfolding are_distinct
distinct-front [] ys e = cc
distinct-front (x ∷ xs) ys e =
    front-step (list_any (same_monomial x) xs) (list_any (same_monomial x) (xs ++ ys)) (are_distinct xs) (are_distinct (xs ++ ys))
    (λ h. list_any-append (same_monomial x) xs ys ∙ or-left _ _ h) (distinct-front xs ys) e

-- ---- by a set of those before

-- two lists of one length are one monomial where they are equal
pointwise-monomial : (a b : List ℕ) → length a ≡ length b → pointwise nat_eq a b ≡ same_monomial b a
pointwise-monomial a b e =
    both_ways (pointwise nat_eq a b) (same_monomial b a) (λ t. subst (λ c. same_monomial c a ≡ true) (same_text a b (sym t)) (same_monomial_refl a))
    (λ s. (bytes_decides a b).1 (sym (same_monomial-of_length b a (sym e) s)))

-- a list is among others of its length where its monomial is
found-among : {K : Type 0} (items : K → List ℕ) (ks : List K) (v : K) (n : ℕ) → length (items v) ≡ n → All (λ y. length y ≡ n) (map items ks)
    → list_any (λ k. pointwise nat_eq (items v) (items k)) ks ≡ list_any (λ y. same_monomial y (items v)) (map items ks)
found-among items [] v n e all = refl
found-among items (k ∷ ks) v n e all =
    let same : length (items k) ≡ n = All-head (λ (y : List ℕ). length y ≡ n) (items k) (map items ks) all in
    ap₂ (λ a b. a || b) (pointwise-monomial (items v) (items k) (e ∙ sym same)) (found-among items ks v n e (All-tail (λ (y : List ℕ). length y ≡ n) (items k) (map items ks) all))

-- the set holds the first k, which are distinct, and v is the next
module _ {K T : Type 0} (items : K → List ℕ) (alpha : T → List ℕ) (n : ℕ) (tail : List T) (all : All (λ t. length (alpha t) ≡ n) tail)
    (k : ℕ) (t : T) (within : k < length tail) (is : t ≡ get_or tail k t) (v : K) (copied : items v ≡ alpha t)
    (ks : List K) (front : map items ks ≡ map alpha (take k tail)) (distinct : are_distinct (map alpha (take k tail)) ≡ true) where
  abbrev among : Bool
  among = list_any (λ k. pointwise nat_eq (items v) (items k)) ks

  of_length : length (items v) ≡ n
  of_length = ap length copied ∙ ap (λ u. length (alpha u)) is ∙ All-get_or (λ u. length (alpha u) ≡ n) tail k t within all

  all_before : All (λ y. length y ≡ n) (map items ks)
  all_before = subst (λ (ys : List (List ℕ)). All (λ (y : List ℕ). length y ≡ n) ys) (sym front) (All-map (λ (y : List ℕ). length y ≡ n) alpha (take k tail) (All-take (λ u. length (alpha u) ≡ n) k tail all))

  one_more : take (k + 1) tail ≡ take k tail ++ t ∷ []
  one_more = take_more tail k t within ∙ ap (λ u. take k tail ++ u ∷ []) (sym is)

  next : are_distinct (map alpha (take (k + 1) tail)) ≡ not among
  next =
      ap (λ us. are_distinct (map alpha us)) one_more ∙ ap are_distinct (map-append alpha (take k tail) (t ∷ [])) ∙ distinct-push (map alpha (take k tail)) (alpha t)
      ∙ ap (λ b. b && not (list_any (λ y. same_monomial y (alpha t)) (map alpha (take k tail)))) distinct
      ∙ ap not (ap₂ (λ (ys : List (List ℕ)) (a : List ℕ). list_any (λ y. same_monomial y a) ys) (sym front) (sym copied) ∙ sym (found-among items ks v n of_length all_before))

  pub distinct-more : among ≡ false → (ks' : List K) → ks' ≡ (if among then ks else ks ++ v ∷ [])
      → (map items ks' ≡ map alpha (take (k + 1) tail)) × (are_distinct (map alpha (take (k + 1) tail)) ≡ true)
  distinct-more absent ks' inserted =
      let added : ks' ≡ ks ++ v ∷ [] = inserted ∙ ap (λ (b : Bool). if b then ks else ks ++ v ∷ []) absent in (
        ap (map items) added ∙ map-append items ks (v ∷ []) ∙ ap₂ (λ (ys : List (List ℕ)) (y : List ℕ). ys ++ y ∷ []) front copied ∙ sym (map-append alpha (take k tail) (t ∷ [])) ∙ ap (map alpha) (sym one_more),
        next ∙ ap not absent,
      )

  pub distinct-stop : among ≡ true → are_distinct (map alpha tail) ≡ false
  distinct-stop there =
      ap (λ us. are_distinct (map alpha us)) (sym (take-append-drop (k + 1) tail)) ∙ ap are_distinct (map-append alpha (take (k + 1) tail) (drop (k + 1) tail))
      ∙ distinct-front (map alpha (take (k + 1) tail)) (map alpha (drop (k + 1) tail)) (next ∙ ap not there)
