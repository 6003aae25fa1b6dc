-- Chosen elements of a list, in copies of their variables.
--   chosen-one, chosen-is    a chosen element
--   mapped-more          one value more
--   copies-more          one copy more
--   chosen-map           the chosen elements, each in its copy
--   copied-nonzero       no zero among what is the same as the copies
use Rattle.std.proofs.Common.{◌≡◌, ℕ, zero, suc, ◌+◌, ◌*◌, ◌<◌, false, not, List, [], ◌∷◌, ◌++◌, map, length, take, get_or, refl, sym, ◌∙◌, ap, subst, All, append-nil, append_assoc, add-zero, add-one, arith}
use Rattle.std.specs.Prelude.{flat_map}
use Rattle.std.specs.List.{list_all, range_with_len}
use Rattle.std.proofs.lemmas.List.{get_or_default, map-append}
use Rattle.std.proofs.lemmas.List.Elements.{All-head, All-tail, AllZip-push}
use Rattle.rinv_algebra.specs.Ring.{RingOps, RingLaws, IsSame}
use Rattle.rinv_algebra.specs.Polynomial.{Polynomial, poly_ops, is_zero, past}
use Rattle.rinv_algebra.proofs.PolynomialLaws.{poly_laws}
use Rattle.rinv_algebra.proofs.Same.{both, and_true}
use Rattle.rinv_algebra.proofs.Degrees.{same-left}
use Rattle.rinv_sub.proofs.Sums.{take-at}
use Rattle.rinv_groebner.specs.Division.{AreSame}
use Rattle.rinv_groebner.specs.Basis.{AreNonzero}
use Rattle.rinv_groebner.specs.Copies.{copies}
use Rattle.rinv_groebner.proofs.CopiesLists.{copies-nonzero}
use Rattle.rinv_buch.proofs.OwnIdeal.{nonzero-each}

-- a chosen element is one of the list
module _ {X : Type 0} (xs : List X) (places : List ℕ) (inside : All (λ i. i < length xs) places) (k place : ℕ) (x : X) (few : k < length places) (at : place ≡ get_or places k place) (is : x ≡ get_or xs place x) where
  place-inside : place < length xs
  place-inside = subst (λ (i : ℕ). i < length xs) (sym at) (inside k place few)

  pub chosen-one : (P : X → Type 0) → All P xs → P x
  chosen-one P all = subst P (sym is) (all place x place-inside)

  pub chosen-is : (d : X) → x ≡ get_or xs place d
  chosen-is d = is ∙ get_or_default xs place x d place-inside

-- one list more
lists-more : {X : Type 0} (f : ℕ → List X) (s c : ℕ) → flat_map f (range_with_len s (suc c)) ≡ flat_map f (range_with_len s c) ++ f (s + c)
lists-more f s zero = append-nil (f s) ∙ ap f (sym (add-zero s))
lists-more f s (suc c) =
    let e : s + 1 + c ≡ s + suc c = omega arith in
    ap (λ xs. f s ++ xs) (lists-more f (s + 1) c ∙ ap (λ (k : ℕ). flat_map f (range_with_len (s + 1) c) ++ f k) e)
    ∙ sym (append_assoc (f s) (flat_map f (range_with_len (s + 1) c)) (f (s + suc c)))

pub copies-more : {E : Type 0} (c v : ℕ) (fs : List (Polynomial E)) → copies (c + 1) v fs ≡ copies c v fs ++ map (past (c * v)) fs
copies-more c v fs =
    let e : 0 + c ≡ c = omega arith in
    ap (λ (k : ℕ). copies k v fs) (add-one c) ∙ lists-more (λ j. map (past (j * v)) fs) 0 c ∙ ap (λ (k : ℕ). copies c v fs ++ map (past (k * v)) fs) e

-- the chosen elements, moved
pub chosen-map : {E : Type 0} (k : ℕ) (hs : List (Polynomial E)) (places : List ℕ) → map (λ i. past k (get_or hs i [])) places ≡ map (past k) (map (λ i. get_or hs i []) places)
chosen-map k hs [] = refl
chosen-map k hs (i ∷ places) = ap (λ gs. past k (get_or hs i []) ∷ gs) (chosen-map k hs places)

module _ {E : Type 0} (o : RingOps E) (l : RingLaws o) where
  -- one value more
  pub mapped-more : {X : Type 0} (value : X → Polynomial E) (xs : List X) (k : ℕ) (x : X) (fs : List (Polynomial E)) (f : Polynomial E) → k < length xs → x ≡ get_or xs k x
      → AreSame o fs (map value (take k xs)) → IsSame (poly_ops o) f (value x) → AreSame o (fs ++ f ∷ []) (map value (take (k + 1) xs))
  mapped-more value xs k x fs f few at so_far here =
      subst (λ (gs : List (Polynomial E)). AreSame o (fs ++ f ∷ []) gs) (sym (ap (λ ys. map value ys) (take-at xs k x few at) ∙ map-append value (take k xs) (x ∷ [])))
      (AllZip-push (IsSame (poly_ops o)) fs (map value (take k xs)) f (value x) so_far here)

  chosen-nonzero : (hs : List (Polynomial E)) (places : List ℕ) → All (λ h. is_zero o h ≡ false) hs → All (λ k. k < length hs) places → AreNonzero o (map (λ k. get_or hs k []) places)
  chosen-nonzero hs [] n inside = refl
  chosen-nonzero hs (k ∷ places) n inside =
      and_true (not (is_zero o (get_or hs k []))) _ (ap not (n k [] (All-head (λ k. k < length hs) k places inside))) (chosen-nonzero hs places n (All-tail (λ k. k < length hs) k places inside))

  nonzero-same : (fs hs : List (Polynomial E)) → AreSame o fs hs → AreNonzero o hs → AreNonzero o fs
  nonzero-same [] [] s n = refl
  nonzero-same [] (h ∷ hs) s n = absurd s
  nonzero-same (f ∷ fs) [] s n = absurd s
  nonzero-same (f ∷ fs) (h ∷ hs) s n =
      let parts = both (not (is_zero o h)) (list_all (λ g. not (is_zero o g)) hs) n in
      and_true (not (is_zero o f)) _ (ap not (same-left (poly_ops o) (poly_laws o l) f h [] s.0) ∙ parts.0) (nonzero-same fs hs s.1 parts.1)

  -- what is the same as the copies of chosen elements
  pub copied-nonzero : (c v : ℕ) (fs hs : List (Polynomial E)) (places : List ℕ) → AreSame o fs (copies c v (map (λ k. get_or hs k []) places)) → All (λ h. is_zero o h ≡ false) hs → All (λ k. k < length hs) places → All (λ h. is_zero o h ≡ false) fs
  copied-nonzero c v fs hs places s n inside = nonzero-each o fs (nonzero-same fs (copies c v (map (λ k. get_or hs k []) places)) s (copies-nonzero o c v (map (λ k. get_or hs k []) places) (chosen-nonzero hs places n inside)))
