-- Lists in further variables.
--   wide-nonzero         no zero among what is the same as chosen elements
--   columns-same         columns of lists that are the same
--   same-more, lists-more    one more
--   basis-is             the kept elements, ready for division
use Rattle.std.proofs.Common.{◌≡◌, ◌<◌, ◌+◌, ℕ, false, List, [], ◌∷◌, ◌++◌, length, get_or, map, take, ap, sym, subst, subst₂, ◌∙◌, All, nat_lt}
use Rattle.std.specs.List.{AllZip}
use Rattle.std.proofs.lemmas.List.{map_push}
use Rattle.std.proofs.lemmas.List.Elements.{All-nil, All-cons, All-head, All-tail, AllZip-push}
use Rattle.rinv_algebra.specs.Ring.{RingOps, RingLaws, IsSame}
use Rattle.rinv_algebra.specs.Polynomial.{Polynomial, poly_ops, is_zero}
use Rattle.rinv_algebra.proofs.PolynomialLaws.{poly_laws}
use Rattle.rinv_algebra.proofs.Degrees.{same-left}
use Rattle.rinv_algebra.specs.Residue.{residue_ops}
use Rattle.rinv_algebra.specs.Order.{grevlex}
use Rattle.rinv_groebner.specs.Division.{AreSame}
use Rattle.rinv_groebner.specs.Reduced.{kept}
use Rattle.rinv_groebner.proofs.UniqueSteps.{same-at}
use Rattle.rinv_sub.proofs.Sums.{take-at}
use Rattle.rinv_div.specs.Divisors.{AreDivisors}
use Rattle.rinv_buch.specs.Kinds.{Found}
use Rattle.rinv_cofactors.specs.Combining.{column}
use Rattle.rinv_defs.specs.System.{System, Poly}
use Rattle.rinv_parts.specs.Points.{ArePolynomials}
use Rattle.rinv_laws.specs.Proofs.{kept_elements}
use Rattle.rinv_change.specs.declared.kept.KeptBasis.{KeptBasis}
use Rattle.rinv_change.specs.Asked.{IsChangeRing, IsKeptBasis}

module _ {E : Type 0} (o : RingOps E) (l : RingLaws o) where
  -- no zero among what is the same as chosen elements
  pub wide-nonzero : (fs hs : List (Polynomial E)) (places : List ℕ) → AreSame o fs (map (λ k. get_or hs k []) places) → All (λ h. is_zero o h ≡ false) hs → All (λ k. k < length hs) places → All (λ h. is_zero o h ≡ false) fs
  wide-nonzero [] hs places same n inside = All-nil (λ h. is_zero o h ≡ false)
  wide-nonzero (f ∷ fs) hs [] same n inside = absurd same
  wide-nonzero (f ∷ fs) hs (k ∷ places) same n inside = All-cons (λ h. is_zero o h ≡ false) f fs
      (same-left (poly_ops o) (poly_laws o l) f (get_or hs k []) [] same.0 ∙ n k [] (All-head (λ k. k < length hs) k places inside))
      (wide-nonzero fs hs places same.1 n (All-tail (λ k. k < length hs) k places inside))

  -- columns of lists that are the same
  pub columns-same : (ls ms : List (List (Polynomial E))) → AllZip (AreSame o) ls ms → (m : ℕ) → AreSame o (column ls m) (column ms m)
  columns-same [] [] s m = tt
  columns-same [] (b ∷ ms) s m = absurd s
  columns-same (a ∷ ls) [] s m = absurd s
  columns-same (a ∷ ls) (b ∷ ms) s m = (same-at o l a b s.0 m, columns-same ls ms s.1 m)

  -- one polynomial more
  pub same-more : (xs : List (Polynomial E)) (k : ℕ) (x : Polynomial E) (fs : List (Polynomial E)) (f : Polynomial E) → k < length xs → x ≡ get_or xs k x → AreSame o fs (take k xs) → IsSame (poly_ops o) f x → AreSame o (fs ++ f ∷ []) (take (k + 1) xs)
  same-more xs k x fs f few at so_far here = subst (λ (gs : List (Polynomial E)). AreSame o (fs ++ f ∷ []) gs) (sym (take-at xs k x few at)) (AllZip-push (IsSame (poly_ops o)) fs (take k xs) f x so_far here)

  -- one list more, of those at the places
  pub lists-more : {W : Type 0} (view : W → List (Polynomial E)) (all : List (List (Polynomial E))) (places : List ℕ) (k place : ℕ) (made : List W) (u : W) → k < length places → place ≡ get_or places k place
      → AllZip (AreSame o) (map view made) (map (λ i. get_or all i []) (take k places)) → AreSame o (view u) (get_or all place [])
      → AllZip (AreSame o) (map view (made ++ u ∷ [])) (map (λ i. get_or all i []) (take (k + 1) places))
  lists-more view all places k place made u low at so_far here =
      subst₂ (AllZip (AreSame o)) (sym (map_push view made u))
      (sym (ap (λ (ks : List ℕ). map (λ i. get_or all i []) ks) (take-at places k place low at) ∙ map_push (λ i. get_or all i []) (take k places) place))
      (AllZip-push (AreSame o) (map view made) (map (λ i. get_or all i []) (take k places)) (view u) (get_or all place []) so_far here)

-- the kept elements, in a ring of its own and at places that were found
pub basis-is : (s : System) (found : Found ℕ) (b : KeptBasis) (p v q : ℕ) (fs gs : List Poly) (places others : List ℕ) → IsChangeRing s p v → q ≡ s.p → fs ≡ found.polys → gs ≡ found.polys → others ≡ places
    → map (λ k. get_or fs k []) places ≡ kept (residue_ops q) grevlex fs → AreSame (residue_ops p) b.polys.items (map (λ k. get_or gs k []) others) → ArePolynomials p v b.polys.items
    → AreDivisors (residue_ops p) (λ c. nat_lt c p) v grevlex b.polys.items b.divisors.list.items → IsKeptBasis s found b
basis-is s found b p v q fs gs places others ring field first second at is same normal divisors = record {
  same = subst₂ (λ (r : ℕ) (hs : List Poly). AreSame (residue_ops r) b.polys.items hs) ring.field (chosen-are s found q fs gs places others field first second at is) same;
  normal = subst₂ (λ (r w : ℕ). ArePolynomials r w b.polys.items) ring.field ring.vars normal;
  divisors = subst₂ (λ (r w : ℕ). AreDivisors (residue_ops r) (λ c. nat_lt c r) w grevlex b.polys.items b.divisors.list.items) ring.field ring.vars divisors;
}
  where
    chosen-are : (s : System) (found : Found ℕ) (q : ℕ) (fs gs : List Poly) (places others : List ℕ) → q ≡ s.p → fs ≡ found.polys → gs ≡ found.polys → others ≡ places
        → map (λ k. get_or fs k []) places ≡ kept (residue_ops q) grevlex fs → map (λ k. get_or gs k []) others ≡ kept_elements s found
    chosen-are s found q fs gs places others a b d e h = rw (d, e, ← a, ← b) h
