-- Members of ideals that are given by lists of polynomials.
--   in-left, in-right    a member for the first, for the second of two lists is one for both
--   in-lists             a member of an ideal whose listed generators are members
--   in-zero              where all generators are zero, so is a member
--   map-at               the generator at a place of the images of a list
--   all_at               what holds of all elements of a list holds of the one at a place
use Rattle.std.proofs.Common.{◌≡◌, ◌⊎◌, ℕ, zero, suc, ◌+◌, ◌-◌, ◌<◌, ◌≤◌, List, [], ◌∷◌, ◌++◌, length, map, get_or, refl, sym, ◌∙◌, ap, ap₂, subst, arith, inl, inr}
use Rattle.std.specs.Prelude.{All}
use Rattle.std.proofs.lemmas.List.{get_or_append_left, get_or-append-add, get_or-append_right, get_or_past}
use Rattle.std.proofs.lemmas.List.Elements.{All-head, All-tail}
use Rattle.rinv_algebra.specs.Ring.{RingOps, RingLaws}
use Rattle.rinv_algebra.specs.Polynomial.{Polynomial, poly_ops}
use Rattle.rinv_algebra.proofs.PolynomialLaws.{poly_laws}
use Rattle.rinv_theory.proofs.CRing.{CRing, mul_zero}
use Rattle.rinv_theory.proofs.Classes.{Class, class, class-zero}
use Rattle.rinv_theory.proofs.Polynomials.{poly_ring}
use Rattle.rinv_theory.proofs.Ideals.{In, in_one, in-in}
use Rattle.rinv_theory.proofs.Members.{generator}
use Rattle.rinv_soundness.proofs.FirstVariables.{low_or_high}

-- the image of a list at a place
pub map-at : {X Y : Type 0} (f : X → Y) (xs : List X) (k : ℕ) (d : X) → get_or (map f xs) k (f d) ≡ f (get_or xs k d)
map-at f [] zero d = refl
map-at f [] (suc k) d = refl
map-at f (x ∷ xs) zero d = refl
map-at f (x ∷ xs) (suc k) d = map-at f xs k d

-- at a place within, for any two values past the end
pub map_within : {X Y : Type 0} (f : X → Y) (xs : List X) (k : ℕ) (d : X) (e : Y) → k < length xs → get_or (map f xs) k e ≡ f (get_or xs k d)
map_within f [] k d e h = absurd (omega arith)
map_within f (x ∷ xs) zero d e h = refl
map_within f (x ∷ xs) (suc k) d e h = map_within f xs k d e (omega arith)

-- within a list the value past its end does not matter
pub within_list : {X : Type 0} (xs : List X) (k : ℕ) (d e : X) → k < length xs → get_or xs k d ≡ get_or xs k e
within_list [] k d e h = absurd (omega arith)
within_list (x ∷ xs) zero d e h = refl
within_list (x ∷ xs) (suc k) d e h = within_list xs k d e (omega arith)

-- what holds of all holds of the one at a place
pub all_at : {X : Type 0} (P : X → Type 0) (xs : List X) (k : ℕ) (d : X) → k < length xs → All P xs → P (get_or xs k d)
all_at P [] k d h a = absurd (omega arith)
all_at P (x ∷ xs) zero d h a = All-head P x xs a
all_at P (x ∷ xs) (suc k) d h a = all_at P xs k d (omega arith) (All-tail P x xs a)

-- a member where all generators are zero
pub in-zero : {A I : Type 0} (𝓐 : CRing A) (F : I → A) → ((k : I) → F k ≡ 𝓐.zero) → {f : A} → In 𝓐 F f → f ≡ 𝓐.zero
in-zero 𝓐 F z In.none = refl
in-zero 𝓐 F z (In.more u k r) = ap₂ 𝓐.add (ap (𝓐.mul u) (z k) ∙ mul_zero 𝓐 u) (in-zero 𝓐 F z r) ∙ 𝓐.zero_add _

module _ {E : Type 0} (o : RingOps E) (l : RingLaws o) where
  -- past the end of a list the generator is zero
  pub generator_past : (fs : List (Polynomial E)) (k : ℕ) → length fs ≤ k → generator o l fs k ≡ (poly_ring o l).zero
  generator_past fs k h = ap (class (poly_ops o)) (get_or_past fs k [] h) ∙ class-zero (poly_ops o) (poly_laws o l)

  -- a member of an ideal whose listed generators are members
  pub in-lists : {I : Type 0} (G : I → Class (poly_ops o)) (fs : List (Polynomial E)) → ((k : ℕ) → k < length fs → In (poly_ring o l) G (generator o l fs k)) → {x : Class (poly_ops o)} → In (poly_ring o l) (generator o l fs) x → In (poly_ring o l) G x
  in-lists G fs h = in-in (poly_ring o l) G (generator o l fs) (λ k. go k (low_or_high k (length fs)))
    where
      go : (k : ℕ) → (k < length fs) ⊎ (length fs ≤ k) → In (poly_ring o l) G (generator o l fs k)
      go k (inl low) = h k low
      go k (inr high) = subst (In (poly_ring o l) G) (sym (generator_past fs k high)) In.none

  -- a member for the first list
  pub in-left : (fs gs : List (Polynomial E)) {x : Class (poly_ops o)} → In (poly_ring o l) (generator o l fs) x → In (poly_ring o l) (generator o l (fs ++ gs)) x
  in-left fs gs = in-lists (generator o l (fs ++ gs)) fs (λ k h. subst (In (poly_ring o l) (generator o l (fs ++ gs))) (ap (class (poly_ops o)) (get_or_append_left fs gs [] k h)) (in_one (poly_ring o l) (generator o l (fs ++ gs)) k))

  -- a member for the second
  pub in-right : (fs gs : List (Polynomial E)) {x : Class (poly_ops o)} → In (poly_ring o l) (generator o l gs) x → In (poly_ring o l) (generator o l (fs ++ gs)) x
  in-right fs gs = in-in (poly_ring o l) (generator o l (fs ++ gs)) (generator o l gs) (λ k. subst (In (poly_ring o l) (generator o l (fs ++ gs))) (ap (class (poly_ops o)) (get_or-append-add fs gs k [])) (in_one (poly_ring o l) (generator o l (fs ++ gs)) (length fs + k)))

  -- the generators of two lists that have a property
  pub generators-append : (P : Class (poly_ops o) → Type 0) (fs gs : List (Polynomial E)) → ((k : ℕ) → k < length fs → P (generator o l fs k)) → ((k : ℕ) → P (generator o l gs k)) → (k : ℕ) → P (generator o l (fs ++ gs) k)
  generators-append P fs gs p q k = go (low_or_high k (length fs))
    where
      go : (k < length fs) ⊎ (length fs ≤ k) → P (generator o l (fs ++ gs) k)
      go (inl h) = subst P (ap (class (poly_ops o)) (sym (get_or_append_left fs gs [] k h))) (p k h)
      go (inr h) = subst P (ap (class (poly_ops o)) (sym (get_or-append_right fs gs (length fs) k [] refl h))) (q (k - length fs))
