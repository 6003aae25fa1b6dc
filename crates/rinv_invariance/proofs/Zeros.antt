-- Maps of the polynomials' ring that are zero at each of a list of polynomials.
--   Zeros s h fs         h is zero at each of fs
--   zeros-left, zeros-right, zeros_both    of two lists, one after the other
--   zeros-at, zeros-from, zeros-map    by places
--   member-zero          so it is at members of their ideal, and at each of a list of members
--   differences-equal    where it is zero at the differences of two points, their images are equal
use Rattle.std.proofs.Common.{◌≡◌, ℕ, zero, suc, ◌<◌, List, [], ◌∷◌, ◌++◌, length, map, get_or, refl, sym, ◌∙◌, ap, ap₂, arith}
use Rattle.std.specs.Prelude.{All}
use Rattle.std.proofs.lemmas.List.Elements.{All-head, All-tail}
use Rattle.rinv_algebra.specs.Residue.{residue_ops}
use Rattle.rinv_algebra.specs.Polynomial.{poly_ops, opposite}
use Rattle.rinv_algebra.specs.Ideal.{IsMember}
use Rattle.rinv_algebra.proofs.ResidueLaws.{residue_laws}
use Rattle.rinv_algebra.proofs.PolynomialLaws.{poly_laws}
use Rattle.rinv_theory.proofs.CRing.{CRing, Hom, hom-zero, hom-neg, add_cancel, add_neg}
use Rattle.rinv_theory.proofs.Classes.{class-add, class-neg, class-zero}
use Rattle.rinv_theory.proofs.Ideals.{In, in-hom}
use Rattle.rinv_theory.proofs.Members.{generator, member-in}
use Rattle.rinv_soundness.proofs.GeneratorLists.{in-zero}
use Rattle.rinv_defs.specs.System.{System, Poly, differences}
use Rattle.rinv_invariance.proofs.Points.{PolyClass, poly_terms, poly_class}

module _ (s : System) {A : Type 0} {𝓐 : CRing A} (h : Hom (poly_terms s.p).ring 𝓐) where
  abbrev value : Poly → A
  value f = h.at (poly_class s.p f)

  -- h is zero at each
  abbrev pub Zeros : List Poly → Type 0
  Zeros [] = Unit {0}
  Zeros (f ∷ fs) = (value f ≡ 𝓐.zero) × Zeros fs

  -- at the first of two lists
  pub zeros-left : (fs gs : List Poly) → Zeros (fs ++ gs) → Zeros fs
  zeros-left [] gs z = tt
  zeros-left (f ∷ fs) gs z = (z.0, zeros-left fs gs z.1)

  -- at the second
  pub zeros-right : (fs gs : List Poly) → Zeros (fs ++ gs) → Zeros gs
  zeros-right [] gs z = z
  zeros-right (f ∷ fs) gs z = zeros-right fs gs z.1

  -- at both
  pub zeros_both : (fs gs : List Poly) → Zeros fs → Zeros gs → Zeros (fs ++ gs)
  zeros_both [] gs y z = z
  zeros_both (f ∷ fs) gs y z = (y.0, zeros_both fs gs y.1 z)

  -- at the polynomial at a place, and at zero past the end
  pub zeros-at : (fs : List Poly) → Zeros fs → (k : ℕ) → value (get_or fs k []) ≡ 𝓐.zero
  zeros-at [] z zero = ap h.at (class-zero (poly_ops (residue_ops s.p)) (poly_laws (residue_ops s.p) (residue_laws s.p))) ∙ hom-zero h
  zeros-at [] z (suc k) = ap h.at (class-zero (poly_ops (residue_ops s.p)) (poly_laws (residue_ops s.p) (residue_laws s.p))) ∙ hom-zero h
  zeros-at (f ∷ fs) z zero = z.0
  zeros-at (f ∷ fs) z (suc k) = zeros-at fs z.1 k

  -- from the places
  pub zeros-from : (fs : List Poly) → ((k : ℕ) → value (get_or fs k []) ≡ 𝓐.zero) → Zeros fs
  zeros-from [] z = tt
  zeros-from (f ∷ fs) z = (z 0, zeros-from fs (λ k. z (suc k)))

  -- at the images of a list, by places
  pub zeros-map : (g : Poly → Poly) (fs : List Poly) → ((k : ℕ) → k < length fs → value (g (get_or fs k [])) ≡ 𝓐.zero) → Zeros (map g fs)
  zeros-map g [] z = tt
  zeros-map g (f ∷ fs) z = (z 0 (omega arith), zeros-map g fs (λ k l. z (suc k) (omega (arith, l))))

  -- at a member of the classes' ideal
  pub in-value : (gens : List Poly) → Zeros gens → {x : PolyClass s.p} → In (poly_terms s.p).ring (generator (residue_ops s.p) (residue_laws s.p) gens) x → h.at x ≡ 𝓐.zero
  in-value gens z r = in-zero 𝓐 _ (zeros-at gens z) (in-hom h _ r)

  -- at a member of their ideal
  pub member-zero : (gens : List Poly) → Zeros gens → (f : Poly) → IsMember (residue_ops s.p) gens f → value f ≡ 𝓐.zero
  member-zero gens z f m = in-value gens z (member-in (residue_ops s.p) (residue_laws s.p) gens f m)

  -- at a list of members
  pub members-zero : (gens : List Poly) → Zeros gens → (fs : List Poly) → All (IsMember (residue_ops s.p) gens) fs → Zeros fs
  members-zero gens z [] m = tt
  members-zero gens z (f ∷ fs) m = (member-zero gens z f (All-head (IsMember (residue_ops s.p) gens) f fs m), members-zero gens z fs (All-tail (IsMember (residue_ops s.p) gens) f fs m))

  difference-value : (f g : Poly) → value (f ++ opposite (residue_ops s.p) g) ≡ 𝓐.add (value f) (𝓐.neg (value g))
  difference-value f g =
      ap h.at (class-add (poly_ops (residue_ops s.p)) (poly_laws (residue_ops s.p) (residue_laws s.p)) f (opposite (residue_ops s.p) g)) ∙ h.add _ _
      ∙ ap (𝓐.add (value f)) (ap h.at (class-neg (poly_ops (residue_ops s.p)) (poly_laws (residue_ops s.p) (residue_laws s.p)) g) ∙ hom-neg h _)

  -- where it is zero at the differences of two points, their images are equal
  pub differences-equal : (a b : List Poly) → length a ≡ length b → Zeros (differences s a b) → map value a ≡ map value b
  differences-equal [] [] e z = refl
  differences-equal [] (g ∷ b) e z = absurd (omega (arith, e))
  differences-equal (f ∷ a) [] e z = absurd (omega (arith, e))
  differences-equal (f ∷ a) (g ∷ b) e z = ap₂ ◌∷◌ (add_cancel 𝓐 _ _ (𝓐.neg (value g)) (sym (difference-value f g) ∙ z.0 ∙ sym (add_neg 𝓐 _))) (differences-equal a b (omega (arith, e)) z.1)

  -- and the other way round
  pub equal-differences : (a b : List Poly) → map value a ≡ map value b → Zeros (differences s a b)
  equal-differences [] b e = tt
  equal-differences (f ∷ a) [] e = tt
  equal-differences (f ∷ a) (g ∷ b) e = (difference-value f g ∙ ap (λ x. 𝓐.add x (𝓐.neg (value g))) (first e) ∙ add_neg 𝓐 _, equal-differences a b (rest e))
    where
      head_or : A → List A → A
      head_or d [] = d
      head_or d (x ∷ xs) = x

      tail_of : List A → List A
      tail_of [] = []
      tail_of (x ∷ xs) = xs

      first : map value (f ∷ a) ≡ map value (g ∷ b) → value f ≡ value g
      first e = ap (head_or 𝓐.zero) e

      rest : map value (f ∷ a) ≡ map value (g ∷ b) → map value a ≡ map value b
      rest e = ap tail_of e
