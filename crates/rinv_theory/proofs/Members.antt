-- Members of an ideal by lists of cofactors, as contracts have them, and members in the honest ring, are one thing.
--   generator o fs k     the class of the polynomial at a place of a list, and zero past its end
--   member-in            who has a list of cofactors is a member
--   member_none, member_more    zero, and a multiple of a generator more
--   in-member            a member has a list of cofactors
--   member-substitute    the image of a member, by the images of its cofactors
use Rattle.std.proofs.Common.{◌≡◌, ℕ, zero, suc, List, [], ◌∷◌, ◌++◌, length, map, replicate, get_or, refl, sym, ◌∙◌, ap, ap₂, subst, arith}
use Rattle.std.proofs.lemmas.List.{length-replicate, length-map}
use mathlib.Core.Logic.{∥∥₁_prop, ∥∥₁_map}
use Rattle.rinv_algebra.specs.Ring.{RingOps, RingLaws, IsSame}
use Rattle.rinv_algebra.specs.Polynomial.{Polynomial, poly_ops, product, constant}
use Rattle.rinv_algebra.specs.Value.{value, substitute}
use Rattle.rinv_algebra.specs.Ideal.{combination, IsMember}
use Rattle.rinv_algebra.proofs.PolynomialLaws.{poly_laws}
use Rattle.rinv_algebra.proofs.RingFacts as facts
use Rattle.rinv_theory.proofs.CRing.{CRing}
use Rattle.rinv_theory.proofs.Solver.{ring, reading}
use Rattle.rinv_theory.proofs.Classes.{Class, class, class_sound, class_exact, class_ind, class-add, class-mul, class-zero}
use Rattle.rinv_theory.proofs.Polynomials.{poly_ring}
use Rattle.rinv_theory.proofs.Values.{IsMap, value_map, constant_map}
use Rattle.rinv_theory.proofs.Ideals.{In, in_one, in-in}

module _ {R : Type 0} (𝓡 : CRing R) where
  open 𝓡 use {add as ◌+◌, mul as ◌*◌, zero as 𝟘}

  infixl 60 ◌+◌
  infixl 70 ◌*◌
  first_place : (v u f c : R) → (v + u) * f + c ≡ v * f + (u * f + c)
  first_place v u f c = ring 𝓡 (v ∷ u ∷ f ∷ c ∷ []) (search reading depth 30) refl

  later_place : (a v g c : R) → a + (v * g + c) ≡ v * g + (a + c)
  later_place a v g c = ring 𝓡 (a ∷ v ∷ g ∷ c ∷ []) (search reading depth 30) refl

  past_end : (v : R) → 𝟘 ≡ v * 𝟘 + 𝟘
  past_end v = ring 𝓡 (v ∷ []) (search reading depth 30) refl

get_or-nil : {X : Type 0} {d : X} (k : ℕ) → get_or [] k d ≡ d
get_or-nil zero = refl
get_or-nil (suc k) = refl

module _ {E : Type 0} (o : RingOps E) (l : RingLaws o) where
  -- the generator at a place
  abbrev pub generator : List (Polynomial E) → ℕ → Class (poly_ops o)
  generator fs k = class (poly_ops o) (get_or fs k [])

  abbrev pub poly : Polynomial E → Class (poly_ops o)
  poly f = class (poly_ops o) f

  behind : (f : Polynomial E) (fs : List (Polynomial E)) {x : Class (poly_ops o)} → In (poly_ring o l) (generator fs) x → In (poly_ring o l) (generator (f ∷ fs)) x
  behind f fs r = in-in (poly_ring o l) (generator (f ∷ fs)) (generator fs) (λ k. in_one (poly_ring o l) (generator (f ∷ fs)) (suc k)) r

  -- a product more in a combination
  pub combination-cons : (u f : Polynomial E) (us fs : List (Polynomial E)) → poly (combination o (u ∷ us) (f ∷ fs)) ≡ (poly_ring o l).add ((poly_ring o l).mul (poly u) (poly f)) (poly (combination o us fs))
  unfolding combination
  combination-cons u f us fs = class-add (poly_ops o) (poly_laws o l) _ _ ∙ ap (λ x. (poly_ring o l).add x (poly (combination o us fs))) (class-mul (poly_ops o) (poly_laws o l) u f)

  combination-in : (us fs : List (Polynomial E)) → In (poly_ring o l) (generator fs) (poly (combination o us fs))
  unfolding combination
  combination-in [] fs = subst (In (poly_ring o l) (generator fs)) (sym (class-zero (poly_ops o) (poly_laws o l))) In.none
  combination-in (u ∷ us) [] = subst (In (poly_ring o l) (generator [])) (sym (class-zero (poly_ops o) (poly_laws o l))) In.none
  combination-in (u ∷ us) (f ∷ fs) = subst (In (poly_ring o l) (generator (f ∷ fs))) (sym (combination-cons u f us fs)) (In.more (poly u) 0 (behind f fs (combination-in us fs)))

  -- who has a list of cofactors is a member
  pub member-in : (fs : List (Polynomial E)) (f : Polynomial E) → IsMember o fs f → In (poly_ring o l) (generator fs) (class (poly_ops o) f)
  member-in fs f m = subst (In (poly_ring o l) (generator fs)) (sym (class_sound (poly_ops o) (poly_laws o l) f _ m.sums_up)) (combination-in m.cofactors fs)

  -- v added to the cofactor at a place
  abbrev added : Polynomial E → ℕ → List (Polynomial E) → List (Polynomial E)
  added v k [] = []
  added v zero (u ∷ us) = (v ++ u) ∷ us
  added v (suc k) (u ∷ us) = u ∷ added v k us

  length-added : (v : Polynomial E) (k : ℕ) (us : List (Polynomial E)) → length (added v k us) ≡ length us
  length-added v k [] = refl
  length-added v zero (u ∷ us) = refl
  length-added v (suc k) (u ∷ us) = ap suc (length-added v k us)

  combination-added : (v : Polynomial E) (k : ℕ) (us fs : List (Polynomial E)) → length us ≡ length fs → poly (combination o (added v k us) fs) ≡ (poly_ring o l).add ((poly_ring o l).mul (poly v) (generator fs k)) (poly (combination o us fs))
  unfolding combination
  combination-added v k [] [] e =
      class-zero (poly_ops o) (poly_laws o l) ∙ past_end (poly_ring o l) (poly v)
      ∙ ap₂ (λ x y. (poly_ring o l).add ((poly_ring o l).mul (poly v) x) y) (sym (class-zero (poly_ops o) (poly_laws o l)) ∙ ap poly (sym (get_or-nil k))) (sym (class-zero (poly_ops o) (poly_laws o l)))
  combination-added v k [] (f ∷ fs) e = absurd (omega arith)
  combination-added v k (u ∷ us) [] e = absurd (omega arith)
  combination-added v zero (u ∷ us) (f ∷ fs) e =
      combination-cons (v ++ u) f us fs
      ∙ ap (λ x. (poly_ring o l).add ((poly_ring o l).mul x (poly f)) (poly (combination o us fs))) (class-add (poly_ops o) (poly_laws o l) v u)
      ∙ first_place (poly_ring o l) (poly v) (poly u) (poly f) _
      ∙ ap ((poly_ring o l).add ((poly_ring o l).mul (poly v) (poly f))) (sym (combination-cons u f us fs))
  combination-added v (suc k) (u ∷ us) (f ∷ fs) e =
      combination-cons u f (added v k us) fs
      ∙ ap ((poly_ring o l).add ((poly_ring o l).mul (poly u) (poly f))) (combination-added v k us fs (omega arith))
      ∙ later_place (poly_ring o l) _ (poly v) (generator fs k) _
      ∙ ap ((poly_ring o l).add ((poly_ring o l).mul (poly v) (generator fs k))) (sym (combination-cons u f us fs))

  combination-none : (fs : List (Polynomial E)) → combination o (replicate (length fs) []) fs ≡ []
  unfolding combination product
  combination-none [] = refl
  combination-none (f ∷ fs) = combination-none fs

  -- zero is a member
  pub member_none : (fs : List (Polynomial E)) (f : Polynomial E) → class (poly_ops o) f ≡ (poly_ring o l).zero → IsMember o fs f
  member_none fs f e = record {
    cofactors = replicate (length fs) [];
    as_many = length-replicate (length fs) [];
    sums_up = class_exact (poly_ops o) (poly_laws o l) f _ (e ∙ sym (class-zero (poly_ops o) (poly_laws o l)) ∙ ap poly (sym (combination-none fs)));
  }

  -- a multiple of a generator more
  pub member_more : (fs : List (Polynomial E)) (f v : Polynomial E) (k : ℕ) (g : Polynomial E) → poly f ≡ (poly_ring o l).add ((poly_ring o l).mul (poly v) (generator fs k)) (poly g) → IsMember o fs g → IsMember o fs f
  member_more fs f v k g e m = record {
    cofactors = added v k m.cofactors;
    as_many = length-added v k m.cofactors ∙ m.as_many;
    sums_up = class_exact (poly_ops o) (poly_laws o l) f _ (e ∙ ap ((poly_ring o l).add _) (class_sound (poly_ops o) (poly_laws o l) g _ m.sums_up) ∙ sym (combination-added v k m.cofactors fs m.as_many));
  }

  -- a member has a list of cofactors
  pub in-member : (fs : List (Polynomial E)) {x : Class (poly_ops o)} → In (poly_ring o l) (generator fs) x → (f : Polynomial E) → class (poly_ops o) f ≡ x → ∥ IsMember o fs f ∥₁
  in-member fs In.none f e = ∣ member_none fs f e ∣₁
  in-member fs (In.more {f = x} u k r) f e =
      class_ind (poly_ops o) (poly_laws o l) (λ u. poly f ≡ (poly_ring o l).add ((poly_ring o l).mul u (generator fs k)) x → ∥ IsMember o fs f ∥₁) (λ u. hlevel (∥∥₁_prop {A = IsMember o fs f}))
      (λ v e. class_ind (poly_ops o) (poly_laws o l) (λ x. poly f ≡ (poly_ring o l).add ((poly_ring o l).mul (poly v) (generator fs k)) x → ((g : Polynomial E) → poly g ≡ x → ∥ IsMember o fs g ∥₁) → ∥ IsMember o fs f ∥₁) (λ x. hlevel (∥∥₁_prop {A = IsMember o fs f}))
      (λ g e below. ∥∥₁_map (below g refl) (member_more fs f v k g e)) x e (in-member fs r)) u e

  -- the image of a member, by the images of its cofactors
  pub member-substitute : (images : List (Polynomial E)) (fs : List (Polynomial E)) (f : Polynomial E) → IsMember o fs f → IsMember o (map (substitute o images) fs) (substitute o images f)
  unfolding combination value
  member-substitute images fs f m = record {
    cofactors = map (substitute o images) m.cofactors;
    as_many = length-map m.cofactors (substitute o images) ∙ m.as_many ∙ sym (length-map fs (substitute o images));
    sums_up = facts.then (poly_ops o) (poly_laws o l) (σ.same f _ m.sums_up) (images-combination m.cofactors fs);
  }
    where
      σ : IsMap (poly_ops o) (poly_ops o) (substitute o images)
      σ = value_map o l (poly_ops o) (poly_laws o l) (constant o) (constant_map o l) images

      images-combination : (us fs : List (Polynomial E)) → IsSame (poly_ops o) (substitute o images (combination o us fs)) (combination o (map (substitute o images) us) (map (substitute o images) fs))
      images-combination [] fs = (poly_laws o l).same_refl _
      images-combination (u ∷ us) [] = (poly_laws o l).same_refl _
      images-combination (u ∷ us) (f ∷ fs) = facts.then (poly_ops o) (poly_laws o l) (σ.add _ _) (facts.add2 (poly_ops o) (poly_laws o l) (σ.mul u f) (images-combination us fs))
