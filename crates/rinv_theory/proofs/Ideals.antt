-- Members of an ideal, by cofactors; congruence; images under maps of rings.
--   In 𝓐 F f             f is a sum of multiples of the elements F k
--   in-add, in-mul, in-neg, in_one    sums, multiples, opposites, the elements themselves
--   in-in                a member of an ideal whose generators are members
--   in-hom               the image of a member
--   IsCongruent 𝓐 F f g  f - g is a member: -refl, -add, -mul, -member
use Rattle.std.proofs.Common.{◌≡◌, [], ◌∷◌, refl, sym, ◌∙◌, ap, subst}
use Rattle.rinv_theory.proofs.CRing.{CRing, Hom, hom-zero, mul_zero, add_zero, add_neg}
use Rattle.rinv_theory.proofs.Solver.{ring, reading}

-- a sum of multiples of elements of F
pub data In {A I : Type 0} (𝓐 : CRing A) (F : I → A) : A → Type 0 where
  none : In 𝓐 F 𝓐.zero
  more : {f : A} (u : A) (k : I) → In 𝓐 F f → In 𝓐 F (𝓐.add (𝓐.mul u (F k)) f)

module _ {A I : Type 0} (𝓐 : CRing A) (F : I → A) where
  open 𝓐 use {add as ◌+◌, mul as ◌*◌, neg as -◌, one as 𝟙}

  infixl 60 ◌+◌
  infixl 70 ◌*◌
  infix 80 -◌
  -- a sum of members
  pub in-add : {f g : A} → In 𝓐 F f → In 𝓐 F g → In 𝓐 F (f + g)
  in-add none s = subst (In 𝓐 F) (sym (𝓐.zero_add _)) s
  in-add (more u k r) s = subst (In 𝓐 F) (sym (𝓐.add_assoc _ _ _)) (more u k (in-add r s))

  -- a multiple of a member
  pub in-mul : (w : A) {f : A} → In 𝓐 F f → In 𝓐 F (w * f)
  in-mul w none = subst (In 𝓐 F) (sym (mul_zero 𝓐 w)) none
  in-mul w (more {f = f} u k r) = subst (In 𝓐 F) (spread w u (F k) f) (more (w * u) k (in-mul w r))
    where
      spread : (w u x f : A) → w * u * x + w * f ≡ w * (u * x + f)
      spread w u x f = ring 𝓐 (w ∷ u ∷ x ∷ f ∷ []) (search reading depth 30) refl

  -- a generator
  pub in_one : (k : I) → In 𝓐 F (F k)
  in_one k = subst (In 𝓐 F) (add_zero 𝓐 _ ∙ 𝓐.one_mul _) (more 𝟙 k none)

  -- the opposite of a member
  pub in-neg : {f : A} → In 𝓐 F f → In 𝓐 F (- f)
  in-neg {f} r = subst (In 𝓐 F) (minus_one f) (in-mul (- 𝟙) r)
    where
      minus_one : (f : A) → - 𝟙 * f ≡ - f
      minus_one f = ring 𝓐 (f ∷ []) (search reading depth 30) refl

  -- the difference is a member
  abbrev pub IsCongruent : A → A → Type 0
  IsCongruent f g = In 𝓐 F (f + - g)

  -- each element is congruent to itself
  pub congruent-refl : (f : A) → IsCongruent f f
  congruent-refl f = subst (In 𝓐 F) (sym (add_neg 𝓐 f)) none

  -- congruent sums
  pub congruent-add : (f f' g g' : A) → IsCongruent f f' → IsCongruent g g' → IsCongruent (f + g) (f' + g')
  congruent-add f f' g g' r s = subst (In 𝓐 F) (same f f' g g') (in-add r s)
    where
      same : (f f' g g' : A) → f + - f' + (g + - g') ≡ f + g + - (f' + g')
      same f f' g g' = ring 𝓐 (f ∷ f' ∷ g ∷ g' ∷ []) (search reading depth 30) refl

  -- congruent products
  pub congruent-mul : (f f' g g' : A) → IsCongruent f f' → IsCongruent g g' → IsCongruent (f * g) (f' * g')
  congruent-mul f f' g g' r s = subst (In 𝓐 F) (same f f' g g') (in-add (in-mul g r) (in-mul f' s))
    where
      same : (f f' g g' : A) → g * (f + - f') + f' * (g + - g') ≡ f * g + - (f' * g')
      same f f' g g' = ring 𝓐 (f ∷ f' ∷ g ∷ g' ∷ []) (search reading depth 30) refl

  -- what is congruent to a member is one
  pub congruent-member : (f g : A) → IsCongruent f g → In 𝓐 F g → In 𝓐 F f
  congruent-member f g r s = subst (In 𝓐 F) (same f g) (in-add r s)
    where
      same : (f g : A) → f + - g + g ≡ f
      same f g = ring 𝓐 (f ∷ g ∷ []) (search reading depth 30) refl

  -- other generators
  pub in-in : {J : Type 0} (G : J → A) → ((j : J) → In 𝓐 F (G j)) → {f : A} → In 𝓐 G f → In 𝓐 F f
  in-in G h none = none
  in-in G h (more u k r) = in-add (in-mul u (h k)) (in-in G h r)

-- the image of a member
pub in-hom : {A B I : Type 0} {𝓐 : CRing A} {𝓑 : CRing B} (σ : Hom 𝓐 𝓑) (F : I → A) {f : A} → In 𝓐 F f → In 𝓑 (λ k. σ.at (F k)) (σ.at f)
in-hom {𝓑 = 𝓑} σ F none = subst (In 𝓑 (λ k. σ.at (F k))) (sym (hom-zero σ)) none
in-hom {𝓑 = 𝓑} σ F (more {f = f} u k r) = subst (In 𝓑 (λ k. σ.at (F k))) (ap (λ x. 𝓑.add x (σ.at f)) (sym (σ.mul u (F k))) ∙ sym (σ.add _ _)) (more (σ.at u) k (in-hom σ F r))
