-- Congruence modulo the ideal of a list of polynomials.
--   congruent-same, congruent-then    what is the same, and one after the other
--   congruent-add, congruent-less, congruent-mul, congruent-times_all    sums, differences, products
--   congruent-rest       what a division leaves
--   congruent-member, congruent_zero    members of the ideal
use Rattle.std.proofs.Common.{◌≡◌, ℕ, List, [], ◌∷◌, ◌++◌, refl, sym, ap, ap₂, ◌∙◌, IsTrue}
use Rattle.std.specs.declared.cmp.Ordering.{Ordering}
use Rattle.rinv_algebra.specs.Ring.{RingOps, RingLaws, IsSame}
use Rattle.rinv_algebra.specs.Polynomial.{Polynomial, poly_ops, product, difference, is_zero}
use Rattle.rinv_algebra.specs.Value.{times_all}
use Rattle.rinv_algebra.specs.Ideal.{IsMember}
use Rattle.rinv_algebra.proofs.PolynomialLaws.{poly_laws}
use Rattle.rinv_theory.proofs.CRing.{CRing, add_neg}
use Rattle.rinv_theory.proofs.Solver.{ring, reading}
use Rattle.rinv_theory.proofs.Classes.{class, class_sound, class_exact, class-add, class-mul, class-zero}
use Rattle.rinv_theory.proofs.Polynomials.{poly_ring}
use Rattle.rinv_groebner.specs.Division.{Step, IsDivision}
use Rattle.rinv_groebner.proofs.Generates.{own_members}
use Rattle.rinv_groebner.proofs.MemberLists.{member-same, member_zero, member-add, member-subtract}
use Rattle.rinv_groebner.proofs.MembersOfLists.{member_plus, member_times}
use Rattle.rinv_groebner.proofs.NormalForms.{steps-congruent}
use Rattle.rinv_groebner.proofs.StepClasses.{class-difference}
use Rattle.rinv_modulo.specs.Congruence.{AreCongruent}

module _ {R : Type 0} (𝓡 : CRing R) where
  open 𝓡 use {add as ◌+◌, mul as ◌*◌, neg as -◌}

  infixl 60 ◌+◌
  infixl 70 ◌*◌
  infix 80 -◌
  passed : (f g h : R) → f + - h ≡ f + - g + (g + - h)
  passed f g h = ring 𝓡 (f ∷ g ∷ h ∷ []) (search reading depth 30) refl

  summed : (f g r s : R) → f + g + - (r + s) ≡ f + - r + (g + - s)
  summed f g r s = ring 𝓡 (f ∷ g ∷ r ∷ s ∷ []) (search reading depth 30) refl

  lessened : (f r g s : R) → f + - r + - (g + - s) ≡ f + - g + - (r + - s)
  lessened f r g s = ring 𝓡 (f ∷ r ∷ g ∷ s ∷ []) (search reading depth 30) refl

  multiplied : (f g r s : R) → f * g + - (r * s) ≡ g * (f + - r) + r * (g + - s)
  multiplied f g r s = ring 𝓡 (f ∷ g ∷ r ∷ s ∷ []) (search reading depth 30) refl

  restored : (f r : R) → f ≡ f + - r + r
  restored f r = ring 𝓡 (f ∷ r ∷ []) (search reading depth 30) refl

module _ {E : Type 0} (o : RingOps E) (l : RingLaws o) (hs : List (Polynomial E)) where
  pub congruent-same : (f g : Polynomial E) → IsSame (poly_ops o) f g → AreCongruent o hs f g
  congruent-same f g s = member_zero o l hs (difference o f g) (class_exact (poly_ops o) (poly_laws o l) _ _ (
      class-difference o l f g ∙ ap (λ x. (poly_ring o l).add x ((poly_ring o l).neg (class (poly_ops o) g))) (class_sound (poly_ops o) (poly_laws o l) f g s) ∙ add_neg (poly_ring o l) _ ∙ sym (class-zero (poly_ops o) (poly_laws o l))))

  pub congruent-then : (f g h : Polynomial E) → AreCongruent o hs f g → AreCongruent o hs g h → AreCongruent o hs f h
  congruent-then f g h a b = member_plus o l hs (difference o f g) (difference o g h) (difference o f h)
      (class-difference o l f h ∙ passed (poly_ring o l) _ (class (poly_ops o) g) _ ∙ ap₂ (poly_ring o l).add (sym (class-difference o l f g)) (sym (class-difference o l g h))) a b

  pub congruent-add : (f g r s : Polynomial E) → AreCongruent o hs f r → AreCongruent o hs g s → AreCongruent o hs (f ++ g) (r ++ s)
  congruent-add f g r s a b = member_plus o l hs (difference o f r) (difference o g s) (difference o (f ++ g) (r ++ s))
      (class-difference o l (f ++ g) (r ++ s) ∙ ap₂ (λ x y. (poly_ring o l).add x ((poly_ring o l).neg y)) (class-add (poly_ops o) (poly_laws o l) f g) (class-add (poly_ops o) (poly_laws o l) r s)
      ∙ summed (poly_ring o l) _ _ _ _ ∙ ap₂ (poly_ring o l).add (sym (class-difference o l f r)) (sym (class-difference o l g s))) a b

  pub congruent-less : (f g r s : Polynomial E) → AreCongruent o hs f r → AreCongruent o hs g s → AreCongruent o hs (difference o f g) (difference o r s)
  congruent-less f g r s a b = member-same o l hs (difference o (difference o f r) (difference o g s)) (difference o (difference o f g) (difference o r s)) (class_exact (poly_ops o) (poly_laws o l) _ _ (
      twice f r g s ∙ lessened (poly_ring o l) _ _ _ _ ∙ sym (twice f g r s))) (member-subtract o l hs _ _ a b)
    where
      twice : (x y z w : Polynomial E) → class (poly_ops o) (difference o (difference o x y) (difference o z w))
          ≡ (poly_ring o l).add ((poly_ring o l).add (class (poly_ops o) x) ((poly_ring o l).neg (class (poly_ops o) y))) ((poly_ring o l).neg ((poly_ring o l).add (class (poly_ops o) z) ((poly_ring o l).neg (class (poly_ops o) w))))
      twice x y z w = class-difference o l _ _ ∙ ap₂ (λ a b. (poly_ring o l).add a ((poly_ring o l).neg b)) (class-difference o l x y) (class-difference o l z w)

  pub congruent-mul : (f g r s : Polynomial E) → AreCongruent o hs f r → AreCongruent o hs g s → AreCongruent o hs (product o f g) (product o r s)
  congruent-mul f g r s a b = member_plus o l hs (product o g (difference o f r)) (product o r (difference o g s)) (difference o (product o f g) (product o r s))
      (class-difference o l (product o f g) (product o r s) ∙ ap₂ (λ x y. (poly_ring o l).add x ((poly_ring o l).neg y)) (class-mul (poly_ops o) (poly_laws o l) f g) (class-mul (poly_ops o) (poly_laws o l) r s)
      ∙ multiplied (poly_ring o l) _ _ _ _ ∙ ap₂ (poly_ring o l).add (times g f r) (times r g s))
      (member_times o l hs g (difference o f r) _ (class-mul (poly_ops o) (poly_laws o l) g (difference o f r)) a)
      (member_times o l hs r (difference o g s) _ (class-mul (poly_ops o) (poly_laws o l) r (difference o g s)) b)
    where
      times : (x y z : Polynomial E) → (poly_ring o l).mul (class (poly_ops o) x) ((poly_ring o l).add (class (poly_ops o) y) ((poly_ring o l).neg (class (poly_ops o) z))) ≡ class (poly_ops o) (product o x (difference o y z))
      times x y z = sym (class-mul (poly_ops o) (poly_laws o l) x (difference o y z) ∙ ap ((poly_ring o l).mul (class (poly_ops o) x)) (class-difference o l y z))

  pub congruent-times_all : (x y : Polynomial E) (gs : List (Polynomial E)) → AreCongruent o hs x y → AreCongruent o hs (times_all (poly_ops o) x gs) (times_all (poly_ops o) y gs)
  unfolding times_all
  congruent-times_all x y [] a = a
  congruent-times_all x y (g ∷ gs) a = congruent-times_all (product o x g) (product o y g) gs (congruent-mul x g y g a (congruent-same g g ((poly_laws o l).same_refl g)))

  -- what a division leaves
  pub congruent-rest : (cmp : List ℕ → List ℕ → Ordering) (f r : Polynomial E) (steps : List (Step E)) → IsDivision o cmp hs f steps r → AreCongruent o hs f r
  congruent-rest cmp f r steps d = steps-congruent o l cmp hs hs (own_members o l hs) f steps r d.by_steps

  -- what is congruent to a member is one
  pub congruent-member : (f r : Polynomial E) → AreCongruent o hs f r → IsMember o hs r → IsMember o hs f
  congruent-member f r a m = member-same o l hs (difference o f r ++ r) f (class_exact (poly_ops o) (poly_laws o l) _ _ (
      class-add (poly_ops o) (poly_laws o l) _ _ ∙ ap (λ x. (poly_ring o l).add x (class (poly_ops o) r)) (class-difference o l f r) ∙ sym (restored (poly_ring o l) _ _)))
      (member-add o l hs _ _ a m)

  -- and what is congruent to zero
  pub congruent_zero : (f r : Polynomial E) → AreCongruent o hs f r → IsTrue (is_zero o r) → IsMember o hs f
  congruent_zero f r a z = congruent-member f r a (member_zero o l hs r z)
