-- Members of an ideal by lists of cofactors: what is added, subtracted and multiplied to make others.
--   member-same          what is the same as a member is one
--   member_zero, member-add, member-term, member-subtract    zero, sums, products with a term, differences
--   member_one           an element of the list
--   member_trans         a member of the ideal of members
use Rattle.std.proofs.Common.{◌≡◌, List, [], ◌∷◌, ◌++◌, get_or, refl, sym, ◌∙◌, ap, subst}
use Rattle.std.specs.List.{AllByRecursion}
use Rattle.rinv_algebra.specs.Ring.{RingOps, RingLaws, IsSame}
use Rattle.rinv_algebra.specs.Polynomial.{Polynomial, poly_ops, Term, term_product, difference, opposite}
use Rattle.rinv_algebra.specs.Ideal.{IsMember}
use Rattle.rinv_algebra.proofs.PolynomialLaws.{poly_laws}
use Rattle.rinv_theory.proofs.CRing.{CRing, zero_mul}
use Rattle.rinv_theory.proofs.Solver.{ring, reading}
use Rattle.rinv_theory.proofs.Classes.{class, class_sound, class-add, class-neg, class-zero, class-one}
use Rattle.rinv_theory.proofs.Polynomials.{poly_ring, class-term}
use Rattle.rinv_groebner.proofs.Ascending.{Has, place_of}
use Rattle.rinv_groebner.proofs.MembersOfLists as by_class
use Rattle.rinv_groebner.proofs.StepClasses.{class-term_product}

module _ {E : Type 0} (o : RingOps E) (l : RingLaws o) where
  -- what is the same as a member is one
  pub member-same : (fs : List (Polynomial E)) (f g : Polynomial E) → IsSame (poly_ops o) f g → IsMember o fs f → IsMember o fs g
  member-same fs f g s m = by_class.member-same o l fs f g (sym (class_sound (poly_ops o) (poly_laws o l) f g s)) m

  -- zero
  pub member_zero : (fs : List (Polynomial E)) (f : Polynomial E) → IsSame (poly_ops o) f [] → IsMember o fs f
  member_zero fs f z = by_class.member_times o l fs [] (get_or fs 0 []) f
      (class_sound (poly_ops o) (poly_laws o l) f [] z ∙ class-zero (poly_ops o) (poly_laws o l) ∙ sym (zero_mul (poly_ring o l) _) ∙ ap (λ x. (poly_ring o l).mul x (class (poly_ops o) (get_or fs 0 []))) (sym (class-zero (poly_ops o) (poly_laws o l))))
      (by_class.member_generator o l fs 0)

  -- a sum
  pub member-add : (fs : List (Polynomial E)) (f g : Polynomial E) → IsMember o fs f → IsMember o fs g → IsMember o fs (f ++ g)
  member-add fs f g m n = by_class.member_plus o l fs f g (f ++ g) (class-add (poly_ops o) (poly_laws o l) f g) m n

  -- a product with a term
  pub member-term : (fs : List (Polynomial E)) (t : Term E) (f : Polynomial E) → IsMember o fs f → IsMember o fs (term_product o t f)
  member-term fs (a, c) f m = by_class.member_times o l fs ((a, c) ∷ []) f (term_product o (a, c) f) (class-term_product o l (a, c) f ∙ ap (λ x. (poly_ring o l).mul x (class (poly_ops o) f)) (sym (class-term o l c a))) m

  -- a difference
  pub member-subtract : (fs : List (Polynomial E)) (f g : Polynomial E) → IsMember o fs f → IsMember o fs g → IsMember o fs (difference o f g)
  member-subtract fs f g m n = member-add fs f (opposite o g) m (by_class.member_times o l fs (opposite o (poly_ops o).one) g (opposite o g) negated n)
    where
      minus : {R : Type 0} (𝓡 : CRing R) (x : R) → 𝓡.neg x ≡ 𝓡.mul (𝓡.neg 𝓡.one) x
      minus 𝓡 x = ring 𝓡 (x ∷ []) (search reading depth 30) refl

      negated : class (poly_ops o) (opposite o g) ≡ (poly_ring o l).mul (class (poly_ops o) (opposite o (poly_ops o).one)) (class (poly_ops o) g)
      negated =
          class-neg (poly_ops o) (poly_laws o l) g ∙ minus (poly_ring o l) _
          ∙ ap (λ x. (poly_ring o l).mul x (class (poly_ops o) g)) (ap (poly_ring o l).neg (sym (class-one (poly_ops o) (poly_laws o l))) ∙ sym (class-neg (poly_ops o) (poly_laws o l) (poly_ops o).one))

  -- an element of the list
  pub member_one : {h : Polynomial E} {fs : List (Polynomial E)} → Has h fs → IsMember o fs h
  member_one {h} {fs} m = let (k, inside, e) = place_of [] fs m in subst (IsMember o fs) e (by_class.member_generator o l fs k)

  -- a member of the ideal of members
  pub member_trans : (fs hs : List (Polynomial E)) (f : Polynomial E) → AllByRecursion (IsMember o fs) hs → IsMember o hs f → IsMember o fs f
  member_trans fs hs f all m = by_class.member_trans o l fs hs (by_class.members_at o l fs hs all) f m
