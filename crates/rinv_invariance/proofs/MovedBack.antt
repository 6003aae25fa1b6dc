-- A moved denominator is no zero divisor modulo the group's ideal at μ: the inverse of μ moves it back, and μ moves the rest there again.
--   replaced s xs        the point xs put for the space's point, where μ is kept
--   IsReturning u        u is congruent to itself moved by the inverse of μ and then by μ
--   returning-still, returning-moved, returning-add, -mul, -neg    of constants, moved polynomials, sums, products and opposites
--   moved_out            a moved factor can be left out of a member
use Rattle.std.proofs.Common.{◌≡◌, List, [], length, map, refl, sym, ◌∙◌, ap, ap₂, subst, append-nil}
use Rattle.std.proofs.lemmas.List.{length-map}
use mathlib.Core.Logic.{∥∥₁_elim, ∥∥₁_prop}
use Rattle.rinv_algebra.specs.Residue.{residue_ops}
use Rattle.rinv_algebra.proofs.ResidueLaws.{residue_laws}
use Rattle.rinv_algebra.proofs.ResidueField.{residue_field_laws}
use Rattle.rinv_theory.proofs.CRing.{CRing, Hom, compose, hom-neg, mul_one}
use Rattle.rinv_theory.proofs.Classes.{class_dec}
use Rattle.rinv_theory.proofs.Monoid.{Monomial, monomials}
use Rattle.rinv_theory.proofs.TermRing.{constants, constants-at, monomial-term, split_term}
use Rattle.rinv_theory.proofs.Universal.{agree, evaluation, evaluation-term, change-term}
use Rattle.rinv_theory.proofs.Ideals.{In, in_one, in-in, in-hom}
use Rattle.rinv_theory.proofs.Of.{Of}
use Rattle.rinv_theory.proofs.Variables.{IsFront}
use Rattle.rinv_theory.proofs.ListOrders.{order_of}
use Rattle.rinv_theory.proofs.LastVariable.{later, later_order}
use Rattle.rinv_theory.proofs.Fields.{class_inverse, poly_domain}
use Rattle.rinv_soundness.proofs.SystemForms.{HasForm}
use Rattle.rinv_defs.specs.System.{System, group_count, space_count, variables}
use Rattle.rinv_invariance.proofs.QuotientRing.{QuotientBy, quotient_ring, quotient_map, quotient-zero, quotient-member}
use Rattle.rinv_invariance.proofs.Extensions.{extension}
use Rattle.rinv_invariance.proofs.Flatness.{Multiples, leave_out}
use Rattle.rinv_invariance.proofs.Points.{Scalar, scalars, PolyClass, poly_terms, natural, map-map, map_agree, at, act, inverse, IsPoint, images, keep-act, keep-inverse}
use Rattle.rinv_invariance.proofs.PieceValues.{at-constant, piece}
use Rattle.rinv_invariance.proofs.PointLaws.{LawsAt, there, back}
use Rattle.rinv_invariance.proofs.GraphPoints.{length-images, images-first, each_front}
use Rattle.rinv_invariance.proofs.Movement.{Moving, moving, still, number, coordinates, in_movers, movers, stills, still_over, movers_over, number-at}
use Rattle.rinv_invariance.proofs.MovedMaps.{moved_space}
use Rattle.rinv_invariance.proofs.MovedIdeal.{group_ideal}

module _ (s : System) where
  -- a point put for the space's, where μ is kept
  pub replaced : List (Moving s) → Hom (moving s).ring (moving s).ring
  replaced xs = evaluation (moving s) (moving s).ring (at s (number s) xs) (λ m. (moving s).term (poly_terms s.p).ring.one m) (λ m n. sym (monomial-term (moving s) m n (poly_terms s.p).ring.one)) (moving s).term_one

  module _ (xs : List (Moving s)) where
    -- at a term
    replaced-term : (x : PolyClass s.p) (m : Monomial) → (replaced xs).at ((moving s).term x m) ≡ (moving s).ring.mul ((at s (number s) xs).at x) ((moving s).term (poly_terms s.p).ring.one m)
    unfolding replaced
    replaced-term x m = evaluation-term (moving s) (moving s).ring (at s (number s) xs) (λ m. (moving s).term (poly_terms s.p).ring.one m) (λ m n. sym (monomial-term (moving s) m n (poly_terms s.p).ring.one)) (moving s).term_one x m

    -- at constants
    replaced-still : (x : PolyClass s.p) → (replaced xs).at ((still s).at x) ≡ (at s (number s) xs).at x
    replaced-still x = ap (replaced xs).at (constants-at (moving s) x) ∙ replaced-term x monomials.one ∙ ap ((moving s).ring.mul _) (moving s).term_one ∙ mul_one (moving s).ring _

    -- numbers stay
    replaced-number : (c : Scalar s.p) → (replaced xs).at ((number s).at c) ≡ (number s).at c
    replaced-number c = ap (replaced xs).at (number-at s c ∙ sym (constants-at (moving s) _)) ∙ replaced-still _ ∙ at-constant s (number s) xs c

    -- polynomials in μ stay
    replaced-movers : (x : PolyClass s.p) → (replaced xs).at ((in_movers s).at x) ≡ (in_movers s).at x
    replaced-movers = agree (poly_terms s.p) (moving s).ring (λ x. (replaced xs).at ((in_movers s).at x)) (in_movers s).at (λ x y. ap (replaced xs).at ((in_movers s).add x y) ∙ (replaced xs).add _ _) (in_movers s).add
        (λ c m. ap (replaced xs).at (at_term c m) ∙ replaced-term _ m ∙ ap (λ x. (moving s).ring.mul x ((moving s).term (poly_terms s.p).ring.one m)) (at-constant s (number s) xs c ∙ number-at s c) ∙ sym (split_term (moving s) _ m) ∙ sym (at_term c m))
      where
        at_term : (c : Scalar s.p) (m : Monomial) → (in_movers s).at ((poly_terms s.p).term c m) ≡ (moving s).term ((poly_terms s.p).term c monomials.one) m
        at_term c m = change-term (poly_terms s.p) (moving s) (constants (poly_terms s.p)) c m ∙ ap (λ x. (moving s).term x m) (constants-at (poly_terms s.p) c)

    replaced-point : map (replaced xs).at (movers s) ≡ movers s
    replaced-point = map-map (replaced xs).at _ (variables s 0 (group_count s)) ∙ map_agree _ _ (λ f. replaced-movers _) (variables s 0 (group_count s))

    -- the space's point becomes xs
    replaced-stills : length xs ≡ space_count s → map (replaced xs).at (stills s 0 (space_count s)) ≡ xs
    replaced-stills size =
        map-map (replaced xs).at _ (variables s 0 (space_count s)) ∙ map_agree _ _ (λ f. replaced-still _) (variables s 0 (space_count s))
        ∙ subst (λ ys. images s (number s) (at s (number s) ys) (variables s 0 (space_count s)) ≡ xs) (append-nil xs) (piece s (number s) [] xs [] 0 (space_count s) refl size)

    -- values at points
    replaced-at : (a : List (Moving s)) (x : PolyClass s.p) → (replaced xs).at ((at s (number s) a).at x) ≡ (at s (number s) (map (replaced xs).at a)).at x
    replaced-at a x = natural (poly_terms s.p) (number s) (number s) (replaced xs) replaced-number a x

    replaced-act : (ys : List (Moving s)) → map (replaced xs).at (act s (number s) (movers s) ys) ≡ act s (number s) (movers s) (map (replaced xs).at ys)
    replaced-act ys = keep-act s (number s) (number s) (replaced xs) replaced-number (movers s) ys ∙ ap (λ m. act s (number s) m (map (replaced xs).at ys)) replaced-point

    replaced-back : (ys : List (Moving s)) → map (replaced xs).at (act s (number s) (inverse s (number s) (movers s)) ys) ≡ act s (number s) (inverse s (number s) (movers s)) (map (replaced xs).at ys)
    replaced-back ys =
        keep-act s (number s) (number s) (replaced xs) replaced-number (inverse s (number s) (movers s)) ys
        ∙ ap (λ m. act s (number s) m (map (replaced xs).at ys)) (keep-inverse s (number s) (number s) (replaced xs) replaced-number (movers s) ∙ ap (inverse s (number s)) replaced-point)

    -- the group's ideal at μ stays
    replaced-member : {u : Moving s} → In (moving s).ring (Multiples (coordinates s) (group_ideal s)) u → In (moving s).ring (Multiples (coordinates s) (group_ideal s)) ((replaced xs).at u)
    unfolding extension
    replaced-member r = in-in (moving s).ring (Multiples (coordinates s) (group_ideal s)) (λ k. (replaced xs).at (Multiples (coordinates s) (group_ideal s) k))
        (λ k. subst (In (moving s).ring (Multiples (coordinates s) (group_ideal s))) (sym (replaced-movers (group_ideal s k))) (in_one (moving s).ring (Multiples (coordinates s) (group_ideal s)) k)) (in-hom (replaced xs) (Multiples (coordinates s) (group_ideal s)) r)

  -- modulo the group's ideal at μ
  abbrev Residual : Type 0
  Residual = QuotientBy (moving s).ring (Multiples (coordinates s) (group_ideal s))

  abbrev residual : CRing Residual
  residual = quotient_ring (moving s).ring (Multiples (coordinates s) (group_ideal s))

  abbrev into_residual : Hom (moving s).ring residual
  into_residual = quotient_map (moving s).ring (Multiples (coordinates s) (group_ideal s))

  abbrev pub κ : Hom (scalars s.p) residual
  κ = compose into_residual (number s)

  keeps : (c : Scalar s.p) → into_residual.at ((number s).at c) ≡ κ.at c
  unfolding compose
  keeps c = refl

  abbrev mover : List Residual
  mover = map into_residual.at (movers s)

  abbrev space : List Residual
  space = map into_residual.at (stills s 0 (space_count s))

  -- the space's point, moved by μ and by its inverse
  abbrev there_x : List (Moving s)
  there_x = act s (number s) (movers s) (stills s 0 (space_count s))

  abbrev back_x : List (Moving s)
  back_x = act s (number s) (inverse s (number s) (movers s)) (stills s 0 (space_count s))

  -- by the inverse, and then by μ again
  abbrev round : Moving s → Residual
  round u = into_residual.at ((replaced there_x).at ((replaced back_x).at u))

  -- u is congruent to what it becomes so
  abbrev pub IsReturning : Moving s → Type 0
  IsReturning u = round u ≡ into_residual.at u

  -- of a sum
  pub returning-add : (u v : Moving s) → IsReturning u → IsReturning v → IsReturning ((moving s).ring.add u v)
  returning-add u v e f = ap (λ x. into_residual.at ((replaced there_x).at x)) ((replaced back_x).add u v) ∙ ap into_residual.at ((replaced there_x).add _ _) ∙ into_residual.add _ _ ∙ ap₂ residual.add e f ∙ sym (into_residual.add u v)

  -- of a product
  pub returning-mul : (u v : Moving s) → IsReturning u → IsReturning v → IsReturning ((moving s).ring.mul u v)
  returning-mul u v e f = ap (λ x. into_residual.at ((replaced there_x).at x)) ((replaced back_x).mul u v) ∙ ap into_residual.at ((replaced there_x).mul _ _) ∙ into_residual.mul _ _ ∙ ap₂ residual.mul e f ∙ sym (into_residual.mul u v)

  -- of an opposite
  pub returning-neg : (u : Moving s) → IsReturning u → IsReturning ((moving s).ring.neg u)
  returning-neg u e = ap (λ x. into_residual.at ((replaced there_x).at x)) (hom-neg (replaced back_x) u) ∙ ap into_residual.at (hom-neg (replaced there_x) _) ∙ hom-neg into_residual _ ∙ ap residual.neg e ∙ sym (hom-neg into_residual u)

  module _ (form : HasForm s) (laws : LawsAt s κ) where
    -- μ is a point of the group
    mover_point : IsPoint s κ mover
    unfolding extension
    mover_point = record {
      size = length-map (movers s) _ ∙ length-images s (number s) (in_movers s) (movers_over s) 0 (group_count s);
      zero = λ k. sym (natural (poly_terms s.p) (number s) κ into_residual keeps (movers s) (group_ideal s k)) ∙ ap into_residual.at (sym (images-first s (number s) (in_movers s) (movers_over s) (group_count s) (each_front s (group_count s) s.ideal form.ideal_front k)))
          ∙ quotient-zero (moving s).ring _ (in_one (moving s).ring (Multiples (coordinates s) (group_ideal s)) k);
    }

    length-space : length space ≡ space_count s
    length-space = length-map (stills s 0 (space_count s)) _ ∙ length-images s (number s) (still s) (still_over s) 0 (space_count s)

    length-there : length there_x ≡ space_count s
    length-there = length-map s.action _ ∙ form.action_count

    length-back : length back_x ≡ space_count s
    length-back = length-map s.action _ ∙ form.action_count

    into-act : (a ys : List (Moving s)) → map into_residual.at (act s (number s) a ys) ≡ act s κ (map into_residual.at a) (map into_residual.at ys)
    into-act a ys = keep-act s (number s) κ into_residual keeps a ys

    into-at : (a : List (Moving s)) (x : PolyClass s.p) → into_residual.at ((at s (number s) a).at x) ≡ (at s κ (map into_residual.at a)).at x
    into-at a x = natural (poly_terms s.p) (number s) κ into_residual keeps a x

    into-back : map into_residual.at back_x ≡ act s κ (inverse s κ mover) space
    into-back = into-act _ _ ∙ ap (λ a. act s κ a space) (keep-inverse s (number s) κ into_residual keeps (movers s))

    -- constants, at the space's point
    into-still : {d : PolyClass s.p} → Of (poly_terms s.p) (IsFront (space_count s)) d → into_residual.at ((still s).at d) ≡ (at s κ space).at d
    unfolding compose
    into-still {d} r = images-first s κ (compose into_residual (still s)) (λ c. ap into_residual.at (still_over s c)) (space_count s) r ∙ ap (λ a. (at s κ a).at d) (sym (map-map into_residual.at _ (variables s 0 (space_count s))))

    -- a moved polynomial, moved back
    moved-back : {d : PolyClass s.p} → Of (poly_terms s.p) (IsFront (space_count s)) d → into_residual.at ((replaced back_x).at ((moved_space s).at d)) ≡ into_residual.at ((still s).at d)
    moved-back {d} r =
        ap into_residual.at (replaced-at back_x there_x d) ∙ into-at _ d
        ∙ ap (λ a. (at s κ a).at d) (ap (map into_residual.at) (replaced-act back_x _ ∙ ap (act s (number s) (movers s)) (replaced-stills back_x length-back)) ∙ into-act _ _ ∙ ap (act s κ mover) into-back ∙ there s κ laws mover space mover_point length-space)
        ∙ sym (into-still r)

    -- the space's point, moved back and there
    round-space : map into_residual.at (map (replaced there_x).at back_x) ≡ space
    round-space =
        ap (map into_residual.at) (replaced-back there_x _ ∙ ap (act s (number s) (inverse s (number s) (movers s))) (replaced-stills there_x length-there)) ∙ into-act _ _
        ∙ ap₂ (act s κ) (keep-inverse s (number s) κ into_residual keeps (movers s)) (into-act _ _) ∙ back s κ laws mover space mover_point length-space

    -- constants return
    pub returning-still : {d : PolyClass s.p} → Of (poly_terms s.p) (IsFront (space_count s)) d → IsReturning ((still s).at d)
    returning-still {d} r = ap (λ x. into_residual.at ((replaced there_x).at x)) (replaced-still back_x d) ∙ ap into_residual.at (replaced-at there_x back_x d) ∙ into-at _ d ∙ ap (λ a. (at s κ a).at d) round-space ∙ sym (into-still r)

    -- and moved polynomials do
    pub returning-moved : (d : PolyClass s.p) → IsReturning ((moved_space s).at d)
    returning-moved d =
        ap (λ x. into_residual.at ((replaced there_x).at x)) (replaced-at back_x there_x d) ∙ ap into_residual.at (replaced-at there_x _ d) ∙ into-at _ d
        ∙ ap (λ a. (at s κ a).at d) (ap (map into_residual.at) (ap (map (replaced there_x).at) (replaced-act back_x _ ∙ ap (act s (number s) (movers s)) (replaced-stills back_x length-back)) ∙ replaced-act there_x _) ∙ into-act _ _ ∙ ap (act s κ mover) round-space ∙ sym (into-act _ _))
        ∙ sym (into-at there_x d)

    abbrev IsMemberAt : Moving s → Type 0
    IsMemberAt u = In (moving s).ring (Multiples (coordinates s) (group_ideal s)) u

    -- a factor in the space's variables can be left out
    pub factor_out : (d : PolyClass s.p) → (d ≡ (poly_terms s.p).ring.zero → ⊥) → (u : Moving s) → IsMemberAt ((moving s).ring.mul ((still s).at d) u) → ∥ IsMemberAt u ∥₁
    factor_out d nonzero u r = leave_out (coordinates s) (group_ideal s) (order_of later later_order) (class_dec (residue_ops s.p) (residue_laws s.p)) (class_inverse (residue_ops s.p) (residue_laws s.p) (residue_field_laws s.p)) d
        (λ x e. (poly_domain (residue_ops s.p) (residue_laws s.p) (residue_field_laws s.p)).no_divisors x d ((poly_terms s.p).ring.mul_comm x d ∙ e) nonzero) u (subst IsMemberAt (ap (λ x. (moving s).ring.mul x u) (constants-at (moving s) d)) r)

    -- and so can a moved one
    pub moved_out : {d : PolyClass s.p} → Of (poly_terms s.p) (IsFront (space_count s)) d → (d ≡ (poly_terms s.p).ring.zero → ⊥) → (u : Moving s) → IsReturning u → IsMemberAt ((moving s).ring.mul ((moved_space s).at d) u) → ∥ IsMemberAt u ∥₁
    moved_out {d} front nonzero u returning r =
        ∥∥₁_elim (quotient-member (moving s).ring (Multiples (coordinates s) (group_ideal s)) _ moved_there) ∥∥₁_prop (λ q. ∥∥₁_elim (factor_out d nonzero ((replaced back_x).at u) q) ∥∥₁_prop (λ q.
        quotient-member (moving s).ring (Multiples (coordinates s) (group_ideal s)) u (sym returning ∙ quotient-zero (moving s).ring _ (replaced-member there_x q))))
      where
        moved_there : into_residual.at ((moving s).ring.mul ((still s).at d) ((replaced back_x).at u)) ≡ residual.zero
        moved_there =
            into_residual.mul _ _ ∙ ap (λ x. residual.mul x (into_residual.at ((replaced back_x).at u))) (sym (moved-back front)) ∙ sym (into_residual.mul _ _) ∙ ap into_residual.at (sym ((replaced back_x).mul _ _))
            ∙ quotient-zero (moving s).ring _ (replaced-member back_x r)
