-- A polynomial y in Z and the space's variables, whose multiple in the action's ideal is y itself, moved and compared crosswise with d:
-- where no member of the ideal is made of standard monomials, the parts of y are invariant over d, modulo the group's ideal at μ.
--   turned s d t         d*t(moved) - d(moved)*t
--   crossed s d y        the same of y: parts-crossed
--   crossed_member       it lies in the action's ideal and the group's at μ
--   parts_member         so its parts lie in the group's ideal at μ, where standard monomials are independent
use Rattle.std.proofs.Common.{◌≡◌, refl, sym, ◌∙◌, ap, ap₂, subst, inl}
use mathlib.Core.Logic.{∥∥₁_elim, ∥∥₁_map, ∥∥₁_prop}
use Rattle.rinv_algebra.specs.Residue.{residue_ops}
use Rattle.rinv_algebra.proofs.ResidueLaws.{residue_laws}
use Rattle.rinv_algebra.proofs.ResidueField.{residue_field_laws}
use Rattle.rinv_theory.proofs.CRing.{Hom, hom-neg}
use Rattle.rinv_theory.proofs.Classes.{class_dec}
use Rattle.rinv_theory.proofs.Monoid.{Monomial, monomials}
use Rattle.rinv_theory.proofs.TermRing.{constants-at, coefficient-zero}
use Rattle.rinv_theory.proofs.Universal.{change-term}
use Rattle.rinv_theory.proofs.Ideals.{In, in-add, in-mul, in-neg, in_one, in-in, in-hom}
use Rattle.rinv_theory.proofs.ListOrders.{order_of}
use Rattle.rinv_theory.proofs.LastVariable.{later, later_order}
use Rattle.rinv_theory.proofs.Fields.{class_inverse}
use Rattle.rinv_soundness.proofs.Substituting.{move, move-constant}
use Rattle.rinv_defs.specs.System.{System, group_count, space_count}
use Rattle.rinv_invariance.proofs.Extensions.{extension, Linear, linear, each, each-unique, each-coefficient}
use Rattle.rinv_invariance.proofs.NormalForms.{normal, each-normal, normal-zero, normal_zero_member}
use Rattle.rinv_invariance.proofs.FiniteForms.{Forms, forms}
use Rattle.rinv_invariance.proofs.Flatness.{Multiples, confiners}
use Rattle.rinv_invariance.proofs.Points.{Scalar, PolyClass, poly_terms}
use Rattle.rinv_invariance.proofs.Movement.{Moving, moving, still, coordinates, coefficientwise, coefficientwise-still}
use Rattle.rinv_invariance.proofs.MovedMaps.{moved_space, moved_both, moved_all, shifted, moved_both-later}
use Rattle.rinv_invariance.proofs.MovedIdeal.{group_ideal, graph_ideal, whole}
use Rattle.rinv_invariance.proofs.Parts.{part, part_linear, parts, part-coefficient, parts-each, parts-zero, parts-add, parts-neg, parts-still, parts-scale, parts-moved}

module _ (s : System) where
  open (moving s).ring use {add as ◌+◌, mul as ◌·◌, neg as -◌, zero as 𝟘}

  infixl 60 ◌+◌
  infixl 70 ◌·◌
  infix 80 -◌
  -- in the space's variables
  abbrev behind_z : PolyClass s.p → PolyClass s.p
  behind_z d = (move (residue_ops s.p) (residue_laws s.p) (space_count s)).at d

  abbrev behind_group : PolyClass s.p → PolyClass s.p
  behind_group d = (move (residue_ops s.p) (residue_laws s.p) (group_count s)).at d

  -- d*t(moved) - d(moved)*t
  abbrev pub turned : PolyClass s.p → PolyClass s.p → Moving s
  turned d t = (still s).at d · (moved_space s).at t + - ((moved_space s).at d · (still s).at t)

  -- the same of a polynomial in Z and the space's variables
  abbrev pub crossed : PolyClass s.p → PolyClass s.p → Moving s
  crossed d y = (still s).at (behind_z d) · (moved_both s).at y + - ((moved_both s).at (behind_z d) · (still s).at y)

  -- its parts
  pub parts-crossed : (b : Monomial) (d y : PolyClass s.p) → parts s b (crossed d y) ≡ turned d (part s b y)
  parts-crossed b d y =
      parts-add s b _ _
      ∙ ap₂ ◌+◌ (first ∙ ap₂ ◌·◌ refl (parts-moved s b y)) (parts-neg s b _ ∙ ap -◌ (second ∙ ap₂ ◌·◌ refl (parts-still s b y)))
    where
      scaled : (x w z : Moving s) → x ≡ (shifted s (space_count s)).at w → parts s b (x · z) ≡ w · parts s b z
      scaled x w z e = ap (λ x. parts s b (x · z)) e ∙ ap (parts s b) ((moving s).ring.mul_comm _ z) ∙ parts-scale s b z w ∙ (moving s).ring.mul_comm _ w

      first : parts s b ((still s).at (behind_z d) · (moved_both s).at y) ≡ (still s).at d · parts s b ((moved_both s).at y)
      first = scaled _ ((still s).at d) _ (sym (coefficientwise-still s _ (move-constant (residue_ops s.p) (residue_laws s.p) (space_count s)) d))

      second : parts s b ((moved_both s).at (behind_z d) · (still s).at y) ≡ (moved_space s).at d · parts s b ((still s).at y)
      second = scaled _ ((moved_space s).at d) _ (moved_both-later s d)

  -- a member of the action's ideal, as a constant
  still_member : {x : PolyClass s.p} → In (poly_terms s.p).ring (graph_ideal s) x → In (moving s).ring (whole s) ((still s).at x)
  still_member r = in-in (moving s).ring (whole s) (λ k. (still s).at (graph_ideal s k)) (λ k. subst (In (moving s).ring (whole s)) (sym (constants-at (moving s) (graph_ideal s k))) (in_one (moving s).ring (whole s) (inl k))) (in-hom (still s) (graph_ideal s) r)

  -- a map of the coefficients, at each
  module _ (φ : Hom (poly_terms s.p).ring (poly_terms s.p).ring) (φ_number : (c : Scalar s.p) → φ.at ((poly_terms s.p).term c monomials.one) ≡ (poly_terms s.p).term c monomials.one) where
    as_linear : Linear (coordinates s) (coordinates s)
    unfolding extension
    as_linear = linear (coordinates s) (coordinates s) φ (λ c. ap φ.at (constants-at (poly_terms s.p) c) ∙ φ_number c ∙ sym (constants-at (poly_terms s.p) c))

    coefficientwise-each : (u : Moving s) → (coefficientwise s φ φ_number).at u ≡ each as_linear u
    unfolding as_linear linear
    coefficientwise-each = each-unique as_linear (coefficientwise s φ φ_number).at (coefficientwise s φ φ_number).add (λ a m. change-term (moving s) (moving s) φ a m)

    -- the coefficients of normal forms
    coefficientwise-normal : (nf : Monomial → PolyClass s.p) (u : Moving s) (k : Monomial) → φ.at ((moving s).coefficient (normal (coordinates s) nf u) k) ≡ (moving s).coefficient (normal (coordinates s) nf ((coefficientwise s φ φ_number).at u)) k
    unfolding as_linear linear
    coefficientwise-normal nf u k = sym (each-coefficient as_linear (normal (coordinates s) nf u) k) ∙ ap (λ x. (moving s).coefficient x k) (each-normal as_linear nf u ∙ ap (normal (coordinates s) nf) (sym (coefficientwise-each u)))

  parts-normal : (b : Monomial) (nf : Monomial → PolyClass s.p) (u : Moving s) → parts s b (normal (coordinates s) nf u) ≡ normal (coordinates s) nf (parts s b u)
  parts-normal b nf u = parts-each s b _ ∙ each-normal (part_linear s b) nf u ∙ ap (normal (coordinates s) nf) (sym (parts-each s b u))

  module _ (retract : Hom (poly_terms s.p).ring (poly_terms s.p).ring) (retract_number : (c : Scalar s.p) → retract.at ((poly_terms s.p).term c monomials.one) ≡ (poly_terms s.p).term c monomials.one)
      (retract_moved : (x : PolyClass s.p) → (coefficientwise s retract retract_number).at ((moved_both s).at x) ≡ (moved_both s).at x)
      (all_moved : (x : PolyClass s.p) → (moved_all s).at (behind_group x) ≡ (shifted s (group_count s)).at ((moved_both s).at x))
      (moved_member : (x : PolyClass s.p) → In (poly_terms s.p).ring (graph_ideal s) x → ∥ In (moving s).ring (whole s) ((moved_all s).at x) ∥₁) where
    -- crosswise, a member lies in both ideals
    pub crossed_member : (d y : PolyClass s.p) → In (poly_terms s.p).ring (graph_ideal s) (behind_group y) → ∥ In (moving s).ring (whole s) ((shifted s (group_count s)).at (crossed d y)) ∥₁
    crossed_member d y r = ∥∥₁_map (moved_member _ r) (λ q. subst (In (moving s).ring (whole s)) (sym spread) (in-add (moving s).ring (whole s) (in-mul (moving s).ring (whole s) _ q) (in-neg (moving s).ring (whole s) (in-mul (moving s).ring (whole s) _ (still_member r)))))
      where
        shift : Hom (moving s).ring (moving s).ring
        shift = shifted s (group_count s)

        shift-still : (x : PolyClass s.p) → (shifted s (group_count s)).at ((still s).at x) ≡ (still s).at (behind_group x)
        shift-still x = coefficientwise-still s _ (move-constant (residue_ops s.p) (residue_laws s.p) (group_count s)) x

        spread : (shifted s (group_count s)).at (crossed d y) ≡ (shifted s (group_count s)).at ((still s).at (behind_z d)) · (moved_all s).at (behind_group y) + - ((shifted s (group_count s)).at ((moved_both s).at (behind_z d)) · (still s).at (behind_group y))
        spread =
            (shifted s (group_count s)).add _ _
            ∙ ap₂ ◌+◌ ((shifted s (group_count s)).mul _ _ ∙ ap₂ ◌·◌ refl (sym (all_moved y))) (hom-neg (shifted s (group_count s)) _ ∙ ap -◌ ((shifted s (group_count s)).mul _ _ ∙ ap₂ ◌·◌ refl (shift-still y)))

    -- crosswise, what is kept by the retraction is kept
    crossed-kept : (d y : PolyClass s.p) → retract.at (behind_z d) ≡ behind_z d → retract.at y ≡ y → (coefficientwise s retract retract_number).at (crossed d y) ≡ crossed d y
    crossed-kept d y e h =
        (coefficientwise s retract retract_number).add _ _
        ∙ ap₂ ◌+◌ ((coefficientwise s retract retract_number).mul _ _ ∙ ap₂ ◌·◌ (coefficientwise-still s retract retract_number _ ∙ ap (still s).at e) (retract_moved y))
        (hom-neg (coefficientwise s retract retract_number) _ ∙ ap -◌ ((coefficientwise s retract retract_number).mul _ _ ∙ ap₂ ◌·◌ (retract_moved _) (coefficientwise-still s retract retract_number _ ∙ ap (still s).at h)))

    module _ (Reducible : Monomial → Type 0)
        (standard : (w : PolyClass s.p) → retract.at w ≡ w → ((b : Monomial) → Reducible b → part s b w ≡ (poly_terms s.p).ring.zero) → In (poly_terms s.p).ring (graph_ideal s) (behind_group w) → w ≡ (poly_terms s.p).ring.zero) where
      -- the parts lie in the group's ideal at μ
      pub parts_member : (d y : PolyClass s.p) → retract.at (behind_z d) ≡ behind_z d → retract.at y ≡ y → ((b : Monomial) → Reducible b → turned d (part s b y) ≡ 𝟘) → In (poly_terms s.p).ring (graph_ideal s) (behind_group y)
          → (b : Monomial) → ∥ In (moving s).ring (Multiples (coordinates s) (group_ideal s)) (turned d (part s b y)) ∥₁
      parts_member d y e h lacks r b =
          ∥∥₁_elim (crossed_member d y r) ∥∥₁_prop (λ q. ∥∥₁_elim (confiners (coordinates s) (group_ideal s) (graph_ideal s) q) ∥∥₁_prop (λ k.
          ∥∥₁_elim (forms (poly_terms s.p) (group_ideal s) (order_of later later_order) (class_dec (residue_ops s.p) (residue_laws s.p)) (class_inverse (residue_ops s.p) (residue_laws s.p) (residue_field_laws s.p)) k.0) ∥∥₁_prop (λ f. killed f (k.1 f.at f.kills))))
        where
          killed : {vs : _} (f : Forms (poly_terms s.p) (group_ideal s) vs) → ((k : Monomial) → In (poly_terms s.p).ring (graph_ideal s) ((moving s).coefficient (normal (coordinates s) f.at ((shifted s (group_count s)).at (crossed d y))) k)) → ∥ In (moving s).ring (Multiples (coordinates s) (group_ideal s)) (turned d (part s b y)) ∥₁
          killed f c = subst (λ x. ∥ In (moving s).ring (Multiples (coordinates s) (group_ideal s)) x ∥₁) (parts-crossed b d y)
              (normal_zero_member (coordinates s) f.at (group_ideal s) f.near (parts s b (crossed d y)) (sym (parts-normal b f.at (crossed d y)) ∙ ap (parts s b) nothing ∙ parts-zero s b))
            where
              coefficient : Monomial → PolyClass s.p
              coefficient k = (moving s).coefficient (normal (coordinates s) f.at (crossed d y)) k

              lacking : (k b : Monomial) → Reducible b → part s b (coefficient k) ≡ (poly_terms s.p).ring.zero
              lacking k b q = part-coefficient s b _ k ∙ ap (λ x. (moving s).coefficient x k) (parts-normal b f.at (crossed d y) ∙ ap (normal (coordinates s) f.at) (parts-crossed b d y ∙ lacks b q) ∙ normal-zero (coordinates s) f.at) ∙ coefficient-zero (moving s) k

              none : (k : Monomial) → coefficient k ≡ (poly_terms s.p).ring.zero
              none k = standard (coefficient k) (coefficientwise-normal retract retract_number f.at (crossed d y) k ∙ ap (λ x. (moving s).coefficient (normal (coordinates s) f.at x) k) (crossed-kept d y e h)) (lacking k)
                  (subst (In (poly_terms s.p).ring (graph_ideal s)) (sym (coefficientwise-normal (move (residue_ops s.p) (residue_laws s.p) (group_count s)) (move-constant (residue_ops s.p) (residue_laws s.p) (group_count s)) f.at (crossed d y) k)) (c k))

              nothing : normal (coordinates s) f.at (crossed d y) ≡ 𝟘
              nothing = (moving s).coefficient_ext _ _ (λ k. none k ∙ sym (coefficient-zero (moving s) k))
