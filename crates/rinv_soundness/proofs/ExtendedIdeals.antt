-- The extended ideal of lists is that of classes: d*f, for some nonzero d in the space's variables, lies in the action's ideal.
--   InIdeal s fs h       h, moved past the group's variables, is a member of the ideal of fs
--   extended-has         what is in the extended ideal has such a multiple
--   has-extended         and the other way round
use Rattle.std.proofs.Common.{◌≡◌, ℕ, ◌*◌, List, [], Bool, true, false, true≢false, refl, sym, ◌∙◌, ap, ap₂, subst}
use Rattle.std.specs.Prelude.{IsFalse}
use mathlib.Core.Logic.{∥∥₁_prop, ∥∥₁_elim, ∥∥₁_map}
use Rattle.rinv_algebra.specs.Ring.{RingOps, RingLaws, FieldLaws}
use Rattle.rinv_algebra.specs.Residue.{residue_ops}
use Rattle.rinv_algebra.specs.Polynomial.{poly_ops, past, is_zero}
use Rattle.rinv_algebra.proofs.ResidueLaws.{residue_laws}
use Rattle.rinv_algebra.proofs.ResidueField.{residue_field_laws}
use Rattle.rinv_algebra.proofs.PolynomialLaws.{poly_laws}
use Rattle.rinv_theory.proofs.Classes.{Class, class, class_sound, class_exact, class-zero}
use Rattle.rinv_theory.proofs.Polynomials.{poly_ring}
use Rattle.rinv_theory.proofs.Ideals.{In, in-add, in-mul}
use Rattle.rinv_theory.proofs.Members.{generator, member-in, in-member}
use Rattle.rinv_theory.proofs.Variables.{in_variables-of, of-in_variables, past-class}
use Rattle.rinv_theory.proofs.Fields.{fraction_laws}
use Rattle.rinv_defs.specs.System.{System, Poly, group_count, space_count}
use Rattle.rinv_defs.specs.Generators.{rational_ops}
use Rattle.rinv_defs.specs.Extended.{FractionPoly, InExtendedIdeal, action_ideal}
use Rattle.rinv_soundness.proofs.Substituting.{move}
use Rattle.rinv_soundness.proofs.OverFractions.{over_ring, nested, over, constant_over, split_over-class, scale-class}
use Rattle.rinv_soundness.proofs.HasMultiples.{HasMultiple}

-- a class that is not zero, of a polynomial that is not
pub nonzero-class : {E : Type 0} (o : RingOps E) (l : RingLaws o) (f : _) → IsFalse (is_zero o f) → class (poly_ops o) f ≡ (poly_ring o l).zero → ⊥
nonzero-class o l f h e = true≢false (sym (class_exact (poly_ops o) (poly_laws o l) f _ (e ∙ sym (class-zero (poly_ops o) (poly_laws o l)))) ∙ h)

-- and the other way round
pub class-nonzero : {E : Type 0} (o : RingOps E) (l : RingLaws o) (f : _) → (class (poly_ops o) f ≡ (poly_ring o l).zero → ⊥) → IsFalse (is_zero o f)
class-nonzero o l f h = go (is_zero o f) refl
  where
    go : (b : Bool) → is_zero o f ≡ b → is_zero o f ≡ false
    go false e = e
    go true e = absurd (h (class_sound (poly_ops o) (poly_laws o l) f [] e ∙ class-zero (poly_ops o) (poly_laws o l)))

module _ (s : System) where
  abbrev pub ops : RingOps ℕ
  ops = residue_ops s.p

  abbrev pub laws : RingLaws ops
  laws = residue_laws s.p

  abbrev pub field : FieldLaws ops
  field = residue_field_laws s.p

  -- h lies in the ideal of fs, where its variables stand behind the group's
  abbrev pub InIdeal : List Poly → Class (poly_ops (residue_ops s.p)) → Type 0
  InIdeal fs h = ∥ In (poly_ring ops laws) (generator ops laws fs) ((move ops laws (group_count s)).at h) ∥₁

  -- it is kept by sums
  pub ideal-add : (fs : List Poly) (x y : Class (poly_ops (residue_ops s.p))) → InIdeal fs x → InIdeal fs y → InIdeal fs ((poly_ring ops laws).add x y)
  ideal-add fs x y r t = ∥∥₁_elim r ∥∥₁_prop (λ r. ∥∥₁_map t (λ t. subst (In (poly_ring ops laws) (generator ops laws fs)) (sym ((move ops laws (group_count s)).add x y)) (in-add (poly_ring ops laws) (generator ops laws fs) r t)))

  -- and by multiples
  pub ideal-mul : (fs : List Poly) (u x : Class (poly_ops (residue_ops s.p))) → InIdeal fs x → InIdeal fs ((poly_ring ops laws).mul u x)
  ideal-mul fs u x r = ∥∥₁_map r (λ r. subst (In (poly_ring ops laws) (generator ops laws fs)) (sym ((move ops laws (group_count s)).mul u x)) (in-mul (poly_ring ops laws) (generator ops laws fs) ((move ops laws (group_count s)).at u) r))

  -- a multiple of f by some d lies in the ideal of fs
  abbrev pub Extended : List Poly → Class (poly_ops (rational_ops s.p)) → Type 0
  Extended fs x = HasMultiple ops laws field (space_count s) (InIdeal fs) x

  -- what is in the extended ideal has such a multiple
  pub extended-has : (f : FractionPoly) → InExtendedIdeal s f → Extended (action_ideal s) (class (poly_ops (rational_ops s.p)) f)
  extended-has f e = record {
    d = class (poly_ops ops) e.d;
    h = class (poly_ops ops) e.h;
    d_in_space = in_variables-of ops laws (space_count s) e.d e.d_in_space;
    h_in_both = in_variables-of ops laws (2 * space_count s) e.h e.h_in_both;
    nonzero = nonzero-class ops laws e.d e.nonzero;
    multiple = sym (split_over-class ops laws field (space_count s) e.h) ∙ class_sound (poly_ops (rational_ops s.p)) (poly_laws (rational_ops s.p) (fraction_laws ops laws field)) _ _ e.multiple ∙ scale-class ops laws field e.d f;
    property = ∣ subst (In (poly_ring ops laws) (generator ops laws (action_ideal s))) (past-class ops laws (group_count s) e.h) (member-in ops laws (action_ideal s) _ e.member) ∣₁;
  }

  -- what has such a multiple is in the extended ideal
  pub has-extended : {x : Class (poly_ops (rational_ops s.p))} → Extended (action_ideal s) x → (f : FractionPoly) → class (poly_ops (rational_ops s.p)) f ≡ x → ∥ InExtendedIdeal s f ∥₁
  has-extended {x} a f at =
      ∥∥₁_elim (of-in_variables ops laws (space_count s) a.d_in_space) ∥∥₁_prop (λ (d, in_space, d_at).
      ∥∥₁_elim (of-in_variables ops laws (2 * space_count s) a.h_in_both) ∥∥₁_prop (λ (h, in_both, h_at).
      ∥∥₁_elim a.property ∥∥₁_prop (λ inside. ∥∥₁_map (in-member ops laws (action_ideal s) inside (past (group_count s) h) (past-class ops laws (group_count s) h ∙ ap (move ops laws (group_count s)).at h_at)) (λ m. record {
        d = d;
        h = h;
        d_in_space = in_space;
        h_in_both = in_both;
        nonzero = class-nonzero ops laws d (λ z. a.nonzero (sym d_at ∙ z));
        multiple = class_exact (poly_ops (rational_ops s.p)) (poly_laws (rational_ops s.p) (fraction_laws ops laws field)) _ _ (
            split_over-class ops laws field (space_count s) h ∙ ap (λ y. (over ops laws field).at ((nested ops laws field (space_count s)).at y)) h_at ∙ a.multiple
            ∙ ap₂ (λ y z. (over_ring ops laws field).mul (constant_over ops laws field y) z) (sym d_at) (sym at) ∙ sym (scale-class ops laws field d f));
        member = m;
      }))))
