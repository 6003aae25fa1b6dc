-- Whether a fraction is invariant depends on its value alone.
--   change_of s n d      n(moved)*d - n*d(moved)
--   by_value             it lies in the group's ideal at μ where turned e t does, for a fraction t/e of the same value
use Rattle.std.proofs.Common.{◌≡◌, [], ◌∷◌, refl, sym, ◌∙◌, ap, ap₂, subst}
use mathlib.Core.Logic.{∥∥₁_elim, ∥∥₁_prop}
use Rattle.rinv_theory.proofs.Solver.{ring, reading}
use Rattle.rinv_theory.proofs.Ideals.{In, in-mul}
use Rattle.rinv_theory.proofs.Of.{Of}
use Rattle.rinv_theory.proofs.Variables.{IsFront}
use Rattle.rinv_soundness.proofs.SystemForms.{HasForm}
use Rattle.rinv_defs.specs.System.{System, space_count}
use Rattle.rinv_invariance.proofs.Flatness.{Multiples}
use Rattle.rinv_invariance.proofs.Points.{PolyClass, poly_terms}
use Rattle.rinv_invariance.proofs.PointLaws.{LawsAt}
use Rattle.rinv_invariance.proofs.Movement.{Moving, moving, still, coordinates}
use Rattle.rinv_invariance.proofs.MovedMaps.{moved_space}
use Rattle.rinv_invariance.proofs.MovedIdeal.{group_ideal}
use Rattle.rinv_invariance.proofs.Crossed.{turned}
use Rattle.rinv_invariance.proofs.MovedBack.{κ, returning-add, returning-mul, returning-neg, returning-still, returning-moved, factor_out, moved_out}

module _ (s : System) where
  open (moving s).ring use {add as ◌+◌, mul as ◌·◌, neg as -◌}

  infixl 60 ◌+◌
  infixl 70 ◌·◌
  infix 80 -◌
  -- n(moved)*d - n*d(moved)
  abbrev pub change_of : PolyClass s.p → PolyClass s.p → Moving s
  change_of n d = (moved_space s).at n · (still s).at d + - ((still s).at n · (moved_space s).at d)

  -- in the group's ideal at μ
  abbrev pub IsMemberAt : Moving s → Type 0
  IsMemberAt u = In (moving s).ring (Multiples (coordinates s) (group_ideal s)) u

  -- where n/d = t/e
  cross : (n d t e : PolyClass s.p) → (poly_terms s.p).ring.mul n e ≡ (poly_terms s.p).ring.mul t d
      → (moved_space s).at d · (still s).at d · turned s e t ≡ (still s).at e · ((moved_space s).at e · change_of n d)
  cross n d t e h = spread _ _ _ _ _ _ _ _ (sym ((moved_space s).mul n e) ∙ ap (moved_space s).at h ∙ (moved_space s).mul t d) (sym ((still s).mul n e) ∙ ap (still s).at h ∙ (still s).mul t d)
    where
      spread : (mn sn md sd mt st me se : Moving s) → mn · me ≡ mt · md → sn · se ≡ st · sd → md · sd · (se · mt + - (me · st)) ≡ se · (me · (mn · sd + - (sn · md)))
      spread mn sn md sd mt st me se f g = left mt md sd se me st ∙ ap₂ (λ x y. x · (se · sd) + - (y · (me · md))) (sym f) (sym g) ∙ right mn me se sd sn md
        where
          left : (mt md sd se me st : Moving s) → md · sd · (se · mt + - (me · st)) ≡ mt · md · (se · sd) + - (st · sd · (me · md))
          left mt md sd se me st = ring (moving s).ring (mt ∷ md ∷ sd ∷ se ∷ me ∷ st ∷ []) (search reading depth 30) refl

          right : (mn me se sd sn md : Moving s) → mn · me · (se · sd) + - (sn · se · (me · md)) ≡ se · (me · (mn · sd + - (sn · md)))
          right mn me se sd sn md = ring (moving s).ring (mn ∷ me ∷ se ∷ sd ∷ sn ∷ md ∷ []) (search reading depth 30) refl

  -- the value decides
  pub by_value : HasForm s → LawsAt s (κ s) → (n d t e : PolyClass s.p) → Of (poly_terms s.p) (IsFront (space_count s)) n → Of (poly_terms s.p) (IsFront (space_count s)) d → Of (poly_terms s.p) (IsFront (space_count s)) e
      → (e ≡ (poly_terms s.p).ring.zero → ⊥) → (poly_terms s.p).ring.mul n e ≡ (poly_terms s.p).ring.mul t d → IsMemberAt (turned s e t) → ∥ IsMemberAt (change_of n d) ∥₁
  by_value form laws n d t e n_front d_front e_front nonzero h r =
      ∥∥₁_elim (factor_out s form laws e nonzero _ (subst IsMemberAt (cross n d t e h) (in-mul (moving s).ring (Multiples (coordinates s) (group_ideal s)) _ r))) ∥∥₁_prop (λ q.
      moved_out s form laws e_front nonzero (change_of n d) (returning-add s _ _ (returning-mul s _ _ (returning-moved s form laws n) (returning-still s form laws d_front)) (returning-neg s _ (returning-mul s _ _ (returning-still s form laws n_front) (returning-moved s form laws d)))) q)
