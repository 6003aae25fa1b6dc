-- The action's ideal, moved by μ where the group's point is taken back, lies in itself and the group's ideal at μ together.
--   quotient             the ring modulo both; into_quotient is the map to it
--   moved_member         the image of a member lies in both
use Rattle.std.proofs.Common.{◌≡◌, ◌⊎◌, ℕ, ◌+◌, ◌<◌, List, [], ◌++◌, length, map, get_or, refl, sym, ◌∙◌, ap, ap₂, subst, arith, append_assoc, append-nil, length-append, inl, inr}
use Rattle.std.proofs.lemmas.List.{length-map}
use Rattle.rinv_algebra.specs.Residue.{residue_ops}
use Rattle.rinv_algebra.proofs.ResidueLaws.{residue_laws}
use Rattle.rinv_theory.proofs.CRing.{CRing, Hom, compose}
use Rattle.rinv_theory.proofs.TermRing.{constants-at}
use Rattle.rinv_theory.proofs.Ideals.{In, in_one}
use Rattle.rinv_theory.proofs.Members.{generator}
use Rattle.rinv_soundness.proofs.SystemForms.{HasForm, InFirst}
use Rattle.rinv_defs.specs.System.{System, Poly, group_count, space_count, variables}
use Rattle.rinv_defs.specs.Extended.{action_ideal}
use Rattle.rinv_invariance.proofs.QuotientRing.{QuotientBy, quotient_ring, quotient_map, quotient-zero, quotient-member}
use Rattle.rinv_invariance.proofs.Extensions.{extension}
use Rattle.rinv_invariance.proofs.Flatness.{Both}
use Rattle.rinv_invariance.proofs.Points.{Scalar, scalars, PolyClass, poly_terms, natural, map-map, at, product, inverse, act, IsPoint, IsOver, images, keep-product, keep-inverse, keep-act}
use Rattle.rinv_invariance.proofs.PieceValues.{at-constant, piece}
use Rattle.rinv_invariance.proofs.PointLaws
use Rattle.rinv_invariance.proofs.PointLaws.{LawsAt}
use Rattle.rinv_invariance.proofs.Zeros.{Zeros, zeros-from, in-value}
use Rattle.rinv_invariance.proofs.GraphPoints.{length-images, images-first, each_front, GraphPoint, graph_point, graph-zeros}
use Rattle.rinv_invariance.proofs.Movement.{Moving, moving, still, number, coordinates, in_movers, movers, stills, still_over, movers_over}
use Rattle.rinv_invariance.proofs.MovedMaps.{away, moved_all}

module _ (s : System) where
  -- the group's ideal
  abbrev pub group_ideal : ℕ → PolyClass s.p
  group_ideal = generator (residue_ops s.p) (residue_laws s.p) s.ideal

  -- the action's ideal
  abbrev pub graph_ideal : ℕ → PolyClass s.p
  graph_ideal = generator (residue_ops s.p) (residue_laws s.p) (action_ideal s)

  -- both, the group's at μ
  abbrev pub whole : ℕ ⊎ ℕ → Moving s
  whole = Both (coordinates s) group_ideal graph_ideal

  -- modulo both
  abbrev Residual : Type 0
  Residual = QuotientBy (moving s).ring whole

  abbrev residual : CRing Residual
  residual = quotient_ring (moving s).ring whole

  abbrev into_residual : Hom (moving s).ring residual
  into_residual = quotient_map (moving s).ring whole

  abbrev pub κ : Hom (scalars s.p) residual
  κ = compose into_residual (number s)

  keeps : (c : Scalar s.p) → into_residual.at ((number s).at c) ≡ κ.at c
  unfolding compose
  keeps c = refl

  -- what a map to the moved polynomials gives modulo both
  over_residual : (h : Hom (poly_terms s.p).ring (moving s).ring) → IsOver s (number s) h → IsOver s κ (compose into_residual h)
  unfolding compose
  over_residual h over c = ap into_residual.at (over c)

  images-residual : (h : Hom (poly_terms s.p).ring (moving s).ring) (fs : List Poly) → images s κ (compose into_residual h) fs ≡ map into_residual.at (images s (number s) h fs)
  unfolding compose
  images-residual h fs = sym (map-map into_residual.at _ fs)

  -- the points modulo both: the group's, Z, the space's, and μ
  abbrev group_point : List Residual
  group_point = images s κ (compose into_residual (still s)) (variables s 0 (group_count s))

  abbrev graph_point_there : List Residual
  graph_point_there = images s κ (compose into_residual (still s)) (variables s (group_count s) (space_count s))

  abbrev space_point : List Residual
  space_point = images s κ (compose into_residual (still s)) (variables s (group_count s + space_count s) (space_count s))

  abbrev mover : List Residual
  mover = map into_residual.at (movers s)

  module _ (form : HasForm s) (sections : (k : ℕ) → k < length s.section → InFirst s (space_count s) (get_or s.section k [])) (laws : LawsAt s κ) where
    -- the action's ideal is zero there
    still_zeros : Zeros s (compose into_residual (still s)) (action_ideal s)
    unfolding compose
    still_zeros = zeros-from s (compose into_residual (still s)) (action_ideal s) (λ k. ap into_residual.at (constants-at (moving s) _) ∙ quotient-zero (moving s).ring whole (in_one (moving s).ring whole (inl k)))

    still_point : GraphPoint s κ group_point graph_point_there space_point
    still_point = graph_point s form sections κ (compose into_residual (still s)) (over_residual (still s) (still_over s)) still_zeros

    -- μ is a point of the group
    mover_point : IsPoint s κ mover
    unfolding extension
    mover_point = record {
      size = length-map (movers s) _ ∙ length-images s (number s) (in_movers s) (movers_over s) 0 (group_count s);
      zero = λ k. sym (natural (poly_terms s.p) (number s) κ into_residual keeps (movers s) (group_ideal k)) ∙ ap into_residual.at (sym (images-first s (number s) (in_movers s) (movers_over s) (group_count s) (each_front s (group_count s) s.ideal form.ideal_front k)))
          ∙ quotient-zero (moving s).ring whole (in_one (moving s).ring whole (inr k));
    }

    -- where the moved variables go
    moved_over : IsOver s (number s) (moved_all s)
    moved_over = at-constant s (number s) _

    length-away : length (away s) ≡ group_count s
    length-away = length-map s.product _ ∙ form.product_count

    length-stills : (place count : ℕ) → length (stills s place count) ≡ count
    length-stills place count = length-images s (number s) (still s) (still_over s) place count

    moved_point : List (Moving s)
    moved_point = act s (number s) (movers s) (stills s (group_count s + space_count s) (space_count s))

    at_group : images s κ (compose into_residual (moved_all s)) (variables s 0 (group_count s)) ≡ product s κ group_point (inverse s κ mover)
    at_group =
        images-residual (moved_all s) _ ∙ ap (map into_residual.at) (piece s (number s) [] (away s) _ 0 (group_count s) refl length-away)
        ∙ keep-product s (number s) κ into_residual keeps _ _ ∙ ap₂ (product s κ) (sym (images-residual (still s) _)) (keep-inverse s (number s) κ into_residual keeps (movers s))

    at_graph : images s κ (compose into_residual (moved_all s)) (variables s (group_count s) (space_count s)) ≡ graph_point_there
    at_graph =
        images-residual (moved_all s) _ ∙ ap (map into_residual.at) (piece s (number s) (away s) (stills s (group_count s) (space_count s)) _ (group_count s) (space_count s) length-away (length-stills (group_count s) (space_count s)))
        ∙ sym (images-residual (still s) _)

    at_space : images s κ (compose into_residual (moved_all s)) (variables s (group_count s + space_count s) (space_count s)) ≡ act s κ mover space_point
    unfolding moved_point
    at_space =
        images-residual (moved_all s) _ ∙ ap (map into_residual.at) last
        ∙ keep-act s (number s) κ into_residual keeps (movers s) _ ∙ ap (act s κ mover) (sym (images-residual (still s) _))
      where
        before : length (away s ++ stills s (group_count s) (space_count s)) ≡ group_count s + space_count s
        before = omega (arith, length-append (away s) (stills s (group_count s) (space_count s)), length-away, length-stills (group_count s) (space_count s))

        regroup : (away s ++ stills s (group_count s) (space_count s)) ++ (moved_point ++ []) ≡ away s ++ (stills s (group_count s) (space_count s) ++ moved_point)
        regroup = append_assoc (away s) (stills s (group_count s) (space_count s)) (moved_point ++ []) ∙ ap (λ xs. away s ++ (stills s (group_count s) (space_count s) ++ xs)) (append-nil moved_point)

        last : images s (number s) (moved_all s) (variables s (group_count s + space_count s) (space_count s)) ≡ moved_point
        last = subst (λ xs. images s (number s) (at s (number s) xs) (variables s (group_count s + space_count s) (space_count s)) ≡ moved_point) regroup
            (piece s (number s) (away s ++ stills s (group_count s) (space_count s)) moved_point [] (group_count s + space_count s) (space_count s) before (length-map s.action _ ∙ form.action_count))

    same_graph : {a b z w y x : List Residual} → a ≡ b → z ≡ w → y ≡ x → GraphPoint s κ b w x → GraphPoint s κ a z y
    same_graph {b = b} {z = z} {w = w} {y = y} {x = x} e f g p = subst (λ a. GraphPoint s κ a z y) (sym e) (subst (λ z. GraphPoint s κ b z y) (sym f) (subst (λ y. GraphPoint s κ b w y) (sym g) p))

    -- they lie on the graph again
    moved_zeros : Zeros s (compose into_residual (moved_all s)) (action_ideal s)
    moved_zeros = graph-zeros s form sections κ (compose into_residual (moved_all s)) (over_residual (moved_all s) moved_over) (same_graph at_group at_graph at_space (record {
      point = laws.products group_point (inverse s κ mover) still_point.point (laws.inverses mover mover_point);
      moved_to = still_point.moved_to ∙ sym (PointLaws.move s κ laws group_point mover space_point still_point.point mover_point (length-images s κ (compose into_residual (still s)) (over_residual (still s) (still_over s)) _ (space_count s)));
      section = still_point.section;
    }))

    -- so the image of a member lies in both
    pub moved_member : {x : PolyClass s.p} → In (poly_terms s.p).ring graph_ideal x → ∥ In (moving s).ring whole ((moved_all s).at x) ∥₁
    unfolding compose
    moved_member {x} r = quotient-member (moving s).ring whole ((moved_all s).at x) (in-value s (compose into_residual (moved_all s)) (action_ideal s) moved_zeros r)
