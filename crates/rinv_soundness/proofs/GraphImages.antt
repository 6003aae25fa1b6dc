-- Polynomials in the space's variables, put in Z or behind it, on the graph and at the unit; so invariants and the ideal of the graph.
--   on_z, on_x           on the graph P(Z) becomes P(g), and P(x) stays
--   unit_z, unit_x       at the unit both become P(x)
--   crossed_member       P(Z)*Q(x) - P(x)*Q(Z) lies in the action's ideal for an invariant P/Q
--   lasting              no multiple of a nonzero Q(Z) by a nonzero d lies in the ideal of the group and the graph
use Rattle.std.proofs.Common.{◌≡◌, ℕ, ◌+◌, ◌*◌, sym, ◌∙◌, ap, ap₂, subst, arith}
use mathlib.Core.Logic.{∥∥₁_elim}
use Rattle.rinv_algebra.specs.Residue.{residue_ops}
use Rattle.rinv_algebra.specs.Polynomial.{poly_ops}
use Rattle.rinv_algebra.proofs.PolynomialLaws.{poly_laws}
use Rattle.rinv_theory.proofs.CRing.{CRing, Hom, compose, hom-neg}
use Rattle.rinv_theory.proofs.Classes.{Class, class, class-add, class-mul, class-neg}
use Rattle.rinv_theory.proofs.Polynomials.{polynomials, poly_ring}
use Rattle.rinv_theory.proofs.Of.{Of}
use Rattle.rinv_theory.proofs.Ideals.{In}
use Rattle.rinv_theory.proofs.Members.{generator, member-in}
use Rattle.rinv_theory.proofs.Variables.{IsFront, in_variables-of, past-class}
use Rattle.rinv_theory.proofs.Fields.{poly_domain}
use Rattle.rinv_defs.specs.System.{System, group_count, space_count}
use Rattle.rinv_defs.specs.Laws.{L1, A1, LawHolds}
use Rattle.rinv_defs.specs.Invariant.{Fraction, IsInvariant, change}
use Rattle.rinv_defs.specs.Conditions.{graph_point}
use Rattle.rinv_soundness.proofs.FirstVariables.{agree_front, moved_front}
use Rattle.rinv_soundness.proofs.Substituting.{identity, put, put-class, put-constant, put-variable, move, move-constant, move-variable}
use Rattle.rinv_soundness.proofs.SystemForms.{HasForm}
use Rattle.rinv_soundness.proofs.Relabels.{ops, laws, x_at, graph-moved, graph-space, unit_twice, twice-moved, twice-space}
use Rattle.rinv_soundness.proofs.ActionIdeals.{generators, on_graph, at_unit}
use Rattle.rinv_soundness.proofs.HasMultiples.{crossed, crossed_in}
use Rattle.rinv_soundness.proofs.ExtendedIdeals.{InIdeal, field}

module _ (s : System) (form : HasForm s) where
  abbrev Ring : CRing (Class (poly_ops (residue_ops s.p)))
  Ring = poly_ring (ops s) (laws s)

  abbrev Spatial : Class (poly_ops (residue_ops s.p)) → Type 0
  Spatial x = Of (polynomials (ops s) (laws s)) (IsFront (space_count s)) x

  abbrev behind_group : Hom Ring Ring
  behind_group = move (ops s) (laws s) (group_count s)

  abbrev behind_both : Hom Ring Ring
  behind_both = compose (move (ops s) (laws s) (group_count s)) (move (ops s) (laws s) (space_count s))

  places : (k : ℕ) → group_count s + (space_count s + k) ≡ group_count s + space_count s + k
  places k = omega arith

  both-variable : (k : ℕ) → (move (ops s) (laws s) (group_count s)).at ((move (ops s) (laws s) (space_count s)).at (x_at s k)) ≡ x_at s (group_count s + space_count s + k)
  both-variable k = ap behind_group.at (move-variable (ops s) (laws s) (space_count s) k) ∙ move-variable (ops s) (laws s) (group_count s) _ ∙ ap (x_at s) (places k)

  -- on the graph P(Z) becomes P(g)
  pub on_z : {x : Class (poly_ops (residue_ops s.p))} → Of (polynomials (ops s) (laws s)) (IsFront (space_count s)) x → (put (ops s) (laws s) (graph_point s)).at ((move (ops s) (laws s) (group_count s)).at x) ≡ (put (ops s) (laws s) s.action).at x
  unfolding compose
  on_z = agree_front (polynomials (ops s) (laws s)) Ring (compose (put (ops s) (laws s) (graph_point s)) behind_group) (put (ops s) (laws s) s.action) (space_count s)
      (λ c. ap (put (ops s) (laws s) (graph_point s)).at (move-constant (ops s) (laws s) (group_count s) c) ∙ put-constant (ops s) (laws s) (graph_point s) c ∙ sym (put-constant (ops s) (laws s) s.action c))
      (λ k h. ap (put (ops s) (laws s) (graph_point s)).at (move-variable (ops s) (laws s) (group_count s) k) ∙ put-variable (ops s) (laws s) (graph_point s) _ ∙ graph-moved s form k h ∙ sym (put-variable (ops s) (laws s) s.action k))

  -- and P(x) stays
  pub on_x : {x : Class (poly_ops (residue_ops s.p))} → Of (polynomials (ops s) (laws s)) (IsFront (space_count s)) x → (put (ops s) (laws s) (graph_point s)).at ((move (ops s) (laws s) (group_count s)).at ((move (ops s) (laws s) (space_count s)).at x)) ≡ (move (ops s) (laws s) (group_count s)).at x
  unfolding compose
  on_x = agree_front (polynomials (ops s) (laws s)) Ring (compose (put (ops s) (laws s) (graph_point s)) behind_both) behind_group (space_count s)
      (λ c. ap (λ y. (put (ops s) (laws s) (graph_point s)).at (behind_group.at y)) (move-constant (ops s) (laws s) (space_count s) c) ∙ ap (put (ops s) (laws s) (graph_point s)).at (move-constant (ops s) (laws s) (group_count s) c) ∙ put-constant (ops s) (laws s) (graph_point s) c ∙ sym (move-constant (ops s) (laws s) (group_count s) c))
      (λ k h. ap (put (ops s) (laws s) (graph_point s)).at (both-variable k) ∙ put-variable (ops s) (laws s) (graph_point s) _ ∙ graph-space s form k h ∙ sym (move-variable (ops s) (laws s) (group_count s) k))

  -- at the unit P(Z) becomes P(x)
  pub unit_z : {x : Class (poly_ops (residue_ops s.p))} → Of (polynomials (ops s) (laws s)) (IsFront (space_count s)) x → (put (ops s) (laws s) (unit_twice s)).at ((move (ops s) (laws s) (group_count s)).at x) ≡ x
  unfolding compose identity
  unit_z = agree_front (polynomials (ops s) (laws s)) Ring (compose (put (ops s) (laws s) (unit_twice s)) behind_group) (identity Ring) (space_count s)
      (λ c. ap (put (ops s) (laws s) (unit_twice s)).at (move-constant (ops s) (laws s) (group_count s) c) ∙ put-constant (ops s) (laws s) (unit_twice s) c)
      (λ k h. ap (put (ops s) (laws s) (unit_twice s)).at (move-variable (ops s) (laws s) (group_count s) k) ∙ put-variable (ops s) (laws s) (unit_twice s) _ ∙ twice-moved s form k h)

  -- and P(x) stays
  pub unit_x : {x : Class (poly_ops (residue_ops s.p))} → Of (polynomials (ops s) (laws s)) (IsFront (space_count s)) x → (put (ops s) (laws s) (unit_twice s)).at ((move (ops s) (laws s) (group_count s)).at ((move (ops s) (laws s) (space_count s)).at x)) ≡ x
  unfolding compose identity
  unit_x = agree_front (polynomials (ops s) (laws s)) Ring (compose (put (ops s) (laws s) (unit_twice s)) behind_both) (identity Ring) (space_count s)
      (λ c. ap (λ y. (put (ops s) (laws s) (unit_twice s)).at (behind_group.at y)) (move-constant (ops s) (laws s) (space_count s) c) ∙ ap (put (ops s) (laws s) (unit_twice s)).at (move-constant (ops s) (laws s) (group_count s) c) ∙ put-constant (ops s) (laws s) (unit_twice s) c)
      (λ k h. ap (put (ops s) (laws s) (unit_twice s)).at (both-variable k) ∙ put-variable (ops s) (laws s) (unit_twice s) _ ∙ twice-space s form k h)

  change-class : (f : Fraction) → class (poly_ops (ops s)) (change s f) ≡ Ring.add (Ring.mul ((put (ops s) (laws s) s.action).at (class (poly_ops (ops s)) f.0)) (behind_group.at (class (poly_ops (ops s)) f.1))) (Ring.neg (Ring.mul (behind_group.at (class (poly_ops (ops s)) f.0)) ((put (ops s) (laws s) s.action).at (class (poly_ops (ops s)) f.1))))
  unfolding change
  change-class f =
      class-add (poly_ops (ops s)) (poly_laws (ops s) (laws s)) _ _
      ∙ ap₂ Ring.add (class-mul (poly_ops (ops s)) (poly_laws (ops s) (laws s)) _ _ ∙ ap₂ Ring.mul (put-class (ops s) (laws s) s.action f.0) (past-class (ops s) (laws s) (group_count s) f.1))
      (class-neg (poly_ops (ops s)) (poly_laws (ops s) (laws s)) _ ∙ ap Ring.neg (class-mul (poly_ops (ops s)) (poly_laws (ops s) (laws s)) _ _ ∙ ap₂ Ring.mul (past-class (ops s) (laws s) (group_count s) f.0) (put-class (ops s) (laws s) s.action f.1)))

  module _ (f : Fraction) (invariant : IsInvariant s f) where
    num_in : Spatial (class (poly_ops (ops s)) f.0)
    num_in = in_variables-of (ops s) (laws s) (space_count s) f.0 invariant.fraction.numerator

    den_in : Spatial (class (poly_ops (ops s)) f.1)
    den_in = in_variables-of (ops s) (laws s) (space_count s) f.1 invariant.fraction.denominator

    on-crossed : (put (ops s) (laws s) (graph_point s)).at (behind_group.at (crossed (ops s) (laws s) (field s) (space_count s) (class (poly_ops (ops s)) f.0) (class (poly_ops (ops s)) f.1))) ≡ class (poly_ops (ops s)) (change s f)
    on-crossed =
        ap on (behind_group.add _ _ ∙ ap₂ Ring.add (behind_group.mul _ _) (hom-neg behind_group _ ∙ ap Ring.neg (behind_group.mul _ _)))
        ∙ (put (ops s) (laws s) (graph_point s)).add _ _
        ∙ ap₂ Ring.add ((put (ops s) (laws s) (graph_point s)).mul _ _ ∙ ap₂ Ring.mul (on_z num_in) (on_x den_in)) (hom-neg (put (ops s) (laws s) (graph_point s)) _ ∙ ap Ring.neg ((put (ops s) (laws s) (graph_point s)).mul _ _ ∙ ap₂ Ring.mul (on_x num_in) (on_z den_in)))
        ∙ sym (change-class f)
      where
        on : Class (poly_ops (residue_ops s.p)) → Class (poly_ops (residue_ops s.p))
        on x = (put (ops s) (laws s) (graph_point s)).at x

    -- P(Z)*Q(x) - P(x)*Q(Z) lies in the ideal of the group and the graph
    pub crossed_member : InIdeal s (generators s form) (crossed (ops s) (laws s) (field s) (space_count s) (class (poly_ops (ops s)) f.0) (class (poly_ops (ops s)) f.1))
    crossed_member = on_graph s form (moved_front (polynomials (ops s) (laws s)) (group_count s) (2 * space_count s) (crossed_in (ops s) (laws s) (field s) (space_count s) num_in den_in))
        (subst (In Ring (generator (ops s) (laws s) s.ideal)) (sym on-crossed) (member-in (ops s) (laws s) s.ideal (change s f) invariant.unchanged))

  module _ (first : LawHolds s L1) (moves_nothing : LawHolds s A1) where
    -- no multiple of a nonzero Q(Z) by a nonzero d lies in it
    pub lasting : {d Q : Class (poly_ops (residue_ops s.p))} → Spatial d → Spatial Q → (d ≡ Ring.zero → ⊥) → (Q ≡ Ring.zero → ⊥) → InIdeal s (generators s form) (Ring.mul ((move (ops s) (laws s) (space_count s)).at d) Q) → ⊥
    lasting {d} {Q} d_in Q_in d_nonzero Q_nonzero r = ∥∥₁_elim r (λ a b. absurd a) (λ r. d_nonzero ((poly_domain (ops s) (laws s) (field s)).no_divisors d Q (sym image ∙ at_unit s form first moves_nothing r) Q_nonzero))
      where
        image : (put (ops s) (laws s) (unit_twice s)).at (behind_group.at (Ring.mul ((move (ops s) (laws s) (space_count s)).at d) Q)) ≡ Ring.mul d Q
        image = ap (put (ops s) (laws s) (unit_twice s)).at (behind_group.mul _ _) ∙ (put (ops s) (laws s) (unit_twice s)).mul _ _ ∙ ap₂ Ring.mul (unit_x d_in) (unit_z Q_in)
