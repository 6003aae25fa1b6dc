-- The ideal of the group and the graph: f[Z:=g] in the group's ideal puts f into it, and nothing in Z and the space's variables but
-- what is zero at Z = x lies in it, where the unit is a point that moves nothing.
--   on_graph             f with f[Z:=g] in the group's ideal is a member
--   at_unit              a member, at the unit and at Z = x, is zero
use Rattle.std.proofs.Common.{◌≡◌, ◌⊎◌, ℕ, ◌+◌, ◌-◌, ◌*◌, ◌<◌, ◌≤◌, List, [], ◌++◌, length, get_or, sym, ◌∙◌, ap, ap₂, subst, arith, inl, inr}
use Rattle.std.proofs.lemmas.List.{length-map}
use Rattle.std.proofs.lemmas.List.FromFn.{length-map-range_with_len}
use mathlib.Core.Logic.{∥∥₁_map}
use Rattle.rinv_algebra.specs.Residue.{residue_ops}
use Rattle.rinv_algebra.specs.Polynomial.{poly_ops, variable}
use Rattle.rinv_algebra.specs.Value.{substitute}
use Rattle.rinv_algebra.specs.Ideal.{IsMember}
use Rattle.rinv_theory.proofs.CRing.{CRing, Hom, compose, add_neg, add_cancel, hom-zero, hom-neg}
use Rattle.rinv_theory.proofs.Classes.{Class, class}
use Rattle.rinv_theory.proofs.Polynomials.{polynomials, poly_ring}
use Rattle.rinv_theory.proofs.Of.{Of}
use Rattle.rinv_theory.proofs.Ideals.{In, in_one, in-in, in-hom, IsCongruent, congruent-refl, congruent-member}
use Rattle.rinv_theory.proofs.Members.{generator, member-in}
use Rattle.rinv_theory.proofs.Variables.{IsFront}
use Rattle.rinv_defs.specs.System.{System, Poly, group_count, space_count, unit_point, at_point, space_behind, differences}
use Rattle.rinv_defs.specs.Laws.{L1, A1, parts, LawHolds}
use Rattle.rinv_defs.specs.Extended.{graph}
use Rattle.rinv_defs.specs.Conditions.{graph_point}
use Rattle.rinv_soundness.proofs.FirstVariables.{low_or_high, congruent_front, agree_front}
use Rattle.rinv_soundness.proofs.Substituting.{identity, put, put-constant, put-variable, put-same, put_front, put-class, image-variables}
use Rattle.rinv_soundness.proofs.GeneratorLists.{in-left, in-right, in-zero, generator_past, generators-append, all_at, map_within, within_list}
use Rattle.rinv_soundness.proofs.SystemForms.{HasForm}
use Rattle.rinv_soundness.proofs.Relabels.{Part, part_of, ops, laws, x_at, at, apart, apart-group, apart-space, graph-group, graph-moved, graph-space, graph-at, unit_once, unit_twice, once-group, once-space, twice-group, twice-moved, twice-space, difference-at, at_point-at, graph_few}

module _ (s : System) (form : HasForm s) where
  abbrev Ring : CRing (Class (poly_ops (residue_ops s.p)))
  Ring = poly_ring (ops s) (laws s)

  -- the generators: the group's ideal, and the graph
  abbrev pub generators : List Poly
  generators = s.ideal ++ graph s

  abbrev Member : Class (poly_ops (residue_ops s.p)) → Type 0
  Member x = In Ring (generator (ops s) (laws s) generators) x

  abbrev set_apart : Hom Ring Ring
  set_apart = put (ops s) (laws s) (apart s)

  abbrev on : Hom Ring Ring
  on = put (ops s) (laws s) (graph_point s)

  stays : (x y : Class (poly_ops (residue_ops s.p))) → x ≡ y → IsCongruent Ring (generator (ops s) (laws s) generators) x y
  stays x y e = subst (IsCongruent Ring (generator (ops s) (laws s) generators) x) e (congruent-refl Ring (generator (ops s) (laws s) generators) x)

  ideal_apart : (k : ℕ) → k < length s.ideal → set_apart.at (generator (ops s) (laws s) s.ideal k) ≡ generator (ops s) (laws s) s.ideal k
  ideal_apart k h = put-same (ops s) (laws s) (apart s) (group_count s) (apart-group s) (form.ideal_front k h)

  members_apart : {x : Class (poly_ops (residue_ops s.p))} → In Ring (generator (ops s) (laws s) s.ideal) x → Member (set_apart.at x)
  members_apart r = in-left (ops s) (laws s) s.ideal (graph s) (in-in Ring (generator (ops s) (laws s) s.ideal) (λ k. set_apart.at (generator (ops s) (laws s) s.ideal k)) (λ k. at_place k (low_or_high k (length s.ideal))) (in-hom set_apart (generator (ops s) (laws s) s.ideal) r))
    where
      at_place : (k : ℕ) → (k < length s.ideal) ⊎ (length s.ideal ≤ k) → In Ring (generator (ops s) (laws s) s.ideal) (set_apart.at (generator (ops s) (laws s) s.ideal k))
      at_place k (inl h) = subst (In Ring (generator (ops s) (laws s) s.ideal)) (sym (ideal_apart k h)) (in_one Ring (generator (ops s) (laws s) s.ideal) k)
      at_place k (inr h) = subst (In Ring (generator (ops s) (laws s) s.ideal)) (sym (ap set_apart.at (generator_past (ops s) (laws s) s.ideal k h) ∙ hom-zero set_apart)) In.none

  graph_member : (j : ℕ) → j < space_count s → IsCongruent Ring (generator (ops s) (laws s) generators) (x_at s (group_count s + j)) (set_apart.at (at s s.action j))
  graph_member j h = subst Member (graph-at s form j h) (in-right (ops s) (laws s) s.ideal (graph s) (in_one Ring (generator (ops s) (laws s) (graph s)) j))

  at_variable : {k : ℕ} → Part (group_count s) (space_count s) k → IsCongruent Ring (generator (ops s) (laws s) generators) (x_at s k) (set_apart.at (at s (graph_point s) k))
  at_variable (Part.in_group k h) = stays (x_at s k) _ (sym (ap set_apart.at (graph-group s k h) ∙ put-variable (ops s) (laws s) (apart s) k ∙ apart-group s k h))
  at_variable (Part.in_moved j h) = subst (λ x. IsCongruent Ring (generator (ops s) (laws s) generators) (x_at s (group_count s + j)) (set_apart.at x)) (sym (graph-moved s form j h)) (graph_member j h)
  at_variable (Part.in_space j h) = stays (x_at s (group_count s + space_count s + j)) _ (sym (ap set_apart.at (graph-space s form j h) ∙ put-variable (ops s) (laws s) (apart s) (group_count s + j) ∙ apart-space s j h))

  -- f is congruent to its value on the graph, set apart
  pub near_graph : {x : Class (poly_ops (residue_ops s.p))} → Of (polynomials (ops s) (laws s)) (IsFront (group_count s + 2 * space_count s)) x → ∥ IsCongruent Ring (generator (ops s) (laws s) generators) x (set_apart.at (on.at x)) ∥₁
  unfolding identity compose
  near_graph o = congruent_front (polynomials (ops s) (laws s)) Ring (generator (ops s) (laws s) generators) (identity Ring) (compose set_apart on) (group_count s + 2 * space_count s)
      (λ c. sym (ap set_apart.at (put-constant (ops s) (laws s) (graph_point s) c) ∙ put-constant (ops s) (laws s) (apart s) c))
      (λ k h. subst (λ x. IsCongruent Ring (generator (ops s) (laws s) generators) (x_at s k) (set_apart.at x)) (sym (put-variable (ops s) (laws s) (graph_point s) k)) (at_variable (part_of (group_count s) (space_count s) k h))) o

  -- where f at Z = g lies in the group's ideal, f is a member
  pub on_graph : {x : Class (poly_ops (residue_ops s.p))} → Of (polynomials (ops s) (laws s)) (IsFront (group_count s + 2 * space_count s)) x → In Ring (generator (ops s) (laws s) s.ideal) (on.at x) → ∥ Member x ∥₁
  on_graph {x} o r = ∥∥₁_map (near_graph o) (λ c. congruent-member Ring (generator (ops s) (laws s) generators) x (set_apart.at (on.at x)) c (members_apart r))

  module _ (first : LawHolds s L1) (moves_nothing : LawHolds s A1) where
    abbrev unit : Hom Ring Ring
    unit = put (ops s) (laws s) (unit_twice s)

    -- a member of the ideal of no polynomials is zero
    nothing : (f : Poly) → IsMember (ops s) [] f → class (poly_ops (ops s)) f ≡ Ring.zero
    nothing f m = in-zero Ring (generator (ops s) (laws s) []) (λ k. generator_past (ops s) (laws s) [] k (omega arith)) (member-in (ops s) (laws s) [] f m)

    unit_ideal : (k : ℕ) → k < length s.ideal → unit.at (generator (ops s) (laws s) s.ideal k) ≡ Ring.zero
    unfolding parts
    unit_ideal k h =
        let long : k < length (at_point s (unit_point s) s.ideal) = omega (arith, h, length-map s.ideal (substitute (ops s) (unit_point s))) in
        put_front (ops s) (laws s) (unit_twice s) (unit_point s) (group_count s) (twice-group s form) (form.ideal_front k h)
        ∙ sym (put-class (ops s) (laws s) (unit_point s) (get_or s.ideal k [])) ∙ ap (class (poly_ops (ops s))) (sym (map_within (substitute (ops s) (unit_point s)) s.ideal k [] [] h))
        ∙ nothing _ (all_at (IsMember (ops s) []) (at_point s (unit_point s) s.ideal) k [] long first)

    unit_moves : (j : ℕ) → j < space_count s → (put (ops s) (laws s) (unit_once s)).at (at s s.action j) ≡ x_at s j
    unfolding parts
    unit_moves j h =
        let low : j < length s.action = omega (arith, form.action_count, h) in
        let here : j < length (at_point s (unit_once s) s.action) = omega (arith, length-map s.action (substitute (ops s) (unit_once s)), low) in
        let there : j < length (space_behind s 0) = omega (arith, length-map-range_with_len (variable (ops s)) (0 * group_count s) (space_count s), h) in
        same _ _ (ap₂ (λ x y. Ring.add x (Ring.neg y)) (sym (at_point-at s (unit_once s) s.action j low)) (sym (image-variables (ops s) (laws s) (0 * group_count s) (space_count s) j j h (omega arith)))
        ∙ sym (difference-at s (at_point s (unit_once s) s.action) (space_behind s 0) j here there) ∙ at_place j (low_or_high j (length (differences s (at_point s (unit_once s) s.action) (space_behind s 0)))))
      where
        at_place : (j : ℕ) → (j < length (differences s (at_point s (unit_once s) s.action) (space_behind s 0))) ⊎ (length (differences s (at_point s (unit_once s) s.action) (space_behind s 0)) ≤ j) → generator (ops s) (laws s) (differences s (at_point s (unit_once s) s.action) (space_behind s 0)) j ≡ Ring.zero
        at_place j (inl i) = nothing _ (all_at (IsMember (ops s) []) (differences s (at_point s (unit_once s) s.action) (space_behind s 0)) j [] i moves_nothing)
        at_place j (inr i) = generator_past (ops s) (laws s) (differences s (at_point s (unit_once s) s.action) (space_behind s 0)) j i

        same : (x y : Class (poly_ops (residue_ops s.p))) → Ring.add x (Ring.neg y) ≡ Ring.zero → x ≡ y
        same x y e = add_cancel Ring x y (Ring.neg y) (e ∙ sym (add_neg Ring y))

    action_first : (j : ℕ) → j < length s.action → Of (polynomials (ops s) (laws s)) (IsFront (group_count s + space_count s)) (at s s.action j)
    action_first j h = subst (λ f. Of (polynomials (ops s) (laws s)) (IsFront (group_count s + space_count s)) (class (poly_ops (ops s)) f)) (within_list s.action j [] (poly_ops (ops s)).one h) (form.action_front j h)

    unit_apart : {x : Class (poly_ops (residue_ops s.p))} → Of (polynomials (ops s) (laws s)) (IsFront (group_count s + space_count s)) x → unit.at (set_apart.at x) ≡ (put (ops s) (laws s) (unit_once s)).at x
    unfolding compose
    unit_apart = agree_front (polynomials (ops s) (laws s)) Ring (compose unit set_apart) (put (ops s) (laws s) (unit_once s)) (group_count s + space_count s)
        (λ c. ap unit.at (put-constant (ops s) (laws s) (apart s) c) ∙ put-constant (ops s) (laws s) (unit_twice s) c ∙ sym (put-constant (ops s) (laws s) (unit_once s) c))
        (λ k h. ap unit.at (put-variable (ops s) (laws s) (apart s) k) ∙ at_part k h (low_or_high k (group_count s)) ∙ sym (put-variable (ops s) (laws s) (unit_once s) k))
      where
        in_second : (j : ℕ) → j < space_count s → unit.at (at s (apart s) (group_count s + j)) ≡ at s (unit_once s) (group_count s + j)
        in_second j h = ap unit.at (apart-space s j h) ∙ put-variable (ops s) (laws s) (unit_twice s) _ ∙ twice-space s form j h ∙ sym (once-space s form j h)

        at_part : (k : ℕ) → k < group_count s + space_count s → (k < group_count s) ⊎ (group_count s ≤ k) → unit.at (at s (apart s) k) ≡ at s (unit_once s) k
        at_part k h (inl i) = ap unit.at (apart-group s k i) ∙ put-variable (ops s) (laws s) (unit_twice s) k ∙ twice-group s form k i ∙ sym (once-group s form k i)
        at_part k h (inr i) = let e : group_count s + (k - group_count s) ≡ k = omega arith in subst (λ (k : ℕ). unit.at (at s (apart s) k) ≡ at s (unit_once s) k) e (in_second (k - group_count s) (omega arith))

    unit_graph : (j : ℕ) → j < space_count s → unit.at (generator (ops s) (laws s) (graph s) j) ≡ Ring.zero
    unit_graph j h =
        let low : j < length s.action = omega (arith, form.action_count, h) in
        ap unit.at (graph-at s form j h) ∙ unit.add _ _
        ∙ ap₂ Ring.add (put-variable (ops s) (laws s) (unit_twice s) _ ∙ twice-moved s form j h) (hom-neg unit _ ∙ ap Ring.neg (unit_apart (action_first j low) ∙ unit_moves j h)) ∙ add_neg Ring _

    -- a member, at the unit and at Z = x, is zero
    pub at_unit : {x : Class (poly_ops (residue_ops s.p))} → Member x → unit.at x ≡ Ring.zero
    at_unit r = in-zero Ring (λ k. unit.at (generator (ops s) (laws s) generators k)) (generators-append (ops s) (laws s) (λ x. unit.at x ≡ Ring.zero) s.ideal (graph s) unit_ideal (λ k. graph_place k (low_or_high k (space_count s)))) (in-hom unit (generator (ops s) (laws s) generators) r)
      where
        graph_place : (k : ℕ) → (k < space_count s) ⊎ (space_count s ≤ k) → unit.at (generator (ops s) (laws s) (graph s) k) ≡ Ring.zero
        graph_place k (inl h) = unit_graph k h
        graph_place k (inr h) = let past : length (graph s) ≤ k = omega (arith, graph_few s, h) in ap unit.at (generator_past (ops s) (laws s) (graph s) k past) ∙ hom-zero unit
