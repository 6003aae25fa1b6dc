-- The points at which the definitions put polynomials in, and where they send variables: the group's variables stand first, then Z,
-- then the space's.
--   apart s              the group's variables and the space's behind Z: K[λ,x] becomes a part of K[λ,Z,x]
--   unit_once, unit_twice    the unit and the space's variables; the unit, and these for Z and for the space's variables
--   apart-group, apart-space, graph-group, graph-moved, graph-space, once-group .. twice-space    the images of variables
--   graph-at             a generator of the graph: Z minus the action's polynomial, moved apart
use Rattle.std.proofs.Common.{◌≡◌, ◌⊎◌, ℕ, zero, suc, ◌+◌, ◌-◌, ◌*◌, ◌<◌, ◌≤◌, List, [], ◌∷◌, ◌++◌, length, length-append, get_or, refl, ◌∙◌, ap, ap₂, subst, arith, inl, inr}
use Rattle.std.proofs.lemmas.List.{length-map}
use Rattle.std.proofs.lemmas.List.FromFn.{length-map-range_with_len}
use Rattle.rinv_algebra.specs.Ring.{RingOps, RingLaws}
use Rattle.rinv_algebra.specs.Residue.{residue_ops}
use Rattle.rinv_algebra.specs.Polynomial.{poly_ops, constant, variable, difference}
use Rattle.rinv_algebra.specs.Value.{substitute}
use Rattle.rinv_algebra.proofs.ResidueLaws.{residue_laws}
use Rattle.rinv_algebra.proofs.PolynomialLaws.{poly_laws}
use Rattle.rinv_theory.proofs.Classes.{Class, class, class-add, class-neg}
use Rattle.rinv_theory.proofs.Polynomials.{poly_ring}
use Rattle.rinv_theory.proofs.Members.{generator}
use Rattle.rinv_defs.specs.System.{System, Poly, group_count, space_count, variables, group_copy, space_behind, unit_point, at_point, moved, differences}
use Rattle.rinv_defs.specs.Extended.{graph}
use Rattle.rinv_defs.specs.Conditions.{graph_point}
use Rattle.rinv_soundness.proofs.FirstVariables.{low_or_high}
use Rattle.rinv_soundness.proofs.Substituting.{var, image, put, put-class, image-variables, image-left, image-right}
use Rattle.rinv_soundness.proofs.GeneratorLists.{map_within}
use Rattle.rinv_soundness.proofs.SystemForms.{HasForm}

-- a place among l, then n, then n
pub data Part (l n : ℕ) : ℕ → Type 0 where
  in_group : (k : ℕ) → k < l → Part l n k
  in_moved : (j : ℕ) → j < n → Part l n (l + j)
  in_space : (j : ℕ) → j < n → Part l n (l + n + j)

-- each place below l + 2*n is one
pub part_of : (l n k : ℕ) → k < l + 2 * n → Part l n k
part_of l n k h = go (low_or_high k l) (low_or_high k (l + n))
  where
    go : (k < l) ⊎ (l ≤ k) → (k < l + n) ⊎ (l + n ≤ k) → Part l n k
    go (inl i) j = in_group k i
    go (inr i) (inl j) = let e : l + (k - l) ≡ k = omega arith in subst (Part l n) e (in_moved (k - l) (omega arith))
    go (inr i) (inr j) = let e : l + n + (k - (l + n)) ≡ k = omega arith in subst (Part l n) e (in_space (k - (l + n)) (omega arith))

module _ (s : System) where
  -- the ring of the polynomials, and its laws
  abbrev pub ops : RingOps ℕ
  ops = residue_ops s.p

  abbrev pub laws : RingLaws ops
  laws = residue_laws s.p

  -- the variable at a place
  abbrev pub x_at : ℕ → Class (poly_ops (residue_ops s.p))
  x_at k = var (residue_ops s.p) (residue_laws s.p) k

  -- the image at a place of a point
  abbrev pub at : List Poly → ℕ → Class (poly_ops (residue_ops s.p))
  at point k = image (residue_ops s.p) (residue_laws s.p) point k

  length-variables : (place count : ℕ) → length (variables s place count) ≡ count
  length-variables place count = length-map-range_with_len (variable ops) place count

  -- the group's variables, and the space's behind Z
  abbrev pub apart : List Poly
  apart = group_copy s 0 ++ variables s (group_count s + space_count s) (space_count s)

  pub apart-group : (k : ℕ) → k < group_count s → at apart k ≡ x_at k
  apart-group k h = let low : k < length (group_copy s 0) = omega (arith, length-variables (0 * group_count s) (group_count s), h) in
      image-left ops laws (group_copy s 0) _ k low ∙ image-variables ops laws (0 * group_count s) (group_count s) k k h (omega arith)

  pub apart-space : (j : ℕ) → j < space_count s → at apart (group_count s + j) ≡ x_at (group_count s + space_count s + j)
  apart-space j h = image-right ops laws (group_copy s 0) _ (group_count s) j (group_count s + j) (length-variables (0 * group_count s) (group_count s)) refl ∙ image-variables ops laws (group_count s + space_count s) (space_count s) j _ h refl

  -- the group's variables, the action for Z, the space's variables
  pub graph-group : (k : ℕ) → k < group_count s → at (graph_point s) k ≡ x_at k
  graph-group k h =
      let low : k < length (group_copy s 0) = omega (arith, length-variables (0 * group_count s) (group_count s), h) in
      let more : k < length (group_copy s 0 ++ s.action) = omega (arith, length-append (group_copy s 0) s.action, low) in
      image-left ops laws (group_copy s 0 ++ s.action) _ k more ∙ image-left ops laws (group_copy s 0) _ k low ∙ image-variables ops laws (0 * group_count s) (group_count s) k k h (omega arith)

  pub graph-moved : HasForm s → (j : ℕ) → j < space_count s → at (graph_point s) (group_count s + j) ≡ at s.action j
  graph-moved form j h =
      let within : group_count s + j < length (group_copy s 0 ++ s.action) = omega (arith, length-append (group_copy s 0) s.action, length-variables (0 * group_count s) (group_count s), form.action_count, h) in
      image-left ops laws (group_copy s 0 ++ s.action) _ (group_count s + j) within ∙ image-right ops laws (group_copy s 0) s.action (group_count s) j _ (length-variables (0 * group_count s) (group_count s)) refl

  pub graph-space : HasForm s → (j : ℕ) → j < space_count s → at (graph_point s) (group_count s + space_count s + j) ≡ x_at (group_count s + j)
  graph-space form j h =
      let count : length (group_copy s 0 ++ s.action) ≡ group_count s + space_count s = omega (arith, length-append (group_copy s 0) s.action, length-variables (0 * group_count s) (group_count s), form.action_count) in
      image-right ops laws (group_copy s 0 ++ s.action) _ (group_count s + space_count s) j _ count refl ∙ image-variables ops laws (1 * group_count s) (space_count s) j _ h (omega arith)

  -- the unit, and the space's variables
  abbrev pub unit_once : List Poly
  unit_once = unit_point s ++ space_behind s 0

  -- the unit, and the space's variables for Z and for themselves
  abbrev pub unit_twice : List Poly
  unit_twice = unit_point s ++ space_behind s 0 ++ space_behind s 0

  length-unit : HasForm s → length (unit_point s) ≡ group_count s
  length-unit form = length-map s.unit (constant ops) ∙ form.unit_count

  pub once-group : HasForm s → (k : ℕ) → k < group_count s → at unit_once k ≡ at (unit_point s) k
  once-group form k h = let low : k < length (unit_point s) = omega (arith, length-unit form, h) in image-left ops laws (unit_point s) _ k low

  pub once-space : HasForm s → (j : ℕ) → j < space_count s → at unit_once (group_count s + j) ≡ x_at j
  once-space form j h = image-right ops laws (unit_point s) _ (group_count s) j _ (length-unit form) refl ∙ image-variables ops laws (0 * group_count s) (space_count s) j j h (omega arith)

  pub twice-group : HasForm s → (k : ℕ) → k < group_count s → at unit_twice k ≡ at (unit_point s) k
  twice-group form k h =
      let low : k < length (unit_point s) = omega (arith, length-unit form, h) in
      let more : k < length (unit_point s ++ space_behind s 0) = omega (arith, length-append (unit_point s) (space_behind s 0), low) in
      image-left ops laws (unit_point s ++ space_behind s 0) _ k more ∙ image-left ops laws (unit_point s) _ k low

  pub twice-moved : HasForm s → (j : ℕ) → j < space_count s → at unit_twice (group_count s + j) ≡ x_at j
  twice-moved form j h =
      let within : group_count s + j < length (unit_point s ++ space_behind s 0) = omega (arith, length-append (unit_point s) (space_behind s 0), length-unit form, length-variables (0 * group_count s) (space_count s), h) in
      image-left ops laws (unit_point s ++ space_behind s 0) _ (group_count s + j) within ∙ image-right ops laws (unit_point s) _ (group_count s) j _ (length-unit form) refl ∙ image-variables ops laws (0 * group_count s) (space_count s) j j h (omega arith)

  pub twice-space : HasForm s → (j : ℕ) → j < space_count s → at unit_twice (group_count s + space_count s + j) ≡ x_at j
  twice-space form j h =
      let count : length (unit_point s ++ space_behind s 0) ≡ group_count s + space_count s = omega (arith, length-append (unit_point s) (space_behind s 0), length-unit form, length-variables (0 * group_count s) (space_count s)) in
      image-right ops laws (unit_point s ++ space_behind s 0) _ (group_count s + space_count s) j _ count refl ∙ image-variables ops laws (0 * group_count s) (space_count s) j j h (omega arith)

  differences-at : (a b : List Poly) (k : ℕ) (d e : Poly) → k < length a → k < length b → get_or (differences s a b) k [] ≡ difference ops (get_or a k d) (get_or b k e)
  differences-at [] b k d e h i = absurd (omega arith)
  differences-at (f ∷ a) [] k d e h i = absurd (omega arith)
  differences-at (f ∷ a) (g ∷ b) zero d e h i = refl
  differences-at (f ∷ a) (g ∷ b) (suc k) d e h i = differences-at a b k d e (omega arith) (omega arith)

  differences_few : (a b : List Poly) → length (differences s a b) ≤ length a
  differences_few [] b = omega arith
  differences_few (f ∷ a) [] = omega arith
  differences_few (f ∷ a) (g ∷ b) = let h = differences_few a b in omega (arith, h)

  -- the graph has no more generators than the space has variables
  pub graph_few : length (graph s) ≤ space_count s
  unfolding graph
  graph_few = omega (arith, differences_few (variables s (group_count s) (space_count s)) (moved s (group_copy s 0) (variables s (group_count s + space_count s) (space_count s))), length-variables (group_count s) (space_count s))

  -- the class of a coordinate of a difference of two points
  pub difference-at : (a b : List Poly) (k : ℕ) → k < length a → k < length b → generator ops laws (differences s a b) k ≡ (poly_ring ops laws).add (at a k) ((poly_ring ops laws).neg (at b k))
  difference-at a b k h i =
      ap (class (poly_ops ops)) (differences-at a b k (poly_ops ops).one (poly_ops ops).one h i)
      ∙ class-add (poly_ops ops) (poly_laws ops laws) _ _ ∙ ap ((poly_ring ops laws).add (at a k)) (class-neg (poly_ops ops) (poly_laws ops laws) _)

  -- the class of a coordinate of polynomials at a point
  pub at_point-at : (point fs : List Poly) (k : ℕ) → k < length fs → at (at_point s point fs) k ≡ (put ops laws point).at (at fs k)
  at_point-at point fs k h = ap (class (poly_ops ops)) (map_within (substitute ops point) fs k (poly_ops ops).one (poly_ops ops).one h) ∙ put-class ops laws point _

  -- a generator of the graph
  pub graph-at : HasForm s → (j : ℕ) → j < space_count s → generator ops laws (graph s) j ≡ (poly_ring ops laws).add (x_at (group_count s + j)) ((poly_ring ops laws).neg ((put ops laws apart).at (at s.action j)))
  unfolding graph
  graph-at form j h =
      let low : j < length s.action = omega (arith, form.action_count, h) in
      let here : j < length (variables s (group_count s) (space_count s)) = omega (arith, length-variables (group_count s) (space_count s), h) in
      let there : j < length (at_point s apart s.action) = omega (arith, length-map s.action (substitute ops apart), low) in
      difference-at (variables s (group_count s) (space_count s)) (moved s (group_copy s 0) (variables s (group_count s + space_count s) (space_count s))) j here there
      ∙ ap₂ (λ x y. (poly_ring ops laws).add x ((poly_ring ops laws).neg y)) (image-variables ops laws (group_count s) (space_count s) j _ h refl) (at_point-at apart s.action j low)
