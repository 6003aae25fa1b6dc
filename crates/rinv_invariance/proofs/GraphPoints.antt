-- Maps of the polynomials' ring that are zero on the action's ideal: they are the points a, z, y with a in the group, z = a y, and z on
-- the section.
--   images-front         the image of a polynomial in moved first variables is its value at their images
--   GraphPoint s κ a z y the three lie so
--   graph_point          the images of the variables lie so, where a map is zero on the action's ideal
--   graph-zeros          and the other way round
use Rattle.std.proofs.Common.{◌≡◌, ◌⊎◌, ℕ, ◌+◌, ◌*◌, ◌<◌, ◌≤◌, inl, inr, List, [], ◌++◌, length, map, get_or, refl, sym, ◌∙◌, ap, arith}
use Rattle.std.specs.List.{range_with_len}
use Rattle.std.proofs.lemmas.List.{length-map, get_or_past}
use Rattle.std.proofs.lemmas.List.FromFn.{length-range_with_len, get_or-map-range_with_len}
use Rattle.rinv_algebra.specs.Residue.{residue_ops}
use Rattle.rinv_algebra.specs.Polynomial.{past, variable}
use Rattle.rinv_algebra.proofs.ResidueLaws.{residue_laws}
use Rattle.rinv_theory.proofs.CRing.{CRing, Hom, compose}
use Rattle.rinv_theory.proofs.Of.{Of}
use Rattle.rinv_theory.proofs.Variables.{IsFront, in_variables-of, past-class}
use Rattle.rinv_soundness.proofs.FirstVariables.{agree_front, low_or_high}
use Rattle.rinv_soundness.proofs.Substituting.{var, variable-class, move, move-constant, move-variable}
use Rattle.rinv_soundness.proofs.GeneratorLists.{map-at}
use Rattle.rinv_soundness.proofs.SystemForms.{HasForm, InFirst}
use Rattle.rinv_defs.specs.System.{System, Poly, group_count, space_count, variables, group_copy, moved}
use Rattle.rinv_defs.specs.Extended.{graph, action_ideal}
use Rattle.rinv_invariance.proofs.Points.{scalars, PolyClass, poly_terms, poly_class, map-map, at, act, IsPoint, IsOver, images, images-moved}
use Rattle.rinv_invariance.proofs.PieceValues.{at-constant, at-variable}
use Rattle.rinv_invariance.proofs.Zeros.{Zeros, zeros-left, zeros-right, zeros_both, zeros-at, zeros-from, zeros-map, differences-equal, equal-differences}

module _ (s : System) {A : Type 0} {𝓐 : CRing A} (κ : Hom (scalars s.p) 𝓐) where
  module _ (h : Hom (poly_terms s.p).ring 𝓐) (over : IsOver s κ h) where
    -- the image of a variable, among the images of so many from a place on
    pub images-variable : (place count k : ℕ) (d : A) → k < count → get_or (images s κ h (variables s place count)) k d ≡ h.at (var (residue_ops s.p) (residue_laws s.p) (place + k))
    images-variable place count k d low =
        ap (λ (xs : List A). get_or xs k d) (map-map _ (variable (residue_ops s.p)) (range_with_len place count)) ∙ get_or-map-range_with_len (λ j. h.at (poly_class s.p (variable (residue_ops s.p) j))) place count k (place + k) d low refl
        ∙ ap h.at (variable-class (residue_ops s.p) (residue_laws s.p) (place + k))

    -- the image of a polynomial in the first variables, moved to a place, is its value at the images of the variables there
    pub images-front : (place count : ℕ) {x : PolyClass s.p} → Of (poly_terms s.p) (IsFront count) x → h.at ((move (residue_ops s.p) (residue_laws s.p) place).at x) ≡ (at s κ (images s κ h (variables s place count))).at x
    unfolding compose
    images-front place count =
        agree_front (poly_terms s.p) 𝓐 (compose h (move (residue_ops s.p) (residue_laws s.p) place)) (at s κ (images s κ h (variables s place count))) count
        (λ c. ap h.at (move-constant (residue_ops s.p) (residue_laws s.p) place c) ∙ over c ∙ sym (at-constant s κ (images s κ h (variables s place count)) c))
        (λ k low. ap h.at (move-variable (residue_ops s.p) (residue_laws s.p) place k) ∙ sym (images-variable place count k 𝓐.one low) ∙ sym (at-variable s κ (images s κ h (variables s place count)) k))

    -- the same of a polynomial that is not moved
    pub images-first : (count : ℕ) {x : PolyClass s.p} → Of (poly_terms s.p) (IsFront count) x → h.at x ≡ (at s κ (images s κ h (variables s 0 count))).at x
    images-first count =
        agree_front (poly_terms s.p) 𝓐 h (at s κ (images s κ h (variables s 0 count))) count
        (λ c. over c ∙ sym (at-constant s κ (images s κ h (variables s 0 count)) c))
        (λ k low. let e : k ≡ 0 + k = omega arith in ap (λ (j : ℕ). h.at (var (residue_ops s.p) (residue_laws s.p) j)) e ∙ sym (images-variable 0 count k 𝓐.one low) ∙ sym (at-variable s κ (images s κ h (variables s 0 count)) k))

    -- how many
    pub length-images : (place count : ℕ) → length (images s κ h (variables s place count)) ≡ count
    length-images place count = length-map (variables s place count) _ ∙ length-map (range_with_len place count) _ ∙ length-range_with_len place count

  -- z is y, moved by the point a of the group, and z is on the section
  pub record GraphPoint (a z y : List A) : Type 0 where
    pub point : IsPoint s κ a
    pub moved_to : z ≡ act s κ a y
    pub section : (k : ℕ) → (at s κ z).at (poly_class s.p (get_or s.section k [])) ≡ 𝓐.zero

-- past the end of a list is zero, which is in all variables
pub each_front : (s : System) (v : ℕ) (fs : List Poly) → ((k : ℕ) → k < length fs → InFirst s v (get_or fs k [])) → (k : ℕ) → InFirst s v (get_or fs k [])
each_front s v fs front k = go (low_or_high k (length fs))
  where
    go : (k < length fs) ⊎ (length fs ≤ k) → InFirst s v (get_or fs k [])
    go (inl low) = front k low
    go (inr high) = rw (get_or_past fs k [] high) (in_variables-of (residue_ops s.p) (residue_laws s.p) v [] refl)

module _ (s : System) (form : HasForm s) (sections : (k : ℕ) → k < length s.section → InFirst s (space_count s) (get_or s.section k [])) {A : Type 0} {𝓐 : CRing A} (κ : Hom (scalars s.p) 𝓐) (h : Hom (poly_terms s.p).ring 𝓐) (over : IsOver s κ h) where
  -- the images of the group's variables, of Z and of the space's variables
  abbrev pub group_images : List A
  group_images = images s κ h (variables s 0 (group_count s))

  abbrev pub graph_images : List A
  graph_images = images s κ h (variables s (group_count s) (space_count s))

  abbrev pub space_images : List A
  space_images = images s κ h (variables s (group_count s + space_count s) (space_count s))

  images-graph : images s κ h (moved s (group_copy s 0) (variables s (group_count s + space_count s) (space_count s))) ≡ act s κ group_images space_images
  images-graph = let e : 0 * group_count s ≡ 0 = omega arith in images-moved s κ h over _ _ ∙ ap (λ (n : ℕ). act s κ (images s κ h (variables s n (group_count s))) space_images) e

  ideal-value : (k : ℕ) → h.at (poly_class s.p (get_or s.ideal k [])) ≡ (at s κ group_images).at (poly_class s.p (get_or s.ideal k []))
  ideal-value k = images-first s κ h over (group_count s) (each_front s (group_count s) s.ideal form.ideal_front k)

  section-value : (k : ℕ) → h.at (poly_class s.p (past (group_count s) (get_or s.section k []))) ≡ (at s κ graph_images).at (poly_class s.p (get_or s.section k []))
  section-value k = ap h.at (past-class (residue_ops s.p) (residue_laws s.p) (group_count s) (get_or s.section k [])) ∙ images-front s κ h over (group_count s) (space_count s) (each_front s (space_count s) s.section sections k)

  -- where a map is zero on the action's ideal
  pub graph_point : Zeros s h (action_ideal s) → GraphPoint s κ group_images graph_images space_images
  unfolding graph
  graph_point z = record {
    point = record { size = length-images s κ h over 0 (group_count s); zero = λ k. sym (ideal-value k) ∙ zeros-at s h s.ideal (zeros-left s h s.ideal (graph s) first) k };
    moved_to = differences-equal s h _ _ (length-variables _ _ ∙ sym (length-map s.action _ ∙ form.action_count)) (zeros-right s h s.ideal (graph s) first) ∙ images-graph;
    section = λ k. sym (section-value k) ∙ ap (λ f. h.at (poly_class s.p f)) (sym (map-at (past (group_count s)) s.section k [])) ∙ zeros-at s h (map (past (group_count s)) s.section) (zeros-right s h (s.ideal ++ graph s) _ z) k;
  }
    where
      first : Zeros s h (s.ideal ++ graph s)
      first = zeros-left s h (s.ideal ++ graph s) (map (past (group_count s)) s.section) z

      length-variables : (place count : ℕ) → length (variables s place count) ≡ count
      length-variables place count = length-map (range_with_len place count) _ ∙ length-range_with_len place count

  -- and the other way round
  pub graph-zeros : GraphPoint s κ group_images graph_images space_images → Zeros s h (action_ideal s)
  unfolding graph
  graph-zeros g = zeros_both s h (s.ideal ++ graph s) _ (zeros_both s h s.ideal (graph s) (zeros-from s h s.ideal (λ k. ideal-value k ∙ g.point.zero k)) (equal-differences s h _ _ (g.moved_to ∙ sym images-graph)))
      (zeros-map s h (past (group_count s)) s.section (λ k low. section-value k ∙ g.section k))
