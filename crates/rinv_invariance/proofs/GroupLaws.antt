-- The laws of a system, which are memberships in the ideals of copies of the group, hold at the points of every algebra.
--   copy-zeros           at a point whose pieces are points of the group, the ideal of each copy is zero
--   laws_at              the laws at points
use Rattle.std.proofs.Common.{◌≡◌, ℕ, zero, suc, ◌+◌, ◌*◌, ◌<◌, List, [], ◌++◌, length, map, flat_map, get_or, sym, ◌∙◌, ap, ap₂, subst, arith, append_assoc, length-append}
use Rattle.std.specs.List.{range_with_len}
use Rattle.std.proofs.lemmas.List.{length-map}
use Rattle.std.proofs.lemmas.List.FromFn.{length-range_with_len}
use Rattle.rinv_algebra.specs.Residue.{residue_ops}
use Rattle.rinv_algebra.specs.Polynomial.{past}
use Rattle.rinv_algebra.specs.Value.{value, substitute}
use Rattle.rinv_algebra.proofs.ResidueLaws.{residue_laws}
use Rattle.rinv_theory.proofs.CRing.{CRing, Hom}
use Rattle.rinv_theory.proofs.Variables.{past-class}
use Rattle.rinv_soundness.proofs.SystemForms.{HasForm}
use Rattle.rinv_soundness.proofs.GeneratorLists.{map-at}
use Rattle.rinv_defs.specs.System.{System, Poly, group_count, space_count, variables, group_copy, space_behind, ideal_copies, unit_point, times, inverse_of, moved, differences, at_point}
use Rattle.rinv_defs.specs.Laws.{Law, L2, L3, L4, L5, L6, A1, A2, copies, parts, AllLawsHold}
use Rattle.rinv_invariance.proofs.Points.{scalars, poly_terms, poly_class, at, values, product, inverse, act, unit, IsPoint, IsOver, images, image-substitute, images-times, images-inverse_of, images-moved, images-unit}
use Rattle.rinv_invariance.proofs.PieceValues.{at-constant, piece, piece-moved}
use Rattle.rinv_invariance.proofs.Zeros.{Zeros, zeros-left, zeros-right, zeros_both, zeros-at, zeros-map, members-zero, differences-equal}
use Rattle.rinv_invariance.proofs.PointLaws.{LawsAt}

module _ (s : System) (form : HasForm s) {A : Type 0} {𝓐 : CRing A} (κ : Hom (scalars s.p) 𝓐) where
  -- the ideal of one copy
  pub copy-zeros : (u a v : List A) (place : ℕ) → length u ≡ place → IsPoint s κ a → Zeros s (at s κ (u ++ (a ++ v))) (map (past place) s.ideal)
  copy-zeros u a v place e point = zeros-map s (at s κ (u ++ (a ++ v))) (past place) s.ideal (λ k low.
      ap (at s κ (u ++ (a ++ v))).at (past-class (residue_ops s.p) (residue_laws s.p) place (get_or s.ideal k []))
      ∙ piece-moved s κ u a v place (group_count s) e point.size (form.ideal_front k low) ∙ point.zero k)

  -- the ideals of all copies
  all_copies : (h : Hom (poly_terms s.p).ring 𝓐) (start k : ℕ) → ((j : ℕ) → j < k → Zeros s h (map (past ((start + j) * group_count s)) s.ideal)) → Zeros s h (flat_map (λ j. map (past (j * group_count s)) s.ideal) (range_with_len start k))
  all_copies h start zero z = tt
  all_copies h start (suc k) z =
      let here : start + 0 ≡ start = omega arith in
      let next : (j : ℕ) → start + suc j ≡ (start + 1) + j = λ j. omega arith in
      zeros_both s h (map (past (start * group_count s)) s.ideal) _ (subst (λ (n : ℕ). Zeros s h (map (past (n * group_count s)) s.ideal)) here (z 0 (omega arith)))
      (all_copies h (start + 1) k (λ j low. subst (λ (n : ℕ). Zeros s h (map (past (n * group_count s)) s.ideal)) (next j) (z (suc j) (omega (arith, low)))))

  -- points of one, two and three pieces: the ideals of the copies
  one_copy : (a v : List A) → IsPoint s κ a → (j : ℕ) → j < 1 → Zeros s (at s κ (a ++ v)) (map (past (j * group_count s)) s.ideal)
  one_copy a v point zero low = copy-zeros [] a v (0 * group_count s) (omega arith) point
  one_copy a v point (suc j) low = absurd (omega (arith, low))

  two_copies : (a b v : List A) → IsPoint s κ a → IsPoint s κ b → (j : ℕ) → j < 2 → Zeros s (at s κ (a ++ (b ++ v))) (map (past (j * group_count s)) s.ideal)
  two_copies a b v p q zero low = one_copy a (b ++ v) p 0 (omega arith)
  two_copies a b v p q (suc zero) low = let size = p.size in copy-zeros a b v (1 * group_count s) (omega (arith, size)) q
  two_copies a b v p q (suc (suc j)) low = absurd (omega (arith, low))

  third : (a b c v : List A) → (a ++ b) ++ (c ++ v) ≡ a ++ (b ++ (c ++ v))
  third a b c v = append_assoc a b (c ++ v)

  length_two : (a b : List A) (i j : ℕ) → length a ≡ i → length b ≡ j → length (a ++ b) ≡ i + j
  length_two a b i j e f = omega (arith, length-append a b, e, f)

  three_copies : (a b c v : List A) → IsPoint s κ a → IsPoint s κ b → IsPoint s κ c → (j : ℕ) → j < 3 → Zeros s (at s κ (a ++ (b ++ (c ++ v)))) (map (past (j * group_count s)) s.ideal)
  three_copies a b c v p q r zero low = one_copy a (b ++ (c ++ v)) p 0 (omega arith)
  three_copies a b c v p q r (suc zero) low = two_copies a b (c ++ v) p q 1 (omega arith)
  three_copies a b c v p q r (suc (suc zero)) low =
      let two = length_two a b (group_count s) (group_count s) p.size q.size in
      subst (λ x. Zeros s (at s κ x) (map (past (2 * group_count s)) s.ideal)) (third a b c v) (copy-zeros (a ++ b) c v (2 * group_count s) (omega (arith, two)) r)
  three_copies a b c v p q r (suc (suc (suc j))) low = absurd (omega (arith, low))

  -- their coordinates
  copy_0 : (a v : List A) → IsPoint s κ a → images s κ (at s κ (a ++ v)) (group_copy s 0) ≡ a
  copy_0 a v p = piece s κ [] a v (0 * group_count s) (group_count s) (omega arith) p.size

  copy_1 : (a b v : List A) → IsPoint s κ a → IsPoint s κ b → images s κ (at s κ (a ++ (b ++ v))) (group_copy s 1) ≡ b
  copy_1 a b v p q = let size = p.size in piece s κ a b v (1 * group_count s) (group_count s) (omega (arith, size)) q.size

  behind_two : (a b c v : List A) (count : ℕ) → IsPoint s κ a → IsPoint s κ b → length c ≡ count → images s κ (at s κ (a ++ (b ++ (c ++ v)))) (variables s (2 * group_count s) count) ≡ c
  behind_two a b c v count p q size =
      let two = length_two a b (group_count s) (group_count s) p.size q.size in
      subst (λ x. images s κ (at s κ x) (variables s (2 * group_count s) count) ≡ c) (third a b c v) (piece s κ (a ++ b) c v (2 * group_count s) count (omega (arith, two)) size)

  -- a point of the group, where the ideal at a list of polynomials is zero at the list's images
  point_of : (h : Hom (poly_terms s.p).ring 𝓐) → IsOver s κ h → (point : List Poly) (a : List A) → length a ≡ group_count s → images s κ h point ≡ a → Zeros s h (at_point s point s.ideal) → IsPoint s κ a
  unfolding value
  point_of h over point a size e z = record {
    size = size;
    zero = λ k. ap (λ x. (at s κ x).at (poly_class s.p (get_or s.ideal k []))) (sym e) ∙ sym (image-substitute s κ h over point (get_or s.ideal k []))
        ∙ ap (λ f. h.at (poly_class s.p f)) (sym (map-at (substitute (residue_ops s.p) point) s.ideal k [])) ∙ zeros-at s h (at_point s point s.ideal) z k;
  }

  length-values : (a : List A) (fs : List Poly) (n : ℕ) → length fs ≡ n → length (values s κ a fs) ≡ n
  length-values a fs n e = length-map fs _ ∙ e

  module _ (laws : AllLawsHold s) where
    -- a law's parts are zero where the ideals of its copies are
    law-zeros : (law : Law) (h : Hom (poly_terms s.p).ring 𝓐) → ((j : ℕ) → j < copies law → Zeros s h (map (past (j * group_count s)) s.ideal)) → Zeros s h (parts s law)
    law-zeros law h z = members-zero s h (ideal_copies s (copies law)) (all_copies h 0 (copies law) (λ j low. let e : j ≡ 0 + j = omega arith in subst (λ (n : ℕ). Zeros s h (map (past (n * group_count s)) s.ideal)) e (z j low))) (parts s law) (laws law)

    -- a law that says that two lists are equal
    equal_at : (h : Hom (poly_terms s.p).ring 𝓐) (xs ys : List Poly) (n : ℕ) → length xs ≡ n → length ys ≡ n → Zeros s h (differences s xs ys) → {x y : List A} → images s κ h xs ≡ x → images s κ h ys ≡ y → x ≡ y
    equal_at h xs ys n e f z p q = sym p ∙ differences-equal s h xs ys (e ∙ sym f) z ∙ q

    length-at : (point fs : List Poly) (n : ℕ) → length fs ≡ n → length (at_point s point fs) ≡ n
    length-at point fs n e = length-map fs _ ∙ e

    length-variables : (place count : ℕ) → length (variables s place count) ≡ count
    length-variables place count = length-map (range_with_len place count) _ ∙ length-range_with_len place count

    length-unit : length (unit_point s) ≡ group_count s
    length-unit = length-map s.unit _ ∙ form.unit_count

    at_products : (a b : List A) → IsPoint s κ a → IsPoint s κ b → IsPoint s κ (product s κ a b)
    unfolding parts
    at_products a b p q = point_of h (at-constant s κ (a ++ (b ++ []))) (times s (group_copy s 0) (group_copy s 1)) (product s κ a b) (length-values (a ++ b) s.product _ form.product_count)
        (images-times s κ h (at-constant s κ (a ++ (b ++ []))) (group_copy s 0) (group_copy s 1) ∙ ap₂ (product s κ) (copy_0 a (b ++ []) p) (copy_1 a b [] p q)) (law-zeros L2 h (two_copies a b [] p q))
      where
        h : Hom (poly_terms s.p).ring 𝓐
        h = at s κ (a ++ (b ++ []))

    at_inverses : (a : List A) → IsPoint s κ a → IsPoint s κ (inverse s κ a)
    unfolding parts
    at_inverses a p = point_of h (at-constant s κ (a ++ [])) (inverse_of s (group_copy s 0)) (inverse s κ a) (length-values a s.inverse _ form.inverse_count)
        (images-inverse_of s κ h (at-constant s κ (a ++ [])) (group_copy s 0) ∙ ap (inverse s κ) (copy_0 a [] p)) (law-zeros L3 h (one_copy a [] p))
      where
        h : Hom (poly_terms s.p).ring 𝓐
        h = at s κ (a ++ [])

    at_associative : (a b c : List A) → IsPoint s κ a → IsPoint s κ b → IsPoint s κ c → product s κ (product s κ a b) c ≡ product s κ a (product s κ b c)
    unfolding parts
    at_associative a b c p q r =
        equal_at h (times s (times s x y) z) (times s x (times s y z)) (group_count s) (length-at _ s.product _ form.product_count) (length-at _ s.product _ form.product_count) (law-zeros L4 h (three_copies a b c [] p q r))
        (images-times s κ h over (times s x y) z ∙ ap₂ (product s κ) (images-times s κ h over x y ∙ ap₂ (product s κ) at_x at_y) at_z)
        (images-times s κ h over x (times s y z) ∙ ap₂ (product s κ) at_x (images-times s κ h over y z ∙ ap₂ (product s κ) at_y at_z))
      where
        h : Hom (poly_terms s.p).ring 𝓐
        h = at s κ (a ++ (b ++ (c ++ [])))

        over : IsOver s κ h
        over = at-constant s κ (a ++ (b ++ (c ++ [])))

        x : List Poly
        x = group_copy s 0

        y : List Poly
        y = group_copy s 1

        z : List Poly
        z = group_copy s 2

        at_x : images s κ h x ≡ a
        at_x = copy_0 a (b ++ (c ++ [])) p

        at_y : images s κ h y ≡ b
        at_y = copy_1 a b (c ++ []) p q

        at_z : images s κ h z ≡ c
        at_z = behind_two a b c [] (group_count s) p q r.size

    at_neutral : (a : List A) → IsPoint s κ a → product s κ a (unit s κ) ≡ a
    unfolding parts
    at_neutral a p =
        equal_at h (times s x (unit_point s)) x (group_count s) (length-at _ s.product _ form.product_count) (length-variables (0 * group_count s) (group_count s)) (zeros-right s h (differences s (times s (unit_point s) x) x) _ (law-zeros L5 h (one_copy a [] p)))
        (images-times s κ h over x (unit_point s) ∙ ap₂ (product s κ) (copy_0 a [] p) (images-unit s κ h over)) (copy_0 a [] p)
      where
        h : Hom (poly_terms s.p).ring 𝓐
        h = at s κ (a ++ [])

        over : IsOver s κ h
        over = at-constant s κ (a ++ [])

        x : List Poly
        x = group_copy s 0

    at_inverse_left : (a : List A) → IsPoint s κ a → product s κ (inverse s κ a) a ≡ unit s κ
    unfolding parts
    at_inverse_left a p =
        equal_at h (times s (inverse_of s x) x) (unit_point s) (group_count s) (length-at _ s.product _ form.product_count) length-unit (zeros-left s h (differences s (times s (inverse_of s x) x) (unit_point s)) (differences s (times s x (inverse_of s x)) (unit_point s)) (law-zeros L6 h (one_copy a [] p)))
        (images-times s κ h over (inverse_of s x) x ∙ ap₂ (product s κ) (images-inverse_of s κ h over x ∙ ap (inverse s κ) (copy_0 a [] p)) (copy_0 a [] p)) (images-unit s κ h over)
      where
        h : Hom (poly_terms s.p).ring 𝓐
        h = at s κ (a ++ [])

        over : IsOver s κ h
        over = at-constant s κ (a ++ [])

        x : List Poly
        x = group_copy s 0

    at_inverse_right : (a : List A) → IsPoint s κ a → product s κ a (inverse s κ a) ≡ unit s κ
    unfolding parts
    at_inverse_right a p =
        equal_at h (times s x (inverse_of s x)) (unit_point s) (group_count s) (length-at _ s.product _ form.product_count) length-unit (zeros-right s h (differences s (times s (inverse_of s x) x) (unit_point s)) (differences s (times s x (inverse_of s x)) (unit_point s)) (law-zeros L6 h (one_copy a [] p)))
        (images-times s κ h over x (inverse_of s x) ∙ ap₂ (product s κ) (copy_0 a [] p) (images-inverse_of s κ h over x ∙ ap (inverse s κ) (copy_0 a [] p))) (images-unit s κ h over)
      where
        h : Hom (poly_terms s.p).ring 𝓐
        h = at s κ (a ++ [])

        over : IsOver s κ h
        over = at-constant s κ (a ++ [])

        x : List Poly
        x = group_copy s 0

    at_still : (y : List A) → length y ≡ space_count s → act s κ (unit s κ) y ≡ y
    unfolding parts
    at_still y size =
        equal_at h (moved s (unit_point s) x) x (space_count s) (length-at _ s.action _ form.action_count) (length-variables (0 * group_count s) (space_count s)) (law-zeros A1 h (λ j low. absurd (omega (arith, low))))
        (images-moved s κ h over (unit_point s) x ∙ ap₂ (act s κ) (images-unit s κ h over) at_x) at_x
      where
        h : Hom (poly_terms s.p).ring 𝓐
        h = at s κ (y ++ [])

        over : IsOver s κ h
        over = at-constant s κ (y ++ [])

        x : List Poly
        x = space_behind s 0

        at_x : images s κ h x ≡ y
        at_x = piece s κ [] y [] (0 * group_count s) (space_count s) (omega arith) size

    at_acts : (a b y : List A) → IsPoint s κ a → IsPoint s κ b → length y ≡ space_count s → act s κ a (act s κ b y) ≡ act s κ (product s κ a b) y
    unfolding parts
    at_acts a b y p q size =
        equal_at h (moved s u (moved s v x)) (moved s (times s u v) x) (space_count s) (length-at _ s.action _ form.action_count) (length-at _ s.action _ form.action_count) (law-zeros A2 h (two_copies a b (y ++ []) p q))
        (images-moved s κ h over u (moved s v x) ∙ ap₂ (act s κ) at_u (images-moved s κ h over v x ∙ ap₂ (act s κ) at_v at_x))
        (images-moved s κ h over (times s u v) x ∙ ap₂ (act s κ) (images-times s κ h over u v ∙ ap₂ (product s κ) at_u at_v) at_x)
      where
        h : Hom (poly_terms s.p).ring 𝓐
        h = at s κ (a ++ (b ++ (y ++ [])))

        over : IsOver s κ h
        over = at-constant s κ (a ++ (b ++ (y ++ [])))

        u : List Poly
        u = group_copy s 0

        v : List Poly
        v = group_copy s 1

        x : List Poly
        x = space_behind s 2

        at_u : images s κ h u ≡ a
        at_u = copy_0 a (b ++ (y ++ [])) p

        at_v : images s κ h v ≡ b
        at_v = copy_1 a b (y ++ []) p q

        at_x : images s κ h x ≡ y
        at_x = behind_two a b y [] (space_count s) p q size

    -- the laws at points
    pub laws_at : LawsAt s κ
    laws_at = record { products = at_products; inverses = at_inverses; associative = at_associative; neutral = at_neutral; inverse_left = at_inverse_left; inverse_right = at_inverse_right; still = at_still; acts = at_acts }
