-- The parts of a law by their places.
--   part-made       the part at a place
use Rattle.std.proofs.Common.{◌≡◌, ℕ, ◌+◌, ◌-◌, ◌*◌, ◌<◌, ◌≤◌, true, false, List, [], ◌∷◌, ◌++◌, length, map, get_or, nat_lt, sym, ap, ◌∙◌, subst, inl, inr, arith}
use Rattle.std.specs.Prelude.{zip, if◌then◌else◌}
use Rattle.std.proofs.lemmas.Bool.{cases_lt}
use Rattle.std.proofs.lemmas.Bool.Decides.{nat_tests}
use Rattle.std.proofs.lemmas.List.{length-map, length-append, get_or-map, get_or_append_left, get_or-append-add}
use Rattle.std.proofs.lemmas.List.FromFn.{length-map-range_with_len}
use Rattle.std.proofs.lemmas.Slice.Zip.{length-zip, get_or-zip}
use Rattle.rinv_algebra.specs.Residue.{residue_ops}
use Rattle.rinv_algebra.specs.Polynomial.{constant, difference, variable}
use Rattle.rinv_algebra.specs.Value.{substitute}
use Rattle.rinv_text.proofs.SystemParts.{HasParts, parts-of}
use Rattle.rinv_defs.specs.System.{System, Poly, at_point, differences, group_count, space_count, group_copy, space_behind, unit_point, times, inverse_of, moved}
use Rattle.rinv_defs.specs.SystemForm.{IsSystem}
use Rattle.rinv_defs.specs.Laws.{Law, parts}
use Rattle.rinv_defs.specs.Laws.Law.{L1, L2, L3, L4, L5, L6, A1, A2}
use Rattle.rinv_parts.specs.Points.{Points, vanish, agree, give, give_both, law_points, law_polynomials}
use Rattle.rinv_parts.specs.Substitutions.{less, made_at}

-- ---- values and differences at a place

module _ (s : System) where
  pub values-count : (x fs : List Poly) → length (at_point s x fs) ≡ length fs
  values-count x fs = length-map fs (substitute (residue_ops s.p) x)

  value-at : (x fs : List Poly) (k : ℕ) → k < length fs → get_or (at_point s x fs) k [] ≡ substitute (residue_ops s.p) x (get_or fs k [])
  value-at x fs k few = get_or-map (substitute (residue_ops s.p) x) fs k [] [] few

  pub differences-count : (a b : List Poly) → length a ≡ length b → length (differences s a b) ≡ length a
  differences-count a b many = omega (arith, length-map (zip a b) (λ (c : Poly × Poly). difference (residue_ops s.p) c.0 c.1), length-zip a b, many)

  difference-at : (a b : List Poly) (k : ℕ) → k < length a → k < length b → get_or (differences s a b) k [] ≡ difference (residue_ops s.p) (get_or a k []) (get_or b k [])
  difference-at a b k few low =
      get_or-map (λ (c : Poly × Poly). difference (residue_ops s.p) c.0 c.1) (zip a b) k ([], []) [] (omega (arith, length-zip a b, few, low))
      ∙ ap (λ (c : Poly × Poly). difference (residue_ops s.p) c.0 c.1) (get_or-zip a b k ([], []) few low)

  -- a value less a coordinate
  less-at : (x fs z : List Poly) (k : ℕ) → k < length fs → length z ≡ length fs → get_or (differences s (at_point s x fs) z) k [] ≡ less s.p x (get_or fs k []) (get_or z k [])
  less-at x fs z k few many =
      difference-at (at_point s x fs) z k (omega (arith, few, values-count x fs)) (omega (arith, few, many))
      ∙ ap (λ (f : Poly). difference (residue_ops s.p) f (get_or z k [])) (value-at x fs k few)

  -- a value less another
  agree-at : (x y fs : List Poly) (k : ℕ) → k < length fs → get_or (differences s (at_point s x fs) (at_point s y fs)) k [] ≡ made_at s.p fs (agree x y) k
  agree-at x y fs k few =
      less-at x fs (at_point s y fs) k few (values-count y fs) ∙ ap (λ (f : Poly). less s.p x (get_or fs k []) f) (value-at y fs k few)

  -- two points, one after the other
  both-at : (x y fs z : List Poly) (k : ℕ) → k < length fs + length fs → length z ≡ length fs
      → get_or (differences s (at_point s x fs) z ++ differences s (at_point s y fs) z) k [] ≡ made_at s.p fs (give_both x y z) k
  both-at x y fs z k few many = elim (cases_lt k (length fs)) [
    | inl low ↦
        let yes : nat_lt k (length fs) ≡ true = grind (arith, nat_tests, low) in
        rw yes (get_or_append_left first second [] k (omega (arith, low, count)) ∙ less-at x fs z k low many)
    | inr high ↦
        let no : nat_lt k (length fs) ≡ false = grind (arith, nat_tests, high) in
        let e : k ≡ length first + (k - length fs) = omega (arith, high, count) in
        rw no (ap (λ (j : ℕ). get_or (first ++ second) j []) e ∙ get_or-append-add first second (k - length fs) [] ∙ less-at y fs z (k - length fs) (omega (arith, high, few)) many)
  ]
    where
      first : List Poly
      first = differences s (at_point s x fs) z

      second : List Poly
      second = differences s (at_point s y fs) z

      count : length first ≡ length fs
      count = differences-count (at_point s x fs) z (values-count x fs ∙ sym many) ∙ values-count x fs

-- so many parts has what is said of n polynomials
abbrev pub number_of : ℕ → Points → ℕ
number_of n (vanish x) = n
number_of n (agree x y) = n
number_of n (give x z) = n
number_of n (give_both x y z) = n + n

-- ---- lengths of points

module _ (s : System) (system : IsSystem s) where
  forms : HasParts s
  forms = parts-of s system

  pub copy-count : (k : ℕ) → length (group_copy s k) ≡ group_count s
  copy-count k = length-map-range_with_len (variable (residue_ops s.p)) (k * group_count s) (group_count s)

  pub behind-count : (k : ℕ) → length (space_behind s k) ≡ space_count s
  behind-count k = length-map-range_with_len (variable (residue_ops s.p)) (k * group_count s) (space_count s)

  pub unit-count : length (unit_point s) ≡ group_count s
  unit-count = length-map s.unit (constant (residue_ops s.p)) ∙ forms.unit_count

  pub times-count : (a b : List Poly) → length (times s a b) ≡ group_count s
  times-count a b = values-count s (a ++ b) s.product ∙ forms.product_count

  pub inverse-count : (a : List Poly) → length (inverse_of s a) ≡ group_count s
  inverse-count a = values-count s a s.inverse ∙ forms.inverse_count

  pub moved-count : (a x : List Poly) → length (moved s a x) ≡ space_count s
  moved-count a x = values-count s (a ++ x) s.action ∙ forms.action_count

  -- ---- how many parts a law has

  two-counts : (x y z fs : List Poly) → length z ≡ length fs → length (differences s (at_point s x fs) z ++ differences s (at_point s y fs) z) ≡ length fs + length fs
  two-counts x y z fs many = omega (
    arith,
    length-append (differences s (at_point s x fs) z) (differences s (at_point s y fs) z),
    differences-count s (at_point s x fs) z (values-count s x fs ∙ sym many),
    values-count s x fs,
    differences-count s (at_point s y fs) z (values-count s y fs ∙ sym many),
    values-count s y fs,
  )

  agree-count : (x y fs : List Poly) → length (differences s (at_point s x fs) (at_point s y fs)) ≡ length fs
  agree-count x y fs = differences-count s (at_point s x fs) (at_point s y fs) (values-count s x fs ∙ sym (values-count s y fs)) ∙ values-count s x fs

  copy-of-product : length (group_copy s 0) ≡ length s.product
  copy-of-product = copy-count 0 ∙ sym forms.product_count

  unit-of-product : length (unit_point s) ≡ length s.product
  unit-of-product = unit-count ∙ sym forms.product_count

  space-of-action : length (space_behind s 0) ≡ length s.action
  space-of-action = behind-count 0 ∙ sym forms.action_count

  pub part-number : (law : Law) → length (parts s law) ≡ number_of (length (law_polynomials s law)) (law_points s law)
  unfolding parts
  part-number L1 = values-count s (unit_point s) s.ideal
  part-number L2 = values-count s (times s (group_copy s 0) (group_copy s 1)) s.ideal
  part-number L3 = values-count s (inverse_of s (group_copy s 0)) s.ideal
  part-number L4 = agree-count (times s (group_copy s 0) (group_copy s 1) ++ group_copy s 2) (group_copy s 0 ++ times s (group_copy s 1) (group_copy s 2)) s.product
  part-number L5 = two-counts (unit_point s ++ group_copy s 0) (group_copy s 0 ++ unit_point s) (group_copy s 0) s.product copy-of-product
  part-number L6 = two-counts (inverse_of s (group_copy s 0) ++ group_copy s 0) (group_copy s 0 ++ inverse_of s (group_copy s 0)) (unit_point s) s.product unit-of-product
  part-number A1 = differences-count s (moved s (unit_point s) (space_behind s 0)) (space_behind s 0) (moved-count (unit_point s) (space_behind s 0) ∙ sym (behind-count 0)) ∙ values-count s (unit_point s ++ space_behind s 0) s.action
  part-number A2 = agree-count (group_copy s 0 ++ moved s (group_copy s 1) (space_behind s 2)) (times s (group_copy s 0) (group_copy s 1) ++ space_behind s 2) s.action

  -- the part at a place
  pub part-made : (law : Law) (k : ℕ) → k < length (parts s law) → get_or (parts s law) k [] ≡ made_at s.p (law_polynomials s law) (law_points s law) k
  unfolding parts
  part-made L1 k few = value-at s (unit_point s) s.ideal k (omega (arith, few, values-count s (unit_point s) s.ideal))
  part-made L2 k few = let x : List Poly = times s (group_copy s 0) (group_copy s 1) in value-at s x s.ideal k (omega (arith, few, values-count s x s.ideal))
  part-made L3 k few = let x : List Poly = inverse_of s (group_copy s 0) in value-at s x s.ideal k (omega (arith, few, values-count s x s.ideal))
  part-made L4 k few =
      let x : List Poly = times s (group_copy s 0) (group_copy s 1) ++ group_copy s 2 in
      let y : List Poly = group_copy s 0 ++ times s (group_copy s 1) (group_copy s 2) in
      agree-at s x y s.product k (omega (arith, few, agree-count x y s.product))
  part-made L5 k few =
      let x : List Poly = unit_point s ++ group_copy s 0 in
      let y : List Poly = group_copy s 0 ++ unit_point s in
      both-at s x y s.product (group_copy s 0) k (omega (arith, few, two-counts x y (group_copy s 0) s.product copy-of-product)) copy-of-product
  part-made L6 k few =
      let x : List Poly = inverse_of s (group_copy s 0) ++ group_copy s 0 in
      let y : List Poly = group_copy s 0 ++ inverse_of s (group_copy s 0) in
      both-at s x y s.product (unit_point s) k (omega (arith, few, two-counts x y (unit_point s) s.product unit-of-product)) unit-of-product
  part-made A1 k few =
      let x : List Poly = unit_point s ++ space_behind s 0 in
      less-at s x s.action (space_behind s 0) k (omega (arith, few, differences-count s (at_point s x s.action) (space_behind s 0) (values-count s x s.action ∙ sym space-of-action), values-count s x s.action)) space-of-action
  part-made A2 k few =
      let x : List Poly = group_copy s 0 ++ moved s (group_copy s 1) (space_behind s 2) in
      let y : List Poly = times s (group_copy s 0) (group_copy s 1) ++ space_behind s 2 in
      agree-at s x y s.action k (omega (arith, few, agree-count x y s.action))
