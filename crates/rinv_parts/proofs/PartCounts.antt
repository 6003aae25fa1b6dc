-- How many parts a law has, and that its points have as many coordinates as its polynomials have variables.
--   points-form          points as they are stored
--   polynomials-few      how many polynomials a law speaks of
--   doubled, single      how many parts it has
use Rattle.std.proofs.Common.{◌≡◌, ℕ, ◌+◌, ◌*◌, ◌≤◌, List, ◌++◌, length, length-append, refl, sym, ◌∙◌, subst, inl, inr, arith}
use Rattle.std.specs.Prelude.{◌⊎◌}
use Rattle.rinv_text.proofs.SystemParts.{HasParts, parts-of, between}
use Rattle.rinv_defs.specs.System.{System, Poly, group_count, space_count, group_copy, space_behind, unit_point, times, inverse_of, moved}
use Rattle.rinv_defs.specs.SystemForm.{IsSystem}
use Rattle.rinv_defs.specs.Laws.{Law, parts}
use Rattle.rinv_defs.specs.Laws.Law.{L1, L2, L3, L4, L5, L6, A1, A2}
use Rattle.rinv_parts.specs.declared.law.LawName.{LawName}
use Rattle.rinv_parts.specs.declared.law.LawName.TheVariants.{L1 as N1, L2 as N2, L3 as N3, L4 as N4, L5 as N5, L6 as N6, A1 as M1, A2 as M2}
use Rattle.rinv_parts.specs.declared.law_points.LawPoints.{LawPoints}
use Rattle.rinv_parts.specs.declared.law_points.LawPoints.TheVariants.{Vanish, Agree, Give, GiveBoth}
use Rattle.rinv_parts.specs.LawNames.{law_of, polynomial_variables}
use Rattle.rinv_parts.specs.Points.{AreCoordinates, ArePoints, ArePolynomials, Points, vanish, agree, give, give_both, law_points, law_polynomials, part_number}
use Rattle.rinv_parts.proofs.Stored.{stored-point}
use Rattle.rinv_parts.proofs.PartForms.{copy-count, behind-count, unit-count, times-count, inverse-count, moved-count, number_of, part-number}

-- the points have m coordinates, and the values are n
abbrev HaveLengths : ℕ → ℕ → Points → Type 0
HaveLengths m n (vanish x) = length x ≡ m
HaveLengths m n (agree x y) = (length x ≡ m) × (length y ≡ m)
HaveLengths m n (give x z) = (length x ≡ m) × (length z ≡ n)
HaveLengths m n (give_both x y z) = (length x ≡ m) × (length y ≡ m) × (length z ≡ n)

-- so do they as they are stored
pub record AreFormed (p v m n : ℕ) (points : Points) (stored : LawPoints) : Type 0 where
  pub coordinates : AreCoordinates p v m n stored
  pub number : part_number n stored ≡ number_of n points

formed : (p v m n : ℕ) (points : Points) → HaveLengths m n points → (stored : LawPoints) → ArePoints p v points stored → AreFormed p v m n points stored
formed p v m n (vanish x) h (Vanish a) s = record { coordinates = stored-point p v m x a.items h s; number = refl }
formed p v m n (vanish x) h (Agree a b) s = absurd s
formed p v m n (vanish x) h (Give a c) s = absurd s
formed p v m n (vanish x) h (GiveBoth a b c) s = absurd s
formed p v m n (agree x y) h (Vanish a) s = absurd s
formed p v m n (agree x y) h (Agree a b) s = record { coordinates = (stored-point p v m x a.items h.0 s.0, stored-point p v m y b.items h.1 s.1); number = refl }
formed p v m n (agree x y) h (Give a c) s = absurd s
formed p v m n (agree x y) h (GiveBoth a b c) s = absurd s
formed p v m n (give x z) h (Vanish a) s = absurd s
formed p v m n (give x z) h (Agree a b) s = absurd s
formed p v m n (give x z) h (Give a c) s = record { coordinates = (stored-point p v m x a.items h.0 s.0, stored-point p v n z c.items h.1 s.1); number = refl }
formed p v m n (give x z) h (GiveBoth a b c) s = absurd s
formed p v m n (give_both x y z) h (Vanish a) s = absurd s
formed p v m n (give_both x y z) h (Agree a b) s = absurd s
formed p v m n (give_both x y z) h (Give a c) s = absurd s
formed p v m n (give_both x y z) h (GiveBoth a b c) s = record { coordinates = (stored-point p v m x a.items h.0 s.0, stored-point p v m y b.items h.1 s.1, stored-point p v n z c.items h.2 s.2); number = refl }

module _ (s : System) (system : IsSystem s) where
  forms : HasParts s
  forms = parts-of s system

  group-few : length s.group ≤ 8
  group-few = (between (length s.group) forms.group_few).1

  space-few : length s.space ≤ 8
  space-few = (between (length s.space) forms.space_few).1

  two : (x y : List Poly) → length x ≡ group_count s → length y ≡ group_count s → length (x ++ y) ≡ 2 * group_count s
  two x y h k = omega (arith, length-append x y, h, k)

  then_space : (x y : List Poly) → length x ≡ group_count s → length y ≡ space_count s → length (x ++ y) ≡ group_count s + space_count s
  then_space x y h k = omega (arith, length-append x y, h, k)

  lengths : (law : Law) → HaveLengths (polynomial_variables s law) (length (law_polynomials s law)) (law_points s law)
  lengths L1 = unit-count s system
  lengths L2 = times-count s system (group_copy s 0) (group_copy s 1)
  lengths L3 = inverse-count s system (group_copy s 0)
  lengths L4 =
      let x : List Poly = times s (group_copy s 0) (group_copy s 1) in
      let y : List Poly = times s (group_copy s 1) (group_copy s 2) in
      (two x (group_copy s 2) (times-count s system (group_copy s 0) (group_copy s 1)) (copy-count s system 2), two (group_copy s 0) y (copy-count s system 0) (times-count s system (group_copy s 1) (group_copy s 2)))
  lengths L5 = (two (unit_point s) (group_copy s 0) (unit-count s system) (copy-count s system 0), two (group_copy s 0) (unit_point s) (copy-count s system 0) (unit-count s system), copy-count s system 0 ∙ sym forms.product_count)
  lengths L6 =
      let x : List Poly = inverse_of s (group_copy s 0) in
      (two x (group_copy s 0) (inverse-count s system (group_copy s 0)) (copy-count s system 0), two (group_copy s 0) x (copy-count s system 0) (inverse-count s system (group_copy s 0)), unit-count s system ∙ sym forms.product_count)
  lengths A1 = (then_space (unit_point s) (space_behind s 0) (unit-count s system) (behind-count s system 0), behind-count s system 0 ∙ sym forms.action_count)
  lengths A2 =
      let x : List Poly = moved s (group_copy s 1) (space_behind s 2) in
      let y : List Poly = times s (group_copy s 0) (group_copy s 1) in
      (then_space (group_copy s 0) x (copy-count s system 0) (moved-count s system (group_copy s 1) (space_behind s 2)), then_space y (space_behind s 2) (times-count s system (group_copy s 0) (group_copy s 1)) (behind-count s system 2))

  pub points-form : (law : Law) (v : ℕ) (stored : LawPoints) → ArePoints s.p v (law_points s law) stored → AreFormed s.p v (polynomial_variables s law) (length (law_polynomials s law)) (law_points s law) stored
  points-form law v stored h = formed s.p v (polynomial_variables s law) (length (law_polynomials s law)) (law_points s law) (lengths law) stored h

  pub polynomials-few : (law : Law) → length (law_polynomials s law) ≤ 64
  polynomials-few L1 = forms.ideal_few
  polynomials-few L2 = forms.ideal_few
  polynomials-few L3 = forms.ideal_few
  polynomials-few L4 = omega (arith, forms.product_count, group-few)
  polynomials-few L5 = omega (arith, forms.product_count, group-few)
  polynomials-few L6 = omega (arith, forms.product_count, group-few)
  polynomials-few A1 = omega (arith, forms.action_count, space-few)
  polynomials-few A2 = omega (arith, forms.action_count, space-few)

  -- their variables
  pub polynomials-normal : (law : Law) → ArePolynomials s.p (polynomial_variables s law) (law_polynomials s law)
  polynomials-normal L1 = forms.ideal
  polynomials-normal L2 = forms.ideal
  polynomials-normal L3 = forms.ideal
  polynomials-normal L4 = forms.product
  polynomials-normal L5 = forms.product
  polynomials-normal L6 = forms.product
  polynomials-normal A1 = forms.action
  polynomials-normal A2 = forms.action

  -- ---- how many parts a law has

  pub doubled : (law : LawName) → (law ≡ N5) ⊎ (law ≡ N6) → 2 * length (law_polynomials s (law_of law)) ≡ length (parts s (law_of law))
  doubled law (inl e) = subst (λ (l : LawName). 2 * length (law_polynomials s (law_of l)) ≡ length (parts s (law_of l))) (sym e) (omega (arith, part-number s system L5))
  doubled law (inr e) = subst (λ (l : LawName). 2 * length (law_polynomials s (law_of l)) ≡ length (parts s (law_of l))) (sym e) (omega (arith, part-number s system L6))

  pub single : (law : LawName) → (law ≡ N5 → ⊥) → (law ≡ N6 → ⊥) → length (law_polynomials s (law_of law)) ≡ length (parts s (law_of law))
  single N1 a b = sym (part-number s system L1)
  single N2 a b = sym (part-number s system L2)
  single N3 a b = sym (part-number s system L3)
  single N4 a b = sym (part-number s system L4)
  single N5 a b = absurd (a refl)
  single N6 a b = absurd (b refl)
  single M1 a b = sym (part-number s system A1)
  single M2 a b = sym (part-number s system A2)

pub coordinates-over : (p q v w m n i j : ℕ) (points : LawPoints) → p ≡ q → v ≡ w → m ≡ n → i ≡ j → AreCoordinates q w n j points → AreCoordinates p v m i points
coordinates-over p q v w m n i j points a b c d h = rw (a, b, c, d) h
