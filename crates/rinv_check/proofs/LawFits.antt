-- A law is shown where each of its parts is, by the cofactors at its place.
--   by-places       a test of all elements, by their places
--   law-fits        the substitutions that a law states fit where those of each part do
--   law-shown       the law is shown where each part is
use Rattle.std.proofs.Common.{◌≡◌, ℕ, zero, suc, ◌+◌, ◌-◌, ◌<◌, ◌≤◌, List, [], ◌∷◌, length, get_or, Bool, true, false, ◌&&◌, nat_lt, refl, sym, ap, ◌∙◌, arith}
use Rattle.std.specs.Prelude.{zip}
use Rattle.std.specs.List.{AllZip, list_all, range_with_len}
use Rattle.std.proofs.lemmas.Bool.Decides.{nat_tests}
use Rattle.std.proofs.lemmas.List.Folds.{list_all-append, list_all_at}
use Rattle.std.proofs.lemmas.List.FromFn.{length-range_with_len, get_or-range_with_len}
use Rattle.std.proofs.lemmas.Slice.Zip.{length-zip, get_or-zip}
use Rattle.rinv_algebra.specs.Ring.{IsSame}
use Rattle.rinv_algebra.specs.Residue.{residue_ops}
use Rattle.rinv_algebra.specs.Polynomial.{poly_ops}
use Rattle.rinv_algebra.specs.Fits.{substitution_fits, multiplies_out}
use Rattle.rinv_algebra.proofs.PolynomialLaws.{poly_laws}
use Rattle.rinv_algebra.proofs.Products.{and_false}
use Rattle.rinv_algebra.proofs.ResidueLaws.{residue_laws}
use Rattle.rinv_defs.specs.System.{System, Poly, ideal_copies}
use Rattle.rinv_defs.specs.SystemForm.{IsSystem}
use Rattle.rinv_defs.specs.Laws.{Law, L1, L2, L3, L4, L5, L6, A1, A2, copies, parts}
use Rattle.rinv_defs.specs.Certificate.{Certificate}
use Rattle.rinv_defs.specs.Conditions.{cofactors_of, law_fits, law_is_shown}
use Rattle.rinv_parts.specs.Parts.{part_at, part_fits}
use Rattle.rinv_parts.specs.Points.{Points, vanish, agree, give, give_both, law_points, law_polynomials}
use Rattle.rinv_parts.specs.Substitutions.{all_fit, taken_at}
use Rattle.rinv_parts.proofs.Names.{range-split}
use Rattle.rinv_parts.proofs.PartForms.{number_of, part-number}
use Rattle.rinv_identities.proofs.GraphValues.{multiplies_out-same}
use Rattle.rinv_check.specs.LawLists.{AreListsFor, parts_shown}

-- ---- tests by places

-- a test of all elements, by their places
pub by-places : {X : Type 0} (test : X → Bool) (at : ℕ → Bool) (d : X) (xs : List X) (start : ℕ) → ((j : ℕ) → j < length xs → test (get_or xs j d) ≡ at (start + j)) → list_all test xs ≡ list_all at (range_with_len start (length xs))
by-places test at d [] start same = refl
by-places test at d (x ∷ xs) start same =
    let here : start + 0 ≡ start = omega arith in
    let first : test x ≡ at start = same 0 (omega arith) ∙ ap at here in
    let rest : list_all test xs ≡ list_all at (range_with_len (start + 1) (length xs)) =
    by-places test at d xs (start + 1) (λ j h. let e : start + suc j ≡ start + 1 + j = omega arith in same (suc j) (omega (arith, h)) ∙ ap at e) in
    rw (first, rest) refl

-- tests that agree at each place
places-agree : (f g : ℕ → Bool) (start n : ℕ) → ((j : ℕ) → j < n → f (start + j) ≡ g (start + j)) → list_all f (range_with_len start n) ≡ list_all g (range_with_len start n)
places-agree f g start zero same = refl
places-agree f g start (suc n) same =
    let here : start + 0 ≡ start = omega arith in
    let first : f start ≡ g start = rw here at (same 0 (omega arith)) in
    let rest : list_all f (range_with_len (start + 1) n) ≡ list_all g (range_with_len (start + 1) n) =
    places-agree f g (start + 1) n (λ j h. let e : start + suc j ≡ start + 1 + j = omega arith in rw e at (same (suc j) (omega (arith, h)))) in
    rw (first, rest) refl

-- one place more passes
pub places-more : (test : ℕ → Bool) (k : ℕ) → list_all test (range_with_len 0 k) ≡ true → test k ≡ true → list_all test (range_with_len 0 (k + 1)) ≡ true
places-more test k so_far here =
    let e : 0 + k ≡ k = omega arith in
    ap (list_all test) (range-split 0 k 1) ∙ list_all-append test (range_with_len 0 k) (range_with_len (0 + k) 1) ∙ rw (so_far, e, here) refl

-- one place fails
pub places-stuck : (test : ℕ → Bool) (k n : ℕ) → k < n → test k ≡ false → list_all test (range_with_len 0 n) ≡ false
places-stuck test k n below fails =
    let e : 0 + k ≡ k = omega arith in
    let count : length (range_with_len 0 n) ≡ n = length-range_with_len 0 n in
    list_all_at test (range_with_len 0 n) k 0 (omega (arith, count, below)) (ap test (get_or-range_with_len 0 n k 0 below ∙ e) ∙ fails)

turned : (a b c d : Bool) → ((a && b) && (c && d)) ≡ ((a && c) && (b && d))
turned true true c d = refl
turned true false c d = sym (and_false c)
turned false b c d = refl

-- two tests of each
pub both-tests : {X : Type 0} (f g : X → Bool) (xs : List X) → list_all (λ x. f x && g x) xs ≡ (list_all f xs && list_all g xs)
both-tests f g [] = refl
both-tests f g (x ∷ xs) = ap (λ (b : Bool). (f x && g x) && b) (both-tests f g xs) ∙ turned (f x) (g x) (list_all f xs) (list_all g xs)

-- ---- the substitutions that are stated of polynomials

module _ (p : ℕ) (fs : List Poly) where
  -- all of them fit
  abbrev points_fit : Points → Bool
  points_fit (vanish x) = list_all (substitution_fits (residue_ops p) x) fs
  points_fit (agree x y) = list_all (substitution_fits (residue_ops p) x) fs && list_all (substitution_fits (residue_ops p) y) fs
  points_fit (give x z) = list_all (substitution_fits (residue_ops p) x) fs
  points_fit (give_both x y z) = list_all (substitution_fits (residue_ops p) x) fs && list_all (substitution_fits (residue_ops p) y) fs

  -- that at a place
  abbrev fits_at : List Poly → ℕ → Bool
  fits_at x k = substitution_fits (residue_ops p) x (get_or fs k [])

  at-places : (x : List Poly) (at : ℕ → Bool) (start : ℕ) → ((j : ℕ) → j < length fs → fits_at x j ≡ at (start + j)) → list_all (substitution_fits (residue_ops p) x) fs ≡ list_all at (range_with_len start (length fs))
  at-places x at start same = by-places (substitution_fits (residue_ops p) x) at [] fs start same

  one : (x : List Poly) → list_all (substitution_fits (residue_ops p) x) fs ≡ list_all (λ k. fits_at x k && true) (range_with_len 0 (length fs))
  one x = at-places x (λ k. fits_at x k && true) 0 (λ j h. let e : j ≡ 0 + j = omega arith in ap (fits_at x) e ∙ sym (and_true (fits_at x (0 + j))))
    where
      and_true : (b : Bool) → (b && true) ≡ b
      and_true true = refl
      and_true false = refl

  alone : (b : Bool) → b ≡ (b && true)
  alone true = refl
  alone false = refl

  points-by_places : (points : Points) → points_fit points ≡ list_all (λ k. all_fit p (taken_at fs points k)) (range_with_len 0 (number_of (length fs) points))
  points-by_places (vanish x) = one x
  points-by_places (agree x y) =
      ap (λ (b : Bool). list_all (substitution_fits (residue_ops p) x) fs && b) (one y) ∙ ap (λ (b : Bool). b && list_all (λ k. fits_at y k && true) (range_with_len 0 (length fs))) (at-places x (fits_at x) 0 (λ j h. let e : j ≡ 0 + j = omega arith in ap (fits_at x) e))
      ∙ sym (both-tests (fits_at x) (λ k. fits_at y k && true) (range_with_len 0 (length fs)))
  points-by_places (give x z) = one x
  points-by_places (give_both x y z) =
      let n = length fs in
      let test : ℕ → Bool = λ k. all_fit p (taken_at fs (give_both x y z) k) in
      let first : list_all (substitution_fits (residue_ops p) x) fs ≡ list_all test (range_with_len 0 n) = at-places x test 0 first-at in
      let second : list_all (substitution_fits (residue_ops p) y) fs ≡ list_all test (range_with_len (0 + n) n) = at-places y test (0 + n) second-at in
      rw (first, second) (sym (ap (list_all test) (range-split 0 n n) ∙ list_all-append test (range_with_len 0 n) (range_with_len (0 + n) n)))
    where
      first-at : (j : ℕ) → j < length fs → fits_at x j ≡ all_fit p (taken_at fs (give_both x y z) (0 + j))
      first-at j h =
          let e : 0 + j ≡ j = omega arith in
          let low : nat_lt j (length fs) ≡ true = grind (arith, nat_tests, h) in
          rw (e, low) (alone (fits_at x j))

      second-at : (j : ℕ) → j < length fs → fits_at y j ≡ all_fit p (taken_at fs (give_both x y z) (0 + length fs + j))
      second-at j h =
          let high : nat_lt (0 + length fs + j) (length fs) ≡ false = grind (arith, nat_tests) in
          let e : 0 + length fs + j - length fs ≡ j = omega arith in
          rw (high, e) (alone (fits_at y j))

-- the substitutions that a law states
law-points : (s : System) (law : Law) → law_fits s law ≡ points_fit s.p (law_polynomials s law) (law_points s law)
law-points s L1 = refl
law-points s L2 = refl
law-points s L3 = refl
law-points s L4 = refl
law-points s L5 = refl
law-points s L6 = refl
law-points s A1 = refl
law-points s A2 = refl

-- they fit where those of each part do
pub law-fits : (s : System) (law : Law) (n : ℕ) → n ≡ number_of (length (law_polynomials s law)) (law_points s law) → law_fits s law ≡ list_all (part_fits s law) (range_with_len 0 n)
law-fits s law n many = law-points s law ∙ points-by_places s.p (law_polynomials s law) (law_points s law) ∙ ap (λ (m : ℕ). list_all (part_fits s law) (range_with_len 0 m)) (sym many)

-- ---- the law

module _ (c : Certificate) (system : IsSystem c.system) (law : Law) where
  -- parts and cofactors beside one another, by their places
  beside : (test : Poly × List Poly → Bool) (uss : List (List Poly)) → length (parts c.system law) ≤ length uss
      → list_all test (zip (parts c.system law) uss) ≡ list_all (λ k. test (get_or (parts c.system law) k [], get_or uss k [])) (range_with_len 0 (length (parts c.system law)))
  beside test uss many =
      let ps = parts c.system law in
      let at : ℕ → Bool = λ k. test (get_or ps k [], get_or uss k []) in
      let count : length (zip ps uss) ≡ length ps = omega (arith, length-zip ps uss, many) in
      by-places test at ([], []) (zip ps uss) 0 (λ j h. let e : j ≡ 0 + j = omega arith in ap test (get_or-zip ps uss j ([], []) (omega (arith, h, count)) (omega (arith, h, count, many))) ∙ ap at e)
      ∙ ap (λ (n : ℕ). list_all at (range_with_len 0 n)) count

  pub law-shown : (lists : List (List Poly)) (generators : List Poly) → AreListsFor c law lists → length (parts c.system law) ≤ length (cofactors_of c law)
      → AllZip (IsSame (poly_ops (residue_ops c.system.p))) generators (ideal_copies c.system (copies law)) → parts_shown c.system law lists generators ≡ law_is_shown c law
  unfolding law_is_shown
  law-shown lists generators for_law many same =
      let s = c.system in
      let o = residue_ops s.p in
      let n = length (parts s law) in
      let uss = cofactors_of c law in
      let given : ℕ → Bool = λ k. multiplies_out o (part_at s law k) (get_or lists k []) generators in
      let wanted : ℕ → Bool = λ k. multiplies_out o (part_at s law k) (get_or uss k []) (ideal_copies s (copies law)) in
      let one : (j : ℕ) → j < n → given (0 + j) ≡ wanted (0 + j) = λ j h.
      let e : 0 + j ≡ j = omega arith in
      rw e (ap (λ (us : List Poly). multiplies_out o (part_at s law j) us generators) (for_law j h)
      ∙ multiplies_out-same s.p (part_at s law j) (part_at s law j) (get_or uss j []) generators (ideal_copies s (copies law)) ((poly_laws o (residue_laws s.p)).same_refl (part_at s law j)) same)
      in
      both-tests (part_fits s law) given (range_with_len 0 n)
      ∙ ap (λ (b : Bool). b && list_all given (range_with_len 0 n)) (sym (law-fits s law n (part-number s system law)))
      ∙ ap (λ (b : Bool). law_fits s law && b) (places-agree given wanted 0 n one ∙ sym (beside (λ x. multiplies_out o x.0 x.1 (ideal_copies s (copies law))) uss many))
