-- The products of the laws and of their proofs.
--   below-more           one place more
--   law-more             one law more, by their names
--   law-made             the parts of a law fit, so the law does
--   laws-fit             all of them
use Rattle.std.proofs.Common.{◌≡◌, ℕ, zero, suc, ◌+◌, ◌*◌, ◌<◌, ◌≤◌, Bool, true, List, [], ◌∷◌, length, get_or, map, take, refl, sym, ◌∙◌, ap, subst, arith, inl, inr}
use Rattle.std.specs.Prelude.{flat_map}
use Rattle.std.specs.List.{list_all, range_with_len}
use Rattle.std.proofs.lemmas.Bool.{cases_eq}
use Rattle.std.proofs.lemmas.List.{length-map, get_or-map, map_push}
use Rattle.std.proofs.lemmas.List.Folds.{list_all-append}
use Rattle.std.proofs.lemmas.Option.{unwrap_or-slice_get}
use Rattle.rinv_algebra.specs.Residue.{residue_ops}
use Rattle.rinv_algebra.specs.Fits.{combination_fits}
use Rattle.rinv_algebra.specs.Polynomial.{past}
use Rattle.rinv_sub.proofs.Sums.{take-at}
use Rattle.rinv_algebra.proofs.Same.{and_true}
use Rattle.rinv_defs.specs.System.{System, Poly, group_count, ideal_copies}
use Rattle.rinv_defs.specs.SystemForm.{IsSystem}
use Rattle.rinv_defs.specs.Laws.{Law, L1, L2, L3, L4, L5, L6, A1, A2, all_laws, copies, parts}
use Rattle.rinv_defs.specs.Certificate.{Certificate}
use Rattle.rinv_defs.specs.Conditions.{law_fits, nth_cofactors}
use Rattle.rinv_parts.specs.LawNames.{rank}
use Rattle.rinv_parts.specs.Parts.{part_fits}
use Rattle.rinv_parts.specs.Points.{AreStored}
use Rattle.rinv_parts.proofs.PartForms.{part-number}
use Rattle.rinv_laws.specs.Proofs.{proved_laws}
use Rattle.rinv_laws.proofs.LawsInTurn.{rank-low, same-rank}
use Rattle.rinv_acceptance.specs.Fits.{law_multiplies}
use Rattle.rinv_check.proofs.LawFits.{law-fits}
use Rattle.rinv_generators.specs.Generated.{Generated, IsGenerators}
use Rattle.rinv_certification.specs.Made.{HasCommonPart}
use Rattle.rinv_certify.specs.Parts.{LawsFit, ProofFits}

-- one place more
pub below-more : (P : ℕ → Type 0) (k : ℕ) → ((j : ℕ) → j < k → P j) → P k → (j : ℕ) → j < k + 1 → P j
below-more P k so_far here j h = elim (cases_eq k j) [
  | inl same ↦ subst P same here
  | inr other ↦ so_far j (omega (arith, h, other))
]

-- ---- the laws by their names

-- one law more
pub law-more : (P : Law → Type 0) (k : ℕ) (law : Law) → rank law ≡ k → ((other : Law) → rank other < k → P other) → P law → (other : Law) → rank other < k + 1 → P other
law-more P k law at so_far here other h = elim (cases_eq (rank other) k) [
  | inl same ↦ subst P (same-rank law other (at ∙ sym same)) here
  | inr apart ↦ so_far other (omega (arith, h, apart))
]

-- ---- the laws

range-all : (test : ℕ → Bool) (a n : ℕ) → ((j : ℕ) → j < n → test (a + j) ≡ true) → list_all test (range_with_len a n) ≡ true
range-all test a zero h = refl
range-all test a (suc n) h =
    let first : a + 0 ≡ a = omega arith in
    and_true (test a) _ (subst (λ (i : ℕ). test i ≡ true) first (h 0 (omega arith)))
    (range-all test (a + 1) n (λ j l. let e : a + suc j ≡ a + 1 + j = omega arith in subst (λ (i : ℕ). test i ≡ true) e (h (suc j) (omega (arith, l)))))

-- the parts of a law fit, so the law does
pub law-made : (s : System) (law : Law) (k : ℕ) → IsSystem s → length (parts s law) ≤ k → ((j : ℕ) → j < k → part_fits s law j ≡ true) → law_fits s law ≡ true
law-made s law k is past fits =
    law-fits s law (length (parts s law)) (part-number s is law) ∙ range-all (part_fits s law) 0 (length (parts s law)) (λ j h. let e : j ≡ 0 + j = omega arith in subst (λ (i : ℕ). part_fits s law i ≡ true) e (fits j (omega (arith, h, past))))

-- arrays of cofactors, one more
pub mapped-all : {U : Type 0} (view : U → List Poly) (test : List Poly → Bool) (xs : List U) (k : ℕ) (x : U) → k < length xs → x ≡ get_or xs k x → test (view x) ≡ true → list_all test (map view (take k xs)) ≡ true → list_all test (map view (take (k + 1) xs)) ≡ true
mapped-all view test xs k x h at here so_far =
    ap (λ ys. list_all test (map view ys)) (take-at xs k x h at) ∙ ap (list_all test) (map_push view (take k xs) x) ∙ list_all-append test (map view (take k xs)) (view x ∷ []) ∙ and_true _ _ so_far (and_true _ _ here refl)

-- the copies of the ideal as they are stored
pub copies-stored : (s : System) (p v w g n m : ℕ) (ideal items : List Poly) → p ≡ s.p → v ≡ w → g ≡ group_count s → n ≡ m → ideal ≡ s.ideal
    → AreStored p v (flat_map (λ j. map (past (j * g)) ideal) (range_with_len 0 n)) items → AreStored s.p w (ideal_copies s m) items
copies-stored s p v w g n m ideal items field vars group many is h = rw (field, vars, group, many, is) at h

module _ (g : Generated) (gens : IsGenerators g) where
  pub count-laws : length g.laws ≡ 6
  count-laws = sym (length-map g.laws (λ e. e.0)) ∙ ap length gens.laws.laws

  law-there : (i : ℕ) (law : Law) → get_or proved_laws i law ≡ law → i < 6 → ProofFits g i → list_all (λ us. combination_fits (residue_ops g.told.system.p) us (ideal_copies g.told.system (copies law))) (get_or (map (λ e. e.1) g.laws) i []) ≡ true
  law-there i law at low fits =
      let inside : i < length g.laws = omega (arith, count-laws, low) in
      let first : (get_or g.laws i (L1, [])).0 ≡ law = sym (get_or-map (λ e. e.0) g.laws i (L1, []) law inside) ∙ ap (λ ls. get_or ls i law) gens.laws.laws ∙ at in
      ap (list_all (λ us. combination_fits (residue_ops g.told.system.p) us (ideal_copies g.told.system (copies law)))) (get_or-map (λ e. e.1) g.laws i (L1, []) [] inside)
      ∙ subst (λ (l : Law). list_all (λ us. combination_fits (residue_ops g.told.system.p) us (ideal_copies g.told.system (copies l))) (get_or g.laws i (L1, [])).1 ≡ true) first fits

  module _ (fits : (law : Law) → law_fits g.told.system law ≡ true) (each : (k : ℕ) → k < length g.laws → ProofFits g k) (c : Certificate) (common : HasCommonPart g c) where
    fits-there : (law : Law) → law_fits c.system law ≡ true
    fits-there law = subst (λ (t : System). law_fits t law ≡ true) (sym common.system) (same law)
      where
        same : (law : Law) → law_fits (record g.told.system { section = [] }) law ≡ true
        same L1 = fits L1
        same L2 = fits L2
        same L3 = fits L3
        same L4 = fits L4
        same L5 = fits L5
        same L6 = fits L6
        same A1 = fits A1
        same A2 = fits A2

    nothing-fits : (gs fs : List Poly) → list_all (λ us. combination_fits (residue_ops c.system.p) us gs) (map (λ (f : Poly). []) fs) ≡ true
    unfolding combination_fits
    nothing-fits gs [] = refl
    nothing-fits gs (f ∷ fs) = nothing-fits gs fs

    nth-fits : (law : Law) (i : ℕ) → get_or proved_laws i law ≡ law → i < 6 → list_all (λ us. combination_fits (residue_ops c.system.p) us (ideal_copies c.system (copies law))) (nth_cofactors c i) ≡ true
    nth-fits law i at low =
        subst (λ (t : System). list_all (λ us. combination_fits (residue_ops t.p) us (ideal_copies t (copies law))) (nth_cofactors c i) ≡ true) (sym common.system)
        (subst (λ (xs : List (List Poly)). list_all (λ us. combination_fits (residue_ops g.told.system.p) us (ideal_copies g.told.system (copies law))) xs ≡ true) (sym (unwrap_or-slice_get c.laws i [] ∙ ap (λ ls. get_or ls i []) common.laws))
        (law-there i law at low (each i (omega (arith, count-laws, low)))))

    pub laws-fit-of : list_all (law_multiplies c) all_laws ≡ true
    laws-fit-of =
        and_true _ _ (and_true _ _ (fits-there L1) (nothing-fits _ (parts c.system L1)))
        (and_true _ _ (and_true _ _ (fits-there L2) (nth-fits L2 0 refl (omega arith)))
        (and_true _ _ (and_true _ _ (fits-there L3) (nth-fits L3 1 refl (omega arith)))
        (and_true _ _ (and_true _ _ (fits-there L4) (nth-fits L4 2 refl (omega arith)))
        (and_true _ _ (and_true _ _ (fits-there L5) (nth-fits L5 3 refl (omega arith)))
        (and_true _ _ (and_true _ _ (fits-there L6) (nth-fits L6 4 refl (omega arith)))
        (and_true _ _ (and_true _ _ (fits-there A1) (nothing-fits _ (parts c.system A1)))
        (and_true _ _ (and_true _ _ (fits-there A2) (nth-fits A2 5 refl (omega arith))) refl)))))))

  -- all of them
  pub laws-fit : (n : ℕ) → 8 ≤ n → ((law : Law) → rank law < n → law_fits g.told.system law ≡ true) → (m : ℕ) → length g.laws ≤ m → ((k : ℕ) → k < m → ProofFits g k) → LawsFit g
  laws-fit n past fits m end each c common = laws-fit-of (λ law. fits law (let low = rank-low law in omega (arith, low, past))) (λ k h. each k (omega (arith, h, end))) c common
