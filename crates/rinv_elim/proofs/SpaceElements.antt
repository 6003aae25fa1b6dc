-- Elements of the cut in the space's variables alone, and coefficients that are not zero.
--   in-space, without-z  an element leads in the space's variables where its leading monomial has no Z
--   hits, misses         whether the section misses the orbits
--   missed-element       the first such element
--   coefficient-nonzero  the coefficient of a monomial in Z that a term has
use Rattle.std.proofs.Common.{◌≡◌, ℕ, zero, suc, ◌+◌, ◌<◌, Bool, true, false, not, cond, List, [], ◌∷◌, ◌++◌, length, length-take, length-drop, map, filter, take, drop, take-append-drop, get_or, replicate, sum, nat_lt, refl, sym, ◌∙◌, ap, ap₂, subst, inl, inr, arith, All, IsTrue, true≢false}
use Rattle.std.specs.Prelude.{IsFalse, ◌==◌}
use Rattle.std.proofs.lemmas.Bool.{eqb-true, cases_Bool}
use Rattle.std.proofs.lemmas.Bool.Decides.{nat_tests}
use Rattle.std.proofs.lemmas.List.{length-map, get_or-map, get_or-take}
use Rattle.std.proofs.lemmas.List.Elements.{All-head, All-tail}
use Rattle.std.proofs.lemmas.List.Folds.{list_any_at}
use Rattle.std.proofs.lemmas.List.Sums.{sum_by-cons}
use Rattle.rinv_algebra.specs.Residue.{residue_ops}
use Rattle.rinv_algebra.specs.Monomial.{same_monomial, total_degree}
use Rattle.rinv_algebra.specs.Ideal.{IsMember}
use Rattle.rinv_algebra.specs.Normal.{IsNormal}
use Rattle.rinv_algebra.specs.Polynomial.{Term, is_zero, past}
use Rattle.rinv_algebra.proofs.MonomialLaws.{same_monomial_refl}
use Rattle.rinv_algebra.proofs.ResidueLaws.{residue_laws}
use Rattle.rinv_algebra.proofs.Same.{both, and_true}
use Rattle.rinv_groebner.specs.Elimination.{is_free}
use Rattle.rinv_groebner.proofs.Reducible.{first_passing}
use Rattle.rinv_invariance.specs.InSpace.{leads_in_space}
use Rattle.rinv_defs.specs.System.{System, Poly, group_count, space_count}
use Rattle.rinv_defs.specs.PairConditions.{leading}
use Rattle.rinv_defs.specs.RelationConditions.{z_part}
use Rattle.rinv_defs.specs.Extended.{Misses, action_ideal}
use Rattle.rinv_parts.specs.Points.{ArePolynomials}
use Rattle.rinv_poly.proofs.Forms.{ordered-from_normal}
use Rattle.rinv_poly.proofs.NormalFacts.{zero-normal, zero-nil}
use Rattle.rinv_reduction.specs.Localised.{all_count, IsCut, lead_in_z, z_coefficient}
use Rattle.rinv_reduction.proofs.MissedCuts.{missed_cut}
use Rattle.rinv_elim.specs.Localising.{IsMissed}
use Rattle.rinv_elim.proofs.CutElements.{element-at, both_eliminated, group_eliminated, terms-free, lead-length}
use Rattle.rinv_elim.proofs.ZCoefficients.{zeros, free-zeros, coefficient-normal}

-- the degree in the first variables is that in the one part and in the other
part-sums : (k n : ℕ) (m : List ℕ) → sum (take (k + n) m) ≡ sum (take k m) + sum (take n (drop k m))
part-sums zero n m = let e : 0 + n ≡ n = omega arith in rw e (omega arith)
part-sums (suc k) n [] = let a : sum (take (suc k + n) []) ≡ 0 = nothing (suc k + n) in let b : sum (take n []) ≡ 0 = nothing n in omega (arith, a, b)
  where
    nothing : (j : ℕ) → sum (take j []) ≡ 0
    nothing zero = refl
    nothing (suc j) = refl
part-sums (suc k) n (x ∷ m) =
    let e : suc k + n ≡ suc (k + n) = omega arith in
    let rest = part-sums k n m in
    rw e (let a = sum_by-cons (λ (i : ℕ). i) x (take (k + n) m) in let b = sum_by-cons (λ (i : ℕ). i) x (take k m) in omega (arith, rest, a, b))

module _ (s : System) where
  abbrev l : ℕ
  l = group_count s

  abbrev n : ℕ
  n = space_count s

  is-zero : (k : ℕ) → k ≡ 0 → (k == 0) ≡ true
  is-zero k z = grind (arith, nat_tests, z)

  -- an element whose leading monomial has no Z leads in the space
  pub in-space : (h : Poly) → IsFalse (is_zero (residue_ops s.p) h) → IsTrue (is_free (group_count s) (leading s h)) → total_degree (lead_in_z s h) ≡ 0 → leads_in_space s h ≡ true
  in-space h nonzero free z =
      let e = part-sums l n (leading s h) in
      let f : sum (take l (leading s h)) ≡ 0 = eqb-true _ _ free in
      and_true (not (is_zero (residue_ops s.p) h)) _ (ap not nonzero) (is-zero (sum (take (l + n) (leading s h))) (omega (arith, e, f, z)))

  -- and the other way round
  pub without-z : (h : Poly) → leads_in_space s h ≡ true → total_degree (lead_in_z s h) ≡ 0
  without-z h t =
      let parts = both (not (is_zero (residue_ops s.p) h)) _ t in
      let f : sum (take (l + n) (leading s h)) ≡ 0 = eqb-true _ _ parts.1 in
      let e = part-sums l n (leading s h) in
      omega (arith, e, f)

  -- ---- the cut

  module _ (cut : List Poly) (is_cut : IsCut s cut) (leads : List (List ℕ)) (are : leads ≡ map (lead_in_z s) cut) where
    pub lead-at : (k : ℕ) → k < length cut → get_or leads k [] ≡ lead_in_z s (get_or cut k [])
    lead-at k low = ap (λ (ms : List (List ℕ)). get_or ms k []) are ∙ get_or-map (lead_in_z s) cut k [] [] low

    count : length leads ≡ length cut
    count = ap (λ (ms : List (List ℕ)). length ms) are ∙ length-map cut (lead_in_z s)

    -- a positive degree in Z
    not-in-space : (k : ℕ) → k < length cut → 0 < total_degree (get_or leads k []) → leads_in_space s (get_or cut k []) ≡ false
    not-in-space k low positive = elim (cases_Bool (leads_in_space s (get_or cut k []))) [
      | inl t ↦ absurd (let z = without-z (get_or cut k []) t in let e : total_degree (get_or leads k []) ≡ total_degree (lead_in_z s (get_or cut k [])) = ap (λ (m : List ℕ). total_degree m) (lead-at k low) in omega (arith, positive, z, e))
      | inr f ↦ f
    ]

    pub hits : All (λ m. 0 < total_degree m) leads → ¬ (Misses s)
    hits all m =
        let (k, low, t, before) = first_passing (leads_in_space s) [] cut ((missed_cut s cut is_cut).0 m) in
        true≢false (sym t ∙ not-in-space k low (all k [] (subst (λ (j : ℕ). k < j) (sym count) low)))

    module _ (k : ℕ) (low : k < length leads) (none : total_degree (get_or leads k []) ≡ 0) where
      inside : k < length cut
      inside = subst (λ (j : ℕ). k < j) count low

      abbrev h : Poly
      h = get_or cut k []

      z-none : total_degree (lead_in_z s h) ≡ 0
      z-none = let e = ap (λ (m : List ℕ). total_degree m) (lead-at k inside) in sym e ∙ none

      there : leads_in_space s (get_or cut k []) ≡ true
      there = let e = element-at s cut is_cut k inside in in-space (get_or cut k []) e.nonzero e.free z-none

      pub misses : Misses s
      misses = (missed_cut s cut is_cut).1 (list_any_at (leads_in_space s) cut k [] inside there)

  -- ---- coefficients

  -- the coefficient of Z^0 is the whole, where no term has Z
  pub coefficient-whole : (h : Poly) (z : List ℕ) → All (λ t. length t.0 ≡ all_count s) h → All (λ t. IsTrue (is_free (group_count s + space_count s) t.0)) h → length z ≡ space_count s → total_degree z ≡ 0 → past (group_count s + space_count s) (z_coefficient s h z) ≡ h
  coefficient-whole [] z long free few none = refl
  coefficient-whole (t ∷ h) z long free few none = go (same_monomial (z_part s t.0) z) same (coefficient-whole h z (All-tail (λ (t : Term ℕ). length t.0 ≡ all_count s) t h long) (All-tail (λ (t : Term ℕ). IsTrue (is_free (l + n) t.0)) t h free) few none)
    where
      many : length t.0 ≡ all_count s
      many = All-head (λ (t : Term ℕ). length t.0 ≡ all_count s) t h long

      front : take (l + n) t.0 ≡ replicate (l + n) 0
      front = free-zeros (l + n) t.0 (omega (arith, many)) (All-head (λ (t : Term ℕ). IsTrue (is_free (l + n) t.0)) t h free)

      part-zero : sum (z_part s t.0) ≡ 0
      part-zero =
          let e = part-sums l n t.0 in
          let f : sum (take (l + n) t.0) ≡ 0 = eqb-true _ _ (All-head (λ (t : Term ℕ). IsTrue (is_free (l + n) t.0)) t h free) in
          omega (arith, e, f)

      part-many : length (z_part s t.0) ≡ n
      part-many = let a = length-take n (drop l t.0) in let b = length-drop l t.0 in omega (arith, a, b, many)

      same : same_monomial (z_part s t.0) z ≡ true
      same = subst (λ (m : List ℕ). same_monomial m z ≡ true) (sym (zeros (z_part s t.0) part-zero ∙ ap (λ (j : ℕ). replicate j 0) (part-many ∙ sym few) ∙ sym (zeros z none))) (same_monomial_refl z)

      go : (b : Bool) → b ≡ true → past (l + n) (z_coefficient s h z) ≡ h → past (l + n) (map {B = Term ℕ} (λ (u : Term ℕ). (drop (l + n) u.0, u.1)) (cond b (t ∷ filter (λ (u : Term ℕ). same_monomial (z_part s u.0) z) h) (filter (λ (u : Term ℕ). same_monomial (z_part s u.0) z) h))) ≡ t ∷ h
      go false e rest = absurd (true≢false (sym e))
      go true e rest = ap₂ (λ (m : List ℕ) (r : Poly). (m, t.1) ∷ r) (ap (λ (f : List ℕ). f ++ drop (l + n) t.0) (sym front) ∙ take-append-drop (l + n) t.0) rest

  -- where a term has the monomial, there is a coefficient
  some-coefficient : (h : Poly) (z : List ℕ) (k : ℕ) (d : Term ℕ) → k < length h → IsTrue (same_monomial (z_part s (get_or h k d).0) z) → z_coefficient s h z ≡ [] → ⊥
  some-coefficient [] z k d low e none = absurd (omega (arith, low))
  some-coefficient (t ∷ h) z k d low e none = go (same_monomial (z_part s t.0) z) refl none (λ j inside same nothing. some-coefficient h z j d inside same nothing)
    where
      later : (k : ℕ) → k < suc (length h) → IsTrue (same_monomial (z_part s (get_or (t ∷ h) k d).0) z) → same_monomial (z_part s t.0) z ≡ false → z_coefficient s h z ≡ [] → ((j : ℕ) → j < length h → IsTrue (same_monomial (z_part s (get_or h j d).0) z) → z_coefficient s h z ≡ [] → ⊥) → ⊥
      later zero low e off none again = true≢false (sym e ∙ off)
      later (suc k) low e off none again = again k (omega (arith, low)) e none

      go : (b : Bool) → same_monomial (z_part s t.0) z ≡ b → map {B = Term ℕ} (λ (u : Term ℕ). (drop (l + n) u.0, u.1)) (cond b (t ∷ filter (λ (u : Term ℕ). same_monomial (z_part s u.0) z) h) (filter (λ (u : Term ℕ). same_monomial (z_part s u.0) z) h)) ≡ []
          → ((j : ℕ) → j < length h → IsTrue (same_monomial (z_part s (get_or h j d).0) z) → z_coefficient s h z ≡ [] → ⊥) → ⊥
      go true on none again = cc
      go false off none again = later k low e off none again

  pub coefficient-nonzero : (h : Poly) (z : List ℕ) (k : ℕ) (d : Term ℕ) → IsNormal (residue_ops s.p) (λ c. nat_lt c s.p) (all_count s) h → All (λ t. IsTrue (is_free (group_count s) t.0)) h → length z ≡ space_count s → k < length h
      → IsTrue (same_monomial (z_part s (get_or h k d).0) z) → is_zero (residue_ops s.p) (z_coefficient s h z) ≡ false
  coefficient-nonzero h z k d normal free few low e = elim (cases_Bool (is_zero (residue_ops s.p) (z_coefficient s h z))) [
    | inl none ↦ absurd (some-coefficient h z k d low e (zero-normal (residue_ops s.p) (residue_laws s.p) (λ c. nat_lt c s.p) (space_count s) (z_coefficient s h z) (coefficient-normal s z few h normal free) none))
    | inr f ↦ f
  ]

  -- ---- the first element in the space

  module _ (cut : List Poly) (is_cut : IsCut s cut) (polys : ArePolynomials s.p (all_count s) cut) (leads : List (List ℕ)) (are : leads ≡ map (lead_in_z s) cut) (k : ℕ) (low : k < length leads) (none : total_degree (get_or leads k []) ≡ 0) (before : All (λ m. 0 < total_degree m) (take k leads)) where
    abbrev g : Poly
    g = get_or cut k []

    within : k < length cut
    within = inside cut is_cut leads are k low none

    z-is : get_or leads k [] ≡ lead_in_z s g
    z-is = lead-at cut is_cut leads are k within

    normal : IsNormal (residue_ops s.p) (λ c. nat_lt c s.p) (all_count s) g
    normal = polys k [] within

    space : leads_in_space s g ≡ true
    space = there cut is_cut leads are k low none

    both_free : IsTrue (is_free (l + n) (leading s g))
    both_free = (both (not (is_zero (residue_ops s.p) g)) _ space).1

    nonzero : IsFalse (is_zero (residue_ops s.p) g)
    nonzero = (element-at s cut is_cut k within).nonzero

    z-few : length (lead_in_z s g) ≡ n
    z-few = let e = lead-length s g normal nonzero in let a = length-take n (drop l (leading s g)) in let b = length-drop l (leading s g) in omega (arith, a, b, e)

    whole : g ≡ past (l + n) (z_coefficient s g (get_or leads k []))
    whole = sym (ap (λ (z : List ℕ). past (l + n) (z_coefficient s g z)) z-is ∙ coefficient-whole g (lead_in_z s g) lengths (terms-free s g normal nonzero (l + n) (both_eliminated s) both_free) z-few (z-none cut is_cut leads are k low none))
      where
        lengths : All (λ t. length t.0 ≡ all_count s) g
        lengths j d inside = ((ordered-from_normal (residue_ops s.p) (λ c. nat_lt c s.p) (all_count s) g normal).terms j d inside).vars

    d-normal : (d : Poly) → d ≡ z_coefficient s g (get_or leads k []) → IsNormal (residue_ops s.p) (λ c. nat_lt c s.p) n d
    d-normal d e = subst (IsNormal (residue_ops s.p) (λ c. nat_lt c s.p) n) (sym e) (coefficient-normal s (get_or leads k []) (ap (λ (z : List ℕ). length z) z-is ∙ z-few) g normal (terms-free s g normal nonzero l (group_eliminated s) (element-at s cut is_cut k within).free))

    pub missed-element : (d : Poly) → d ≡ z_coefficient s (get_or cut k []) (get_or leads k []) → IsMissed s cut d
    missed-element d e = record {
      place = k;
      inside = within;
      in_space = space;
      first = λ j below. not-in-space cut is_cut leads are j (omega (arith, below, within)) (earlier j below);
      element = whole ∙ ap (past (l + n)) (sym e);
      normal = d-normal d e;
      nonzero = is-not (is_zero (residue_ops s.p) d) refl;
      member = subst (IsMember (residue_ops s.p) (action_ideal s)) (whole ∙ ap (past (l + n)) (sym e)) (element-at s cut is_cut k within).member;
    }
      where
        earlier : (j : ℕ) → j < k → 0 < total_degree (get_or leads j [])
        earlier j below =
            let t = length-take k leads in
            subst (λ (m : List ℕ). 0 < total_degree m) (get_or-take k leads j [] below) (before j [] (omega (arith, below, t, low)))

        is-not : (b : Bool) → is_zero (residue_ops s.p) d ≡ b → b ≡ false
        is-not false f = refl
        is-not true f =
            let d_none : d ≡ [] = zero-normal (residue_ops s.p) (residue_laws s.p) (λ c. nat_lt c s.p) n d (d-normal d e) f in
            let g_none : g ≡ [] = whole ∙ ap (past (l + n)) (sym e ∙ d_none) in
            absurd (true≢false (sym (ap (is_zero (residue_ops s.p)) g_none ∙ zero-nil (residue_ops s.p) (residue_laws s.p) (λ c. nat_lt c s.p) n) ∙ nonzero))
