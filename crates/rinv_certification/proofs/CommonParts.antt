-- What every certificate of generators has: the system, the fractions with their proofs, and the proofs of the laws.
--   common_form, law_form    these parts have their form
--   laws_shown, changes_shown    the conditions on the laws and on the fractions hold
use Rattle.std.proofs.Common.{◌≡◌, ℕ, zero, suc, ◌+◌, ◌*◌, ◌<◌, Bool, true, List, [], ◌∷◌, length, map, get_or, zip, None, refl, sym, ◌∙◌, ap, subst, arith}
use Rattle.std.specs.Prelude.{All, ◌==◌, ◌&&◌, not}
use Rattle.std.specs.List.{AllZip, list_all}
use Rattle.std.proofs.lemmas.Bool.Decides.{nat_tests}
use Rattle.std.proofs.lemmas.List.{length-map, get_or-map}
use Rattle.std.proofs.lemmas.List.Folds.{list_all-append}
use Rattle.std.proofs.lemmas.List.Elements.{All-head, All-tail}
use Rattle.std.proofs.lemmas.Option.{unwrap_or-slice_get}
use Rattle.rinv_algebra.specs.Ring.{IsSame}
use Rattle.rinv_algebra.specs.Residue.{residue_ops}
use Rattle.rinv_algebra.specs.Polynomial.{poly_ops, same, is_zero}
use Rattle.rinv_algebra.specs.Ideal.{combination, IsMember}
use Rattle.rinv_algebra.proofs.Same.{both, and_true}
use Rattle.rinv_defs.specs.System.{System, Poly, group_count, space_count, ideal_copies}
use Rattle.rinv_defs.specs.SystemForm.{is_good, are_good, is_nonzero, system_parts}
use Rattle.rinv_defs.specs.Laws.{Law, L1, L2, L3, L4, L5, L6, A1, A2, all_laws, copies, parts, LawHolds}
use Rattle.rinv_defs.specs.Invariant.{Fraction, change}
use Rattle.rinv_defs.specs.Certificate.{Certificate, Kind, BasisItem, PairItem, RelationItem}
use Rattle.rinv_defs.specs.Format.{law_variables, laws_with_cofactors, are_law_cofactors, fraction_parts, common_parts, law_parts}
use Rattle.rinv_defs.specs.Conditions.{nth_cofactors, law_failure, invariance_failure}
use Rattle.rinv_frac.specs.Fractions.{IsStored}
use Rattle.rinv_parts.specs.LawNames.{variables_of}
use Rattle.rinv_parts.specs.Points.{ArePolynomials}
use Rattle.rinv_laws.specs.Proofs.{proved_laws, ProvesLaw}
use Rattle.rinv_change.specs.Changes.{change_count}
use Rattle.rinv_change.specs.Cofactors.{ProvesInvariance}
use Rattle.rinv_generators.specs.Generated.{Generated, IsGenerators}
use Rattle.rinv_soundness.proofs.GeneratorLists.{all_at}
use Rattle.rinv_soundness.proofs.SystemForms.{system_form}
use Rattle.rinv_acceptance.specs.Fits.{law_multiplies, change_multiplies}
use Rattle.rinv_acceptance.proofs.HeldConditions.{SumsOfLaw, laws_hold, invariance_holds}
use Rattle.rinv_acceptance.proofs.LawForms.{parts_exact, copies_exact}

pub equal : (a b : ℕ) → a ≡ b → (a == b) ≡ true
equal a b e = grind (arith, nat_tests)

-- a test that all elements of a list pass
pub list_passes : {X : Type 0} (test : X → Bool) (xs : List X) → All (λ x. test x ≡ true) xs → list_all test xs ≡ true
list_passes test [] a = refl
list_passes test (x ∷ xs) a = and_true (test x) _ (All-head (λ x. test x ≡ true) x xs a) (list_passes test xs (All-tail (λ x. test x ≡ true) x xs a))

-- cofactors over the group's ideal, in v variables, have their form
pub cofactors_form : (s : System) (v : ℕ) (us : List Poly) → length us ≡ length s.ideal → ArePolynomials s.p v us → are_good s (length s.ideal) v us ≡ true
cofactors_form s v us number normal = and_true _ _ (equal _ _ number) (list_passes (is_good s v) us normal)

module _ (g : Generated) (gens : IsGenerators g) where
  abbrev s : System
  s = g.told.system

  -- ---- forms

  pub system_form0 : list_all (λ p. p.1) (system_parts g.told.system) ≡ true
  system_form0 = (both _ _ (both _ _ gens.form).0).0

  fractions_good : (fs : List Fraction) → All (IsStored g.told.system.p (space_count g.told.system)) fs → list_all (λ f. is_good g.told.system (space_count g.told.system) f.0 && is_nonzero g.told.system (space_count g.told.system) f.1) fs ≡ true
  fractions_good [] a = refl
  fractions_good (f ∷ fs) a =
      let s = g.told.system in
      let n = space_count g.told.system in
      let h = both (is_good s n f.0 && is_good s n f.1) (not (is_zero (residue_ops s.p) f.1)) (All-head (IsStored s.p n) f fs a) in
      let k = both (is_good s n f.0) (is_good s n f.1) h.0 in
      and_true _ _ (and_true _ _ k.0 (and_true _ _ k.1 h.1)) (fractions_good fs (All-tail (IsStored s.p n) f fs a))

  invariance_good : (fs : List Fraction) (uss : List (List Poly)) → AllZip (ProvesInvariance g.told.system g.group) fs uss → (length uss ≡ length fs) × (list_all (are_good g.told.system (length g.told.system.ideal) (group_count g.told.system + space_count g.told.system)) uss ≡ true)
  invariance_good [] [] z = (refl, refl)
  invariance_good [] (us ∷ uss) z = absurd z
  invariance_good (f ∷ fs) [] z = absurd z
  invariance_good (f ∷ fs) (us ∷ uss) z = let r = invariance_good fs uss z.1 in (ap suc r.0, and_true _ _ (cofactors_form g.told.system (change_count g.told.system) us z.0.number z.0.normal) r.1)

  -- the laws that need cofactors are those that are proved, in their order
  law_at : (i : ℕ) (law : Law) → get_or proved_laws i law ≡ law → i < 6 → ProvesLaw g.told.system g.group law (get_or (map (λ e. e.1) g.laws) i [])
  law_at i law at low =
      let count : length g.laws ≡ 6 = sym (length-map g.laws (λ e. e.0)) ∙ ap length gens.laws.laws in
      let inside : i < length g.laws = omega (arith, count, low) in
      let e = all_at (λ e. ProvesLaw g.told.system g.group e.0 e.1) g.laws i (law, []) inside gens.laws.each in
      let first : (get_or g.laws i (law, [])).0 ≡ law = sym (get_or-map (λ e. e.0) g.laws i (law, []) law inside) ∙ ap (λ ls. get_or ls i law) gens.laws.laws ∙ at in
      subst (ProvesLaw g.told.system g.group law) (sym (get_or-map (λ e. e.1) g.laws i (law, []) [] inside)) (subst (λ law'. ProvesLaw g.told.system g.group law' (get_or g.laws i (law, [])).1) first e)

  -- the lists of a law's cofactors have their form
  arrays_good : (law : Law) (arrays : List (List Poly)) → variables_of g.told.system law ≡ law_variables g.told.system law → ProvesLaw g.told.system g.group law arrays → are_law_cofactors g.told.system (law, arrays) ≡ true
  arrays_good law arrays same p = and_true _ _ (equal _ _ (p.number ∙ parts_exact g.told.system (system_form g.told.system gens.form) law)) (list_passes (are_good g.told.system (copies law * length g.told.system.ideal) (law_variables g.told.system law)) arrays (λ k d low.
      let q = p.each k low in
      subst (λ us. are_good g.told.system (copies law * length g.told.system.ideal) (law_variables g.told.system law) us ≡ true) (default arrays k [] d low)
      (and_true _ _ (equal _ _ (q.number ∙ copies_exact g.told.system law)) (list_passes (is_good g.told.system (law_variables g.told.system law)) (get_or arrays k []) (subst (λ (v : ℕ). ArePolynomials g.told.system.p v (get_or arrays k [])) same q.normal)))))
    where
      default : (xs : List (List Poly)) (k : ℕ) (d e : List Poly) → k < length xs → get_or xs k d ≡ get_or xs k e
      default [] k d e h = absurd (omega (arith, h))
      default (x ∷ xs) zero d e h = refl
      default (x ∷ xs) (suc k) d e h = default xs k d e (omega (arith, h))

  six : (xs : List (List (List Poly))) → length xs ≡ 6 → (test : Law × List (List Poly) → Bool) → test (L2, get_or xs 0 []) ≡ true → test (L3, get_or xs 1 []) ≡ true → test (L4, get_or xs 2 []) ≡ true → test (L5, get_or xs 3 []) ≡ true → test (L6, get_or xs 4 []) ≡ true → test (A2, get_or xs 5 []) ≡ true → list_all test (zip laws_with_cofactors xs) ≡ true
  six [] e test a b c d f h = absurd (omega (arith, e))
  six (x ∷ []) e test a b c d f h = absurd (omega (arith, e))
  six (x ∷ y ∷ []) e test a b c d f h = absurd (omega (arith, e))
  six (x ∷ y ∷ z ∷ []) e test a b c d f h = absurd (omega (arith, e))
  six (x ∷ y ∷ z ∷ u ∷ []) e test a b c d f h = absurd (omega (arith, e))
  six (x ∷ y ∷ z ∷ u ∷ v ∷ []) e test a b c d f h = absurd (omega (arith, e))
  six (x ∷ y ∷ z ∷ u ∷ v ∷ w ∷ xs) e test a b c d f h = and_true _ _ a (and_true _ _ b (and_true _ _ c (and_true _ _ d (and_true _ _ f (and_true _ _ h refl)))))

  count_laws : length (map (λ e. e.1) g.laws) ≡ 6
  count_laws = length-map g.laws (λ e. e.1) ∙ sym (length-map g.laws (λ e. e.0)) ∙ ap length gens.laws.laws

  no_space : (n : ℕ) → n + 0 ≡ n
  no_space n = omega arith

  pub laws_good : (length (map (λ e. e.1) g.laws) == length laws_with_cofactors && list_all (are_law_cofactors g.told.system) (zip laws_with_cofactors (map (λ e. e.1) g.laws))) ≡ true
  laws_good = and_true _ _ (equal _ _ count_laws) (six (map (λ e. e.1) g.laws) count_laws (are_law_cofactors g.told.system)
      (arrays_good L2 _ (no_space _) (law_at 0 L2 refl (omega arith)))
      (arrays_good L3 _ (no_space _) (law_at 1 L3 refl (omega arith)))
      (arrays_good L4 _ (no_space _) (law_at 2 L4 refl (omega arith)))
      (arrays_good L5 _ (no_space _) (law_at 3 L5 refl (omega arith)))
      (arrays_good L6 _ (no_space _) (law_at 4 L6 refl (omega arith)))
      (arrays_good A2 _ refl (law_at 5 A2 refl (omega arith))))

  module _ (kind : Kind) (basis : List BasisItem) (inputs : List (List Poly)) (pairs : List PairItem) (relations : List RelationItem) where
    -- the certificate with these keys besides
    abbrev pub with_keys : Certificate
    with_keys = record { kind = kind; system = record g.told.system { section = [] }; fractions = g.fractions; invariance = g.proofs; laws = map (λ e. e.1) g.laws; basis = basis; inputs = inputs; pairs = pairs; relations = relations }

    -- the common parts have their form
    pub common_form : list_all (λ p. p.1) (common_parts with_keys) ≡ true
    common_form =
        let r = invariance_good g.fractions g.proofs gens.proofs in
        list_all-append (λ p. p.1) (system_parts g.told.system) (fraction_parts with_keys) ∙ and_true _ _ system_form0 (and_true _ _ (fractions_good g.fractions gens.stored) (and_true _ _ (and_true _ _ (equal _ _ r.0) r.1) refl))

    -- and so have the cofactors of the laws
    pub law_form : list_all (λ p. p.1) (law_parts with_keys) ≡ true
    law_form = and_true _ _ laws_good refl

    -- the condition on the fractions holds
    pub changes_shown : list_all (change_multiplies with_keys.system) (zip g.fractions g.proofs) ≡ true → invariance_failure with_keys ≡ None
    unfolding change
    changes_shown fits = invariance_holds with_keys fits (each g.fractions g.proofs gens.proofs)
      where
        each : (fs : List Fraction) (uss : List (List Poly)) → AllZip (ProvesInvariance g.told.system g.group) fs uss → AllZip (λ f us. IsSame (poly_ops (residue_ops g.told.system.p)) (change with_keys.system f) (combination (residue_ops g.told.system.p) us g.told.system.ideal)) fs uss
        each [] [] z = tt
        each [] (us ∷ uss) z = absurd z
        each (f ∷ fs) [] z = absurd z
        each (f ∷ fs) (us ∷ uss) z = (z.0.sums_up, each fs uss z.1)

    -- the lists that stand for a law
    nth : (i : ℕ) → nth_cofactors with_keys i ≡ get_or (map (λ e. e.1) g.laws) i []
    nth i = unwrap_or-slice_get (map (λ e. e.1) g.laws) i []

    proved_sum : (law : Law) (i : ℕ) → ProvesLaw g.told.system g.group law (get_or (map (λ e. e.1) g.laws) i []) → (k : ℕ) → k < length (nth_cofactors with_keys i)
        → IsSame (poly_ops (residue_ops g.told.system.p)) (get_or (parts g.told.system law) k []) (combination (residue_ops g.told.system.p) (get_or (nth_cofactors with_keys i) k []) (ideal_copies g.told.system (copies law)))
    proved_sum law i p k low = subst (λ (xs : List (List Poly)). k < length xs → IsSame (poly_ops (residue_ops g.told.system.p)) (get_or (parts g.told.system law) k []) (combination (residue_ops g.told.system.p) (get_or xs k []) (ideal_copies g.told.system (copies law)))) (sym (nth i)) (λ h. (p.each k h).sums_up) low

    nothing_sum : (us : List Poly) → combination (residue_ops g.told.system.p) us [] ≡ []
    unfolding combination
    nothing_sum [] = refl
    nothing_sum (u ∷ us) = refl

    zero_sum : (law : Law) → ideal_copies g.told.system (copies law) ≡ [] → LawHolds g.told.system law → (k : ℕ) → k < length (parts g.told.system law)
        → IsSame (poly_ops (residue_ops g.told.system.p)) (get_or (parts g.told.system law) k []) (combination (residue_ops g.told.system.p) (get_or (map (λ (f : Poly). []) (parts g.told.system law)) k []) (ideal_copies g.told.system (copies law)))
    zero_sum law none holds k low =
        let m = all_at (IsMember (residue_ops g.told.system.p) (ideal_copies g.told.system (copies law))) (parts g.told.system law) k [] low holds in
        let zero : ideal_copies g.told.system (copies law) ≡ [] = none in
        subst (λ fs. IsSame (poly_ops (residue_ops g.told.system.p)) (get_or (parts g.told.system law) k []) (combination (residue_ops g.told.system.p) (get_or (map (λ (f : Poly). []) (parts g.told.system law)) k []) fs)) (sym none)
        (subst (IsSame (poly_ops (residue_ops g.told.system.p)) (get_or (parts g.told.system law) k [])) (ap (combination (residue_ops g.told.system.p) m.cofactors) none ∙ nothing_sum m.cofactors ∙ sym (nothing_sum _)) m.sums_up)

    laws_sum : (law : Law) → SumsOfLaw with_keys law
    unfolding parts
    laws_sum L1 k low high = zero_sum L1 refl (gens.hold L1) k low
    laws_sum L2 k low high = proved_sum L2 0 (law_at 0 L2 refl (omega arith)) k high
    laws_sum L3 k low high = proved_sum L3 1 (law_at 1 L3 refl (omega arith)) k high
    laws_sum L4 k low high = proved_sum L4 2 (law_at 2 L4 refl (omega arith)) k high
    laws_sum L5 k low high = proved_sum L5 3 (law_at 3 L5 refl (omega arith)) k high
    laws_sum L6 k low high = proved_sum L6 4 (law_at 4 L6 refl (omega arith)) k high
    laws_sum A1 k low high = zero_sum A1 refl (gens.hold A1) k low
    laws_sum A2 k low high = proved_sum A2 5 (law_at 5 A2 refl (omega arith)) k high

    -- the condition on the laws holds
    pub laws_shown : list_all (law_multiplies with_keys) all_laws ≡ true → law_failure with_keys ≡ None
    laws_shown fits = laws_hold with_keys fits laws_sum
