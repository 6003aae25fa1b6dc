-- The parts of a certificate, one after the other, and the keys that are stored.
--   frame-stops, system-stops               stops at the parts of a system
--   fractions-fail, .., relations-fail      the first part of the wrong form
--   common-hold, law-holds, basis-hold      the parts of a kind have their form
--   keys-invariance, keys-sound, keys-full  what is stored for a kind
use Rattle.std.proofs.Common.{◌≡◌, ℕ, ◌+◌, ◌*◌, List, [], ◌++◌, length, map, take, drop, Bool, ◌&&◌, ◌==◌, Some, None, refl, sym, ap, subst, ◌∙◌}
use Rattle.std.specs.Prelude.{zip}
use Rattle.std.specs.List.{list_all}
use Rattle.rinv_defs.specs.System.{Poly, group_count, space_count}
use Rattle.rinv_defs.specs.Invariant.{Fraction}
use Rattle.rinv_defs.specs.SystemForm.{system_parts, is_good, are_good, is_nonzero}
use Rattle.rinv_defs.specs.Certificate.{Certificate, Kind, invariance, sound, full}
use Rattle.rinv_defs.specs.Format.{first_false, fraction_parts, common_parts, law_parts, basis_parts, parts_of_kind, format_failure, laws_with_cofactors, are_law_cofactors, is_basis_item, is_pair_item, is_relation_item}
use Rattle.rinv_cert.specs.declared.certificate.Kind.TheVariants.{Invariance, Sound, Full}
use Rattle.rinv_cert.specs.declared.certificate.CertificateOf.{CertificateOf}
use Rattle.rinv_cert.specs.declared.certificate.PairItem.{PairItem}
use Rattle.rinv_cert.specs.declared.certificate.Tied.{Tied}
use Rattle.rinv_cert.specs.Seen.{plain, basis_item_by, pair_item_by, relation_item_by}
use Rattle.rinv_form.specs.Forms.{kept, each_stored, are_stored, is_stored_fraction}
use Rattle.rinv_form.specs.ItemForms.{is_basis_form, is_pair_form, is_relation_form}
use Rattle.rinv_form.specs.LawShapes.{are_law_lists}
use Rattle.rinv_form.specs.Sized.{IsSized}
use Rattle.rinv_form.specs.Stops.{StopsAt, frame_failure, lists_failure}
use Rattle.rinv_form.specs.Trimmed.{keys_of_kind, trimmed}
use Rattle.rinv_form.specs.declared.frame.FormatStop.{FormatStop}
use Rattle.rinv_form.specs.declared.sizes.Sizes.{Sizes}
use Rattle.rinv_form.proofs.Kept.{kept-some, kept-none, kept-holds}
use Rattle.rinv_form.proofs.StoredLists.{each_stored-kept}
use Rattle.rinv_form.proofs.FirstParts.{part_holds, part_fails, no_part, first_false-append, stops-first, stops-later, one-stops, one-holds}
use Rattle.rinv_form.proofs.SeenForms.{basis-forms, pair-forms, relation-forms, law-forms}
use Rattle.rinv_form.proofs.TrimmedForms.{keys-form, form-of_kind}

-- ---- the system

-- a stop before the system's lists is one of the whole
pub frame-stops : (c : Certificate) (stop : FormatStop) → StopsAt (frame_failure c.system) stop → StopsAt (format_failure c) stop
frame-stops c stop h = subst (λ o. StopsAt o stop) (sym (form-of_kind c.kind c refl)) (go c.kind)
  where
    go : (k : Kind) → StopsAt (first_false (parts_of_kind k c)) stop
    go invariance = stops-first (take 3 (system_parts c.system)) (drop 3 (common_parts c)) stop h
    go sound = stops-first (take 3 (system_parts c.system)) (drop 3 (common_parts c ++ law_parts c)) stop h
    go full = stops-first (take 3 (system_parts c.system)) (drop 3 (common_parts c ++ law_parts c ++ basis_parts c)) stop h

-- a stop at its lists
pub system-stops : (c : Certificate) (stop : FormatStop) → frame_failure c.system ≡ None → StopsAt (lists_failure c.system) stop → StopsAt (first_false (common_parts c)) stop
system-stops c stop none h =
    stops-first (system_parts c.system) (fraction_parts c) stop (stops-later (take 3 (system_parts c.system)) (drop 3 (system_parts c.system)) stop none h)

-- ---- the parts of every kind

module _ (c : Certificate) (z : Sizes) (is : IsSized c z) where
  abbrev fraction_form : List Fraction → Bool
  fraction_form fs = list_all (is_stored_fraction z.field z.space) fs

  abbrev lists_form : List (List Poly) → Bool
  lists_form lists = length lists == z.fractions && list_all (are_stored z.field z.whole z.ideal) lists

  fractions-test : (fs : List Fraction) → fs ≡ c.fractions → list_all (λ f. is_good c.system (space_count c.system) f.0 && is_nonzero c.system (space_count c.system) f.1) c.fractions ≡ fraction_form fs
  fractions-test fs e = rw (e, is.field, is.space) refl

  lists-test : (lists : List (List Poly)) → lists ≡ c.invariance
      → (length c.invariance == length c.fractions && list_all (are_good c.system (length c.system.ideal) (group_count c.system + space_count c.system)) c.invariance) ≡ lists_form lists
  lists-test lists e = rw (e, is.field, is.whole, is.ideal, is.fractions) refl

  module _ (frame : frame_failure c.system ≡ None) (lists : lists_failure c.system ≡ None) where
    past-system : first_false (common_parts c) ≡ first_false (fraction_parts c)
    past-system =
        first_false-append (system_parts c.system) (fraction_parts c) (first_false-append (take 3 (system_parts c.system)) (drop 3 (system_parts c.system)) frame ∙ lists)

    pub fractions-fail : (fs : List Fraction) → fs ≡ c.fractions → None ≡ kept (fraction_form fs) fs → first_false (common_parts c) ≡ Some 11
    fractions-fail fs e none = past-system ∙ part_fails 11 _ _ (fractions-test fs e ∙ kept-none (fraction_form fs) fs none)

    module _ (fs gs : List Fraction) (e : fs ≡ c.fractions) (some : Some gs ≡ kept (fraction_form fs) fs) (us : List (List Poly)) (eu : us ≡ c.invariance) where
      past-fractions : first_false (common_parts c) ≡ first_false (drop 1 (fraction_parts c))
      past-fractions = past-system ∙ part_holds 11 _ _ (fractions-test fs e ∙ kept-holds (fraction_form fs) fs gs some)

      pub invariance-fails : None ≡ kept (lists_form us) us → first_false (common_parts c) ≡ Some 12
      invariance-fails none = past-fractions ∙ part_fails 12 _ _ (lists-test us eu ∙ kept-none (lists_form us) us none)

      pub common-hold : (vs : List (List Poly)) → Some vs ≡ kept (lists_form us) us → first_false (common_parts c) ≡ None
      common-hold vs some' = past-fractions ∙ part_holds 12 _ _ (lists-test us eu ∙ kept-holds (lists_form us) us vs some') ∙ no_part

  -- ---- the laws

  module _ (common : first_false (common_parts c) ≡ None) (lists : List (List (List Poly))) (e : lists ≡ c.laws) where
    laws-test : (length c.laws == length laws_with_cofactors && list_all (are_law_cofactors c.system) (zip laws_with_cofactors c.laws)) ≡ are_law_lists z lists
    laws-test = rw e (law-forms c z is c.laws)

    pub laws-fail : None ≡ kept (are_law_lists z lists) lists → first_false (parts_of_kind sound c) ≡ Some 13
    laws-fail none = first_false-append (common_parts c) (law_parts c) common ∙ one-stops 13 _ (laws-test ∙ kept-none (are_law_lists z lists) lists none)

    pub laws-hold : (stored : List (List (List Poly))) → Some stored ≡ kept (are_law_lists z lists) lists → first_false (parts_of_kind sound c) ≡ None
    laws-hold stored some = first_false-append (common_parts c) (law_parts c) common ∙ one-holds 13 _ (laws-test ∙ kept-holds (are_law_lists z lists) lists stored some)

  -- ---- the basis

  abbrev Relation : Type 0
  Relation = List ℕ × Poly × List (List ℕ × Poly × Tied) × List Poly

  abbrev inputs_form : ℕ → List (List Poly) → Bool
  inputs_form count us = length us == count && list_all (are_stored z.field z.graph z.basis) us

  inputs-test : (count : ℕ) (us : List (List Poly)) → count ≡ z.ideal + z.space → us ≡ c.inputs
      → (length c.inputs == length c.system.ideal + space_count c.system && list_all (are_good c.system (length c.basis) (group_count c.system + 2 * space_count c.system)) c.inputs) ≡ inputs_form count us
  inputs-test count us ec eu = rw (ec, eu, is.field, is.graph, is.basis, is.ideal, is.space) refl

  module _ (bs : List (Poly × List Poly)) (eb : map (basis_item_by (λ f. f)) bs ≡ c.basis) where
    basis-test : list_all (is_basis_item c.system) c.basis ≡ list_all (is_basis_form z) bs
    basis-test = ap (list_all (is_basis_item c.system)) (sym eb) ∙ basis-forms c z is bs

    basis-kept : each_stored (λ b. kept (is_basis_form z b) b) bs ≡ kept (list_all (is_basis_form z) bs) bs
    basis-kept = each_stored-kept _ (is_basis_form z) (λ b. refl) bs

    pub basis-fails : None ≡ each_stored (λ b. kept (is_basis_form z b) b) bs → first_false (basis_parts c) ≡ Some 14
    basis-fails none = part_fails 14 _ _ (basis-test ∙ kept-none (list_all (is_basis_form z) bs) bs (none ∙ basis-kept))

    module _ (bs' : List (Poly × List Poly)) (some : Some bs' ≡ each_stored (λ b. kept (is_basis_form z b) b) bs) (count : ℕ) (ec : count ≡ z.ideal + z.space) (us : List (List Poly)) (eu : us ≡ c.inputs) where
      past-basis : first_false (basis_parts c) ≡ first_false (drop 1 (basis_parts c))
      past-basis = part_holds 14 _ _ (basis-test ∙ kept-holds (list_all (is_basis_form z) bs) bs bs' (some ∙ basis-kept))

      pub inputs-fail : None ≡ kept (inputs_form count us) us → first_false (basis_parts c) ≡ Some 15
      inputs-fail none = past-basis ∙ part_fails 15 _ _ (inputs-test count us ec eu ∙ kept-none (inputs_form count us) us none)

      module _ (us' : List (List Poly)) (someu : Some us' ≡ kept (inputs_form count us) us) (es : List (PairItem Poly)) (ee : map (pair_item_by (λ f. f)) es ≡ c.pairs) where
        past-inputs : first_false (basis_parts c) ≡ first_false (drop 2 (basis_parts c))
        past-inputs = past-basis ∙ part_holds 15 _ _ (inputs-test count us ec eu ∙ kept-holds (inputs_form count us) us us' someu)

        pairs-test : list_all (is_pair_item c.system (length c.basis)) c.pairs ≡ list_all (is_pair_form z) es
        pairs-test = ap (list_all (is_pair_item c.system (length c.basis))) (sym ee) ∙ pair-forms c z is es

        pairs-kept : each_stored (λ e. kept (is_pair_form z e) e) es ≡ kept (list_all (is_pair_form z) es) es
        pairs-kept = each_stored-kept _ (is_pair_form z) (λ e. refl) es

        pub pairs-fail : None ≡ each_stored (λ e. kept (is_pair_form z e) e) es → first_false (basis_parts c) ≡ Some 16
        pairs-fail none = past-inputs ∙ part_fails 16 _ _ (pairs-test ∙ kept-none (list_all (is_pair_form z) es) es (none ∙ pairs-kept))

        module _ (es' : List (PairItem Poly)) (somee : Some es' ≡ each_stored (λ e. kept (is_pair_form z e) e) es) (rs : List Relation) (er : map (relation_item_by (λ f. f)) rs ≡ c.relations) where
          past-pairs : first_false (basis_parts c) ≡ first_false (drop 3 (basis_parts c))
          past-pairs = past-inputs ∙ part_holds 16 _ _ (pairs-test ∙ kept-holds (list_all (is_pair_form z) es) es es' (somee ∙ pairs-kept))

          relations-test : list_all (is_relation_item c.system c.fractions) c.relations ≡ list_all (is_relation_form z) rs
          relations-test = ap (list_all (is_relation_item c.system c.fractions)) (sym er) ∙ relation-forms c z is rs

          relations-kept : each_stored (λ r. kept (is_relation_form z r) r) rs ≡ kept (list_all (is_relation_form z) rs) rs
          relations-kept = each_stored-kept _ (is_relation_form z) (λ r. refl) rs

          pub relations-fail : None ≡ each_stored (λ r. kept (is_relation_form z r) r) rs → first_false (basis_parts c) ≡ Some 17
          relations-fail none = past-pairs ∙ part_fails 17 _ _ (relations-test ∙ kept-none (list_all (is_relation_form z) rs) rs (none ∙ relations-kept))

          pub basis-hold : (rs' : List Relation) → Some rs' ≡ each_stored (λ r. kept (is_relation_form z r) r) rs → first_false (basis_parts c) ≡ None
          basis-hold rs' some' = past-pairs ∙ part_holds 17 _ _ (relations-test ∙ kept-holds (list_all (is_relation_form z) rs) rs rs' (some' ∙ relations-kept)) ∙ no_part

-- ---- the keys that are stored

-- a list of which all is stored
pub stored-same : {A : Type 0} (test : A → Bool) (xs ys : List A) → Some ys ≡ each_stored (λ x. kept (test x) x) xs → ys ≡ xs
stored-same test xs ys e = kept-some (list_all test xs) xs ys (e ∙ each_stored-kept _ test (λ x. refl) xs)

pub keys-invariance : (o c : CertificateOf Poly) → o.kind ≡ Invariance → o.system ≡ c.system → o.fractions ≡ c.fractions → o.invariance ≡ c.invariance
    → o.laws ≡ [] → o.basis ≡ [] → o.inputs ≡ [] → o.pairs ≡ [] → o.relations ≡ [] → plain o ≡ keys_of_kind invariance (plain c)
keys-invariance o c k s f i l b n p r = rw (k, s, f, i, l, b, n, p, r) refl

pub keys-sound : (s c : CertificateOf Poly) → plain s ≡ keys_of_kind invariance (plain c) → (laws : List (List (List Poly))) → laws ≡ c.laws
    → plain (record { kind = Sound; system = s.system; fractions = s.fractions; invariance = s.invariance; laws = laws; basis = s.basis; inputs = s.inputs; pairs = s.pairs; relations = s.relations }) ≡ keys_of_kind sound (plain c)
keys-sound s c h laws e =
    ap (λ (d : Certificate). record { kind = sound; system = d.system; fractions = d.fractions; invariance = d.invariance; laws = map (map (map (λ f. f))) laws; basis = d.basis; inputs = d.inputs; pairs = d.pairs; relations = d.relations }) h
    ∙ ap (λ (ls : List (List (List Poly))). keys_of_kind sound (record { kind = sound; system = (plain c).system; fractions = (plain c).fractions; invariance = (plain c).invariance; laws = map (map (map (λ f. f))) ls; basis = []; inputs = []; pairs = []; relations = [] })) e

pub keys-full : (s c : CertificateOf Poly) → plain s ≡ keys_of_kind sound (plain c) → (bs : List (Poly × List Poly)) → bs ≡ c.basis → (us : List (List Poly)) → us ≡ c.inputs → (es : List (PairItem Poly)) → es ≡ c.pairs
    → (rs : List (List ℕ × Poly × List (List ℕ × Poly × Tied) × List Poly)) → rs ≡ c.relations
    → plain (record { kind = Full; system = s.system; fractions = s.fractions; invariance = s.invariance; laws = s.laws; basis = bs; inputs = us; pairs = es; relations = rs }) ≡ keys_of_kind full (plain c)
keys-full s c h bs eb us eu es ee rs er =
    ap (λ (d : Certificate). record { kind = full; system = d.system; fractions = d.fractions; invariance = d.invariance; laws = d.laws; basis = map (basis_item_by (λ f. f)) bs; inputs = map (map (λ f. f)) us; pairs = map (pair_item_by (λ f. f)) es; relations = map (relation_item_by (λ f. f)) rs }) h
    ∙ rw (eb, eu, ee, er) refl

-- ---- the whole

module _ (k : Kind) (c : Certificate) (of : c.kind ≡ k) where
  pub keys-trimmed : (d : Certificate) → d ≡ keys_of_kind k c → d ≡ trimmed c
  keys-trimmed d e = e ∙ ap (λ (k : Kind). keys_of_kind k c) (sym of)

  pub form-trimmed : (d : Certificate) → d ≡ keys_of_kind k c → first_false (parts_of_kind k c) ≡ None → format_failure d ≡ None
  form-trimmed d e form = ap format_failure e ∙ keys-form k c ∙ form

  pub stops-whole : (stop : FormatStop) → StopsAt (first_false (parts_of_kind k c)) stop → StopsAt (format_failure c) stop
  stops-whole stop h = subst (λ o. StopsAt o stop) (sym (form-of_kind k c of)) h
