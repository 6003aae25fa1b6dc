-- The cofactors of the laws have their form.
--   lists-many, lists-form      for each part of a law a list, as long as the ideal's copies, in the variables of the parts
--   lists-at, no-lists          the lists that stand at a law's place
--   lists-of_law                the lists of a law, in the ring of its parts
use Rattle.std.proofs.Common.{◌≡◌, ℕ, zero, suc, ◌*◌, ◌<◌, ◌≤◌, List, [], ◌∷◌, ◌++◌, length, map, get_or, Bool, true, ◌==◌, IsTrue, Some, None, refl, sym, ap, ◌∙◌, subst, arith}
use Rattle.std.specs.Prelude.{zip, slice_get}
use Rattle.std.specs.List.{list_all, AllByRecursion}
use Rattle.std.proofs.lemmas.Bool.{eqb-true}
use Rattle.std.proofs.lemmas.List.{get_or_default}
use Rattle.std.proofs.lemmas.Option.{unwrap_or-slice_get}
use Rattle.rinv_algebra.proofs.Same.{both}
use Rattle.rinv_defs.proofs.Tests.{parts_true, first_false-append, first_false-append_right, zip_at}
use Rattle.rinv_defs.proofs.PartCounts.{length-map, parts_few}
use Rattle.rinv_defs.specs.System.{System, Poly}
use Rattle.rinv_defs.specs.SystemForm.{IsSystem, are_good}
use Rattle.rinv_defs.specs.Laws.{Law, L1, L2, L3, L4, L5, L6, A1, A2, copies, parts}
use Rattle.rinv_defs.specs.Certificate.{Certificate, Kind, invariance, sound, full}
use Rattle.rinv_defs.specs.Format.{common_parts, law_parts, basis_parts, parts_of_kind, first_false, format_failure, are_law_cofactors, laws_with_cofactors, law_variables, part_count}
use Rattle.rinv_defs.specs.Conditions.{nth_cofactors, cofactors_of}
use Rattle.rinv_text.proofs.SystemParts.{parts-of}
use Rattle.rinv_form.specs.Forms.{are_stored}
use Rattle.rinv_form.proofs.FormParts.{form-system}
use Rattle.rinv_cert.specs.declared.certificate.CertificateOf.{CertificateOf}
use Rattle.rinv_cert.specs.declared.certificate.Kind.{Kind as StoredKind}
use Rattle.rinv_cert.specs.declared.certificate.Kind.TheVariants.{Invariance, Sound, Full}
use Rattle.rinv_cert.specs.Seen.{kind_of, plain}
use Rattle.rinv_cert.proofs.Same.{map-same}
use Rattle.rinv_parts.specs.declared.parts.LawParts.{LawParts}
use Rattle.rinv_parts.specs.LawNames.{law_of, variables_of}
use Rattle.rinv_parts.specs.Parts.{IsLawRing}
use Rattle.rinv_check.specs.LawLists.{list_place, AreListsFor, AreListsOf}

-- what holds of all holds of each
each-of : {X : Type 0} (test : X → Bool) (xs : List X) (k : ℕ) (d : X) → k < length xs → list_all test xs ≡ true → test (get_or xs k d) ≡ true
each-of test [] k d few h = absurd (omega (arith, few))
each-of test (x ∷ xs) zero d few h = (both (test x) (list_all test xs) h).0
each-of test (x ∷ xs) (suc k) d few h = each-of test xs k d (omega (arith, few)) (both (test x) (list_all test xs) h).1

-- the parts of a law have as many variables as its cofactors
variables-are : (s : System) (law : Law) → law_variables s law ≡ variables_of s law
variables-are s L1 = omega arith
variables-are s L2 = omega arith
variables-are s L3 = omega arith
variables-are s L4 = omega arith
variables-are s L5 = omega arith
variables-are s L6 = omega arith
variables-are s A1 = omega arith
variables-are s A2 = refl

-- a law that says that polynomials are zero has empty lists
empty-at : (ps : List Poly) (k : ℕ) → get_or (map (λ (f : Poly). let us : List Poly = [] in us) ps) k [] ≡ []
empty-at [] k = refl
empty-at (p ∷ ps) zero = refl
empty-at (p ∷ ps) (suc k) = empty-at ps k

-- for each part a list
abbrev HaveForm : System → Law → List (List Poly) → Type 0
HaveForm s law uss = (length (parts s law) ≤ length uss) × ((k : ℕ) → k < length (parts s law) → are_stored s.p (variables_of s law) (copies law * length s.ideal) (get_or uss k []) ≡ true)

module _ (c : Certificate) (other : ¬ (c.kind ≡ invariance)) (form : format_failure c ≡ None) (system : IsSystem c.system) where
  listed : (k : Kind) → ¬ (k ≡ invariance) → first_false (parts_of_kind k c) ≡ None → first_false (law_parts c) ≡ None
  listed invariance differs e = absurd (differs refl)
  listed sound differs e = first_false-append_right (common_parts c) (law_parts c) e
  listed full differs e = first_false-append_right (common_parts c) (law_parts c) (first_false-append (common_parts c ++ law_parts c) (basis_parts c) e)

  all-lists : (length c.laws ≡ length laws_with_cofactors) × (list_all (are_law_cofactors c.system) (zip laws_with_cofactors c.laws) ≡ true)
  unfolding format_failure
  all-lists =
      let held : AllByRecursion (λ p. IsTrue p.1) (law_parts c) = parts_true (law_parts c) (listed c.kind other form) in
      let h = both (length c.laws == length laws_with_cofactors) (list_all (are_law_cofactors c.system) (zip laws_with_cofactors c.laws)) held.0 in
      (eqb-true (length c.laws) (length laws_with_cofactors) h.0, h.1)

  pub lists-count : length c.laws ≡ 6
  lists-count = all-lists.0

  nth : (i : ℕ) (law : Law) → slice_get laws_with_cofactors i ≡ Some law → HaveForm c.system law (nth_cofactors c i)
  nth i law e =
      let s = c.system in
      let uss : List (List Poly) = nth_cofactors c i in
      let here : are_law_cofactors s (law, uss) ≡ true = zip_at (are_law_cofactors s) [] laws_with_cofactors c.laws all-lists.0 all-lists.1 i law e in
      let h = both (length uss == part_count s law) (list_all (are_good s (copies law * length s.ideal) (law_variables s law)) uss) here in
      let forms = parts-of s system in
      let many : length (parts s law) ≤ length uss = omega (arith, parts_few s forms.product_count forms.action_count law, eqb-true (length uss) (part_count s law) h.0) in
      (many, λ k few. subst (λ (v : ℕ). are_stored s.p v (copies law * length s.ideal) (get_or uss k []) ≡ true) (variables-are s law) (each-of (are_good s (copies law * length s.ideal) (law_variables s law)) uss k [] (omega (arith, few, many)) h.1))

  -- a law that has no lists
  none : (law : Law) → copies law ≡ 0 → HaveForm c.system law (map (λ f. []) (parts c.system law))
  none law e =
      let s = c.system in
      let ps = parts s law in
      let zero_many : copies law * length s.ideal ≡ 0 = rw e (let z : 0 * length s.ideal ≡ 0 = omega arith in z) in
      (let count = length-map (λ (f : Poly). let us : List Poly = [] in us) ps in omega (arith, count), λ k few. rw (zero_many, empty-at ps k) refl)

  pub lists-form : (law : Law) → HaveForm c.system law (cofactors_of c law)
  lists-form L1 = none L1 refl
  lists-form L2 = nth 0 L2 refl
  lists-form L3 = nth 1 L3 refl
  lists-form L4 = nth 2 L4 refl
  lists-form L5 = nth 3 L5 refl
  lists-form L6 = nth 4 L6 refl
  lists-form A1 = none A1 refl
  lists-form A2 = nth 5 A2 refl

-- ---- the lists that stand at a law's place

-- such a place
pub place-few : (law : Law) (place : ℕ) → Some place ≡ list_place law → place < 6
place-few L1 place e = cc
place-few L2 place e = let at : place ≡ 0 = cc in omega (arith, at)
place-few L3 place e = let at : place ≡ 1 = cc in omega (arith, at)
place-few L4 place e = let at : place ≡ 2 = cc in omega (arith, at)
place-few L5 place e = let at : place ≡ 3 = cc in omega (arith, at)
place-few L6 place e = let at : place ≡ 4 = cc in omega (arith, at)
place-few A1 place e = cc
place-few A2 place e = let at : place ≡ 5 = cc in omega (arith, at)

-- has the law's cofactors
at-place : (c : Certificate) (law : Law) (place : ℕ) → Some place ≡ list_place law → cofactors_of c law ≡ nth_cofactors c place
at-place c L1 place e = cc
at-place c L2 place e = let at : 0 ≡ place = cc in ap (nth_cofactors c) at
at-place c L3 place e = let at : 1 ≡ place = cc in ap (nth_cofactors c) at
at-place c L4 place e = let at : 2 ≡ place = cc in ap (nth_cofactors c) at
at-place c L5 place e = let at : 3 ≡ place = cc in ap (nth_cofactors c) at
at-place c L6 place e = let at : 4 ≡ place = cc in ap (nth_cofactors c) at
at-place c A1 place e = cc
at-place c A2 place e = let at : 5 ≡ place = cc in ap (nth_cofactors c) at

-- the lists of a stored certificate are seen as they are
same-lists : (ls : List (List (List Poly))) → map (map (map (λ f. f))) ls ≡ ls
same-lists ls = map-same (map (map (λ f. f))) (map-same (map (λ f. f)) (map-same (λ f. f) (λ f. refl))) ls

-- one of another kind
pub other-kind : (k : StoredKind) → ¬ (k ≡ Invariance) → ¬ (kind_of k ≡ invariance)
other-kind Invariance other e = other refl
other-kind Sound other e = cc
other-kind Full other e = cc

module _ (c : CertificateOf Poly) (law : Law) where
  pub lists-at : (place : ℕ) (lists : List (List Poly)) → Some place ≡ list_place law → place < length c.laws → lists ≡ get_or c.laws place lists → AreListsFor (plain c) law lists
  lists-at place lists e few at k inside =
      let here : cofactors_of (plain c) law ≡ lists =
      at-place (plain c) law place e ∙ unwrap_or-slice_get (plain c).laws place [] ∙ ap (λ (ls : List (List (List Poly))). get_or ls place []) (same-lists c.laws)
      ∙ get_or_default c.laws place [] lists few ∙ sym at
      in
      ap (λ (us : List (List Poly)). get_or us k []) (sym here)

  pub no-lists : None ≡ list_place law → AreListsFor (plain c) law []
  no-lists e k inside = absent law e
    where
      absent : (law : Law) → None ≡ list_place law → ◌≡◌ {A = List Poly} [] (get_or (cofactors_of (plain c) law) k [])
      absent L1 e = sym (empty-at (parts (plain c).system L1) k)
      absent L2 e = cc
      absent L3 e = cc
      absent L4 e = cc
      absent L5 e = cc
      absent L6 e = cc
      absent A1 e = sym (empty-at (parts (plain c).system A1) k)
      absent A2 e = cc

  -- how many lists there are
  pub laws-count : ¬ (c.kind ≡ Invariance) → format_failure (plain c) ≡ None → length c.laws ≡ 6
  laws-count other form =
      ap (λ (ls : List (List (List Poly))). length ls) (sym (same-lists c.laws)) ∙ lists-count (plain c) (other-kind c.kind other) form (form-system (plain c) form refl)

-- ---- the lists of a law, in the ring of its parts

pub lists-of_law : (c : Certificate) → ¬ (c.kind ≡ invariance) → format_failure c ≡ None → IsSystem c.system → (l : LawParts) (law : Law) (lists : List (List Poly)) (size : ℕ)
    → law_of l.law ≡ law → IsLawRing c.system (law_of l.law) l.ring.coeffs l.ring.vars → AreListsFor c law lists → size ≡ copies law * length c.system.ideal → AreListsOf c.system l lists size
lists-of_law c other form system l law lists size e ring for_law many k inside =
    let inside' : k < length (parts c.system law) = rw e at inside in
    let here : are_stored c.system.p (variables_of c.system law) (copies law * length c.system.ideal) (get_or lists k []) ≡ true = rw (for_law k inside') ((lists-form c other form system law).1 k inside') in
    rw (ring.field, ring.vars, e, many) here
