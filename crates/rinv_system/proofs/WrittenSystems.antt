-- The text of a written system is read as that system.
use Rattle.std.proofs.Common.{◌≡◌, ℕ, suc, ◌<◌, ◌≤◌, ◌^◌, List, [], ◌∷◌, ◌++◌, length, map, codes, decimal, refl, sym, ap, ◌∙◌, subst, Bool, true, false, ◌==◌, nat_le, IsTrue, Option, Some, None, unwrap_or, if◌then◌else◌, inl, inr, arith, length-append}
use Rattle.std.proofs.lemmas.Bool.{cases_Bool, eqb-true}
use Rattle.std.proofs.lemmas.Bool.Decides.{nat_tests}
use Rattle.std.proofs.lemmas.List.{length-map}
use Rattle.rinv_algebra.specs.Residue.{is_listed}
use Rattle.rinv_defs.specs.System.{System, Poly}
use Rattle.rinv_defs.specs.Text.{poly_text}
use Rattle.rinv_text.specs.Told.{Told}
use Rattle.rinv_text.specs.Names.{copies}
use Rattle.rinv_text.specs.Printable.{AreWords}
use Rattle.rinv_system.specs.declared.keyword.Keyword.TheVariants.{Field, Group, Space, Ideal, Unit as AtUnit, Product, Inverse, Action, Section, Pairs, Steps}
use Rattle.rinv_system.specs.Drafts.{Draft, blank}
use Rattle.rinv_system.specs.Entries.{words_of}
use Rattle.rinv_system.specs.Forms.{IsRestTaken, TellsNumber, TellsNames, TellsPolynomials}
use Rattle.rinv_system.specs.LineTexts.{AreTaken}
use Rattle.rinv_system.specs.Texts.{IsLineTaken, IsSystemText, told_by}
use Rattle.rinv_system.specs.Written.{list_text, numbers_text, polynomials_text, line_text, first_lines, ideal_lines, map_lines, section_lines, budget_lines, written_lines, system_text, IsWritable}
use Rattle.rinv_system.proofs.GoodLists.{length-two_copies}
use Rattle.rinv_text.proofs.SystemParts.{HasParts, AreNormal, between, parts-of}
use Rattle.rinv_system.proofs.SystemFacts.{section-of}
use Rattle.rinv_system.proofs.WrittenEntries.{list-words}
use Rattle.rinv_system.proofs.WrittenNames.{names-new, name-words, are-words, factors-words, both-words}
use Rattle.rinv_system.proofs.WrittenLines.{IsLineText, AreLines, word-line, list-line, lines-append, text-contents, text-good}
use Rattle.rinv_system.proofs.WrittenRests.{AreTexts, as_polynomial, number-line, entries-line, polynomials-texts, numbers-texts, constants-back}
use Rattle.rinv_system.proofs.WrittenHeads.{head-field, head-group, head-space, head-ideal, head-unit, head-product, head-inverse, head-action, head-section, head-pairs, head-steps}
use Rattle.rinv_system.proofs.WrittenTaken.{taken, chained, number-taken, names-solid, names-taken, polynomials-taken, within, as-many}

listed-least : (p : ℕ) → IsTrue (is_listed p) → p < 2 ^ 64
listed-least p h = grind (arith, nat_tests)

-- a list of names, as a line has it
names-line : (ws : List (List ℕ)) → 1 ≤ length ws → AreWords ws → IsLineText (list_text ws)
names-line [] some h = absurd (omega (arith, some))
names-line (w ∷ ws) some h = let s = names-solid (w ∷ ws) h.words in list-line w ws s.0 s.1

names-back : (ws : List (List ℕ)) → 1 ≤ length ws → AreWords ws → words_of (list_text ws) ≡ ws
names-back [] some h = absurd (omega (arith, some))
names-back (w ∷ ws) some h = let s = names-solid (w ∷ ws) h.words in list-words w ws s.0 s.1

-- a budget that is told where it is not the usual one
told_budget : ℕ → ℕ → Option ℕ
told_budget usual n = if n == usual then None else Some n

budget-back : (usual n : ℕ) → unwrap_or (told_budget usual n) usual ≡ n
unfolding told_budget
budget-back usual n = elim (cases_Bool (n == usual)) [ inl e ↦ rw e (sym (eqb-true n usual e)) | inr e ↦ rw e refl ]

told_list : List Poly → Option (List Poly)
told_list fs = if length fs == 0 then None else Some fs

list-back : (fs : List Poly) → unwrap_or (told_list fs) [] ≡ fs
unfolding told_list
list-back [] = refl
list-back (f ∷ fs) = let e : (suc (length fs) == 0) ≡ false = grind (arith, nat_tests) in rw e refl

module _ (t : Told) (w : IsWritable t) where
  abbrev s : System
  s = t.system

  parts : HasParts t.system
  parts = parts-of t.system w.form

  abbrev draft : Option (List Poly) → Option (List ℕ) → Option (List Poly) → Option (List Poly) → Option (List Poly) → Option (List Poly) → Option ℕ → Option ℕ → Draft
  draft i u m v a c x y = record { field = Some t.system.p; group = Some t.system.group; space = Some t.system.space; ideal = i; unit = u; product = m; inverse = v; action = a; section = c; pairs = x; steps = y }

  l-some : 1 ≤ length t.system.group
  l-some = (between (length t.system.group) parts.group_few).0

  n-some : 1 ≤ length t.system.space
  n-some = (between (length t.system.space) parts.space_few).0

  -- ---- the lines, as they stand

  group-words : AreWords t.system.group
  group-words = are-words [] t.system.group parts.group

  space-words : AreWords t.system.space
  space-words = are-words t.system.group t.system.space parts.space

  ideal-texts : AreTexts t.system.p t.system.group (map (poly_text t.system.p t.system.group) t.system.ideal) t.system.ideal
  ideal-texts = polynomials-texts t.system.p t.system.group t.system.ideal parts.listed group-words parts.ideal w.ideal

  unit-texts : AreTexts t.system.p [] (map decimal t.system.unit) (map as_polynomial t.system.unit)
  unit-texts = numbers-texts t.system.p parts.listed t.system.unit parts.unit

  product-texts : AreTexts t.system.p (copies 2 t.system.group) (map (poly_text t.system.p (copies 2 t.system.group)) t.system.product) t.system.product
  product-texts = polynomials-texts t.system.p (copies 2 t.system.group) t.system.product parts.listed (factors-words t.system.group parts.group) (subst (λ v. AreNormal t.system.p v t.system.product) (sym (length-two_copies t.system.group)) parts.product) w.product

  inverse-texts : AreTexts t.system.p t.system.group (map (poly_text t.system.p t.system.group) t.system.inverse) t.system.inverse
  inverse-texts = polynomials-texts t.system.p t.system.group t.system.inverse parts.listed group-words parts.inverse w.inverse

  action-texts : AreTexts t.system.p (t.system.group ++ t.system.space) (map (poly_text t.system.p (t.system.group ++ t.system.space)) t.system.action) t.system.action
  action-texts = polynomials-texts t.system.p (t.system.group ++ t.system.space) t.system.action parts.listed (both-words t.system.group t.system.space parts.group parts.space) (subst (λ v. AreNormal t.system.p v t.system.action) (sym (length-append t.system.group t.system.space)) parts.action) w.action

  section-parts : (length t.system.section ≤ 64) × AreNormal t.system.p (length t.system.space) t.system.section
  section-parts = section-of t.system w.form

  section-texts : AreTexts t.system.p t.system.space (map (poly_text t.system.p t.system.space) t.system.section) t.system.section
  section-texts = polynomials-texts t.system.p t.system.space t.system.section parts.listed space-words section-parts.1 w.section

  section-rest : (length t.system.section == 0) ≡ false → IsLineText (polynomials_text t.system.p t.system.space t.system.section)
  section-rest e = entries-line t.system.p t.system.space (map (poly_text t.system.p t.system.space) t.system.section) t.system.section (grind (arith, nat_tests)) section-texts

  unit-some : 1 ≤ length (map as_polynomial t.system.unit)
  unit-some = omega (arith, length-map t.system.unit as_polynomial, parts.unit_count, l-some)

  field-rest : IsLineText (decimal t.system.p)
  field-rest = number-line t.system.p (listed-least t.system.p parts.listed)

  unit-rest : IsLineText (numbers_text t.system.unit)
  unit-rest = entries-line t.system.p [] (map decimal t.system.unit) (map as_polynomial t.system.unit) unit-some unit-texts

  product-rest : IsLineText (polynomials_text t.system.p (copies 2 t.system.group) t.system.product)
  product-rest = entries-line t.system.p (copies 2 t.system.group) (map (poly_text t.system.p (copies 2 t.system.group)) t.system.product) t.system.product (omega (arith, parts.product_count, l-some)) product-texts

  inverse-rest : IsLineText (polynomials_text t.system.p t.system.group t.system.inverse)
  inverse-rest = entries-line t.system.p t.system.group (map (poly_text t.system.p t.system.group) t.system.inverse) t.system.inverse (omega (arith, parts.inverse_count, l-some)) inverse-texts

  action-rest : IsLineText (polynomials_text t.system.p (t.system.group ++ t.system.space) t.system.action)
  action-rest = entries-line t.system.p (t.system.group ++ t.system.space) (map (poly_text t.system.p (t.system.group ++ t.system.space)) t.system.action) t.system.action (omega (arith, parts.action_count, n-some)) action-texts

  first-are : AreLines (first_lines t.system)
  first-are = (word-line 102 (codes "ield") _ refl refl field-rest, (word-line 103 (codes "roup") _ refl refl (names-line t.system.group l-some group-words), (word-line 115 (codes "pace") _ refl refl (names-line t.system.space n-some space-words), tt)))

  maps-are : AreLines (map_lines t.system)
  maps-are = (word-line 117 (codes "nit") _ refl refl unit-rest, (word-line 112 (codes "roduct") _ refl refl product-rest, (word-line 105 (codes "nverse") _ refl refl inverse-rest, (word-line 97 (codes "ction") _ refl refl action-rest, tt))))

  ideal-are : AreLines (ideal_lines t.system)
  ideal-are = elim (cases_Bool (length t.system.ideal == 0)) [
    | inl e ↦ rw e tt
    | inr e ↦ rw e (word-line 105 (codes "deal") _ refl refl (entries-line t.system.p t.system.group (map (poly_text t.system.p t.system.group) t.system.ideal) t.system.ideal (grind (arith, nat_tests)) ideal-texts), tt)
  ]

  section-are : AreLines (section_lines t.system)
  section-are = elim (cases_Bool (length t.system.section == 0)) [ inl e ↦ rw e tt | inr e ↦ rw e (word-line 115 (codes "ection") _ refl refl (section-rest e), tt) ]

  pairs-are : AreLines (budget_lines (codes "budget pairs") 10000 t.pairs)
  pairs-are = elim (cases_Bool (t.pairs == 10000)) [ inl e ↦ rw e tt | inr e ↦ rw e (word-line 98 (codes "udget pairs") _ refl refl (number-line t.pairs (omega (arith, w.pairs))), tt) ]

  steps-are : AreLines (budget_lines (codes "budget steps") 10000000 t.steps)
  steps-are = elim (cases_Bool (t.steps == 10000000)) [ inl e ↦ rw e tt | inr e ↦ rw e (word-line 98 (codes "udget steps") _ refl refl (number-line t.steps (omega (arith, w.steps))), tt) ]

  -- ---- the lines are taken

  first-taken : AreTaken IsLineTaken blank (first_lines t.system) (draft None None None None None None None None)
  first-taken =
      chained (taken blank (record blank { field = Some t.system.p }) (line_text (codes "field") (decimal t.system.p)) Field (decimal t.system.p) first-are.0 (head-field (decimal t.system.p) field-rest) refl
      (number-taken blank Field t.system.p TellsNumber.field_line (listed-least t.system.p parts.listed) parts.listed))
      (chained (taken (record blank { field = Some t.system.p }) (record blank { field = Some t.system.p; group = Some t.system.group }) (line_text (codes "group") (list_text t.system.group)) Group (list_text t.system.group) first-are.1.0 (head-group (list_text t.system.group) (names-line t.system.group l-some group-words)) refl
      (names-taken (record blank { field = Some t.system.p }) Group [] t.system.group (list_text t.system.group) TellsNames.group_line (names-back t.system.group l-some group-words) (name-words [] t.system.group parts.group) (within 8 (length t.system.group) (between (length t.system.group) parts.group_few).1) (names-new [] t.system.group parts.group)))
      (taken (record blank { field = Some t.system.p; group = Some t.system.group }) (draft None None None None None None None None) (line_text (codes "space") (list_text t.system.space)) Space (list_text t.system.space) first-are.1.1.0 (head-space (list_text t.system.space) (names-line t.system.space n-some space-words)) refl
      (names-taken (record blank { field = Some t.system.p; group = Some t.system.group }) Space t.system.group t.system.space (list_text t.system.space) TellsNames.space_line (names-back t.system.space n-some space-words) (name-words t.system.group t.system.space parts.space) (within 8 (length t.system.space) (between (length t.system.space) parts.space_few).1) (names-new t.system.group t.system.space parts.space))))

  ideal-taken : AreTaken IsLineTaken (draft None None None None None None None None) (ideal_lines t.system) (draft (told_list t.system.ideal) None None None None None None None)
  unfolding told_list
  ideal-taken = by (length t.system.ideal == 0) refl ideal-are
    where
      by : (b : Bool) → (length t.system.ideal == 0) ≡ b → AreLines (if b then [] else line_text (codes "ideal") (polynomials_text t.system.p t.system.group t.system.ideal) ∷ [])
          → AreTaken IsLineTaken (draft None None None None None None None None) (if b then [] else line_text (codes "ideal") (polynomials_text t.system.p t.system.group t.system.ideal) ∷ []) (draft (if b then None else Some t.system.ideal) None None None None None None None)
      by true e are = AreTaken.none
      by false e are =
          let some : 1 ≤ length t.system.ideal = grind (arith, nat_tests) in
          let d : Draft = draft None None None None None None None None in
          taken d (draft (Some t.system.ideal) None None None None None None None) (line_text (codes "ideal") (polynomials_text t.system.p t.system.group t.system.ideal)) Ideal (polynomials_text t.system.p t.system.group t.system.ideal) are.0
          (head-ideal (polynomials_text t.system.p t.system.group t.system.ideal) (entries-line t.system.p t.system.group (map (poly_text t.system.p t.system.group) t.system.ideal) t.system.ideal some ideal-texts)) refl
          (polynomials-taken d Ideal (map (poly_text t.system.p t.system.group) t.system.ideal) t.system.ideal TellsPolynomials.ideal_line some (within 64 (length t.system.ideal) parts.ideal_few) ideal-texts)

  maps-taken : (i : Option (List Poly)) → AreTaken IsLineTaken (draft i None None None None None None None) (map_lines t.system) (draft i (Some t.system.unit) (Some t.system.product) (Some t.system.inverse) (Some t.system.action) None None None)
  maps-taken i =
      let p : ℕ = t.system.p in
      let u : Option (List ℕ) = Some t.system.unit in
      let m : Option (List Poly) = Some t.system.product in
      let v : Option (List Poly) = Some t.system.inverse in
      let factors : List (List ℕ) = copies 2 t.system.group in
      let both : List (List ℕ) = t.system.group ++ t.system.space in
      let d0 : Draft = draft i None None None None None None None in
      let d1 : Draft = draft i u None None None None None None in
      let d2 : Draft = draft i u m None None None None None in
      let d3 : Draft = draft i u m v None None None None in
      chained (taken d0 d1 (line_text (codes "unit") (numbers_text t.system.unit)) AtUnit (numbers_text t.system.unit) maps-are.0 (head-unit (numbers_text t.system.unit) unit-rest) refl
      (subst (λ cs. IsRestTaken d0 (numbers_text t.system.unit) AtUnit (draft i (Some cs) None None None None None None)) (constants-back p parts.listed t.system.unit)
      (polynomials-taken d0 AtUnit (map decimal t.system.unit) (map as_polynomial t.system.unit) TellsPolynomials.unit_line unit-some (as-many (length t.system.group) (length (map as_polynomial t.system.unit)) (length-map t.system.unit as_polynomial ∙ parts.unit_count)) unit-texts)))
      (chained (taken d1 d2 (line_text (codes "product") (polynomials_text p factors t.system.product)) Product (polynomials_text p factors t.system.product) maps-are.1.0 (head-product (polynomials_text p factors t.system.product) product-rest) refl
      (polynomials-taken d1 Product (map (poly_text p factors) t.system.product) t.system.product TellsPolynomials.product_line (omega (arith, parts.product_count, l-some)) (as-many (length t.system.group) (length t.system.product) parts.product_count) product-texts))
      (chained (taken d2 d3 (line_text (codes "inverse") (polynomials_text p t.system.group t.system.inverse)) Inverse (polynomials_text p t.system.group t.system.inverse) maps-are.1.1.0 (head-inverse (polynomials_text p t.system.group t.system.inverse) inverse-rest) refl
      (polynomials-taken d2 Inverse (map (poly_text p t.system.group) t.system.inverse) t.system.inverse TellsPolynomials.inverse_line (omega (arith, parts.inverse_count, l-some)) (as-many (length t.system.group) (length t.system.inverse) parts.inverse_count) inverse-texts))
      (taken d3 (draft i u m v (Some t.system.action) None None None) (line_text (codes "action") (polynomials_text p both t.system.action)) Action (polynomials_text p both t.system.action) maps-are.1.1.1.0 (head-action (polynomials_text p both t.system.action) action-rest) refl
      (polynomials-taken d3 Action (map (poly_text p both) t.system.action) t.system.action TellsPolynomials.action_line (omega (arith, parts.action_count, n-some)) (as-many (length t.system.space) (length t.system.action) parts.action_count) action-texts))))

  section-taken : (i : Option (List Poly)) (u : Option (List ℕ)) (m v a : Option (List Poly)) → AreTaken IsLineTaken (draft i u m v a None None None) (section_lines t.system) (draft i u m v a (told_list t.system.section) None None)
  unfolding told_list
  section-taken i u m v a = by (length t.system.section == 0) refl section-are
    where
      by : (b : Bool) → (length t.system.section == 0) ≡ b → AreLines (if b then [] else line_text (codes "section") (polynomials_text t.system.p t.system.space t.system.section) ∷ [])
          → AreTaken IsLineTaken (draft i u m v a None None None) (if b then [] else line_text (codes "section") (polynomials_text t.system.p t.system.space t.system.section) ∷ []) (draft i u m v a (if b then None else Some t.system.section) None None)
      by true e are = AreTaken.none
      by false e are =
          let some : 1 ≤ length t.system.section = grind (arith, nat_tests) in
          let d : Draft = draft i u m v a None None None in
          taken d (draft i u m v a (Some t.system.section) None None) (line_text (codes "section") (polynomials_text t.system.p t.system.space t.system.section)) Section (polynomials_text t.system.p t.system.space t.system.section) are.0
          (head-section (polynomials_text t.system.p t.system.space t.system.section) (section-rest e)) refl
          (polynomials-taken d Section (map (poly_text t.system.p t.system.space) t.system.section) t.system.section TellsPolynomials.section_line some (within 64 (length t.system.section) section-parts.0) section-texts)

  at-most : (bound n : ℕ) → n ≤ bound → nat_le n bound ≡ true
  at-most bound n le = grind (arith, nat_tests)

  pairs-taken : (i : Option (List Poly)) (u : Option (List ℕ)) (m v a c : Option (List Poly)) → AreTaken IsLineTaken (draft i u m v a c None None) (budget_lines (codes "budget pairs") 10000 t.pairs) (draft i u m v a c (told_budget 10000 t.pairs) None)
  unfolding told_budget
  pairs-taken i u m v a c = by (t.pairs == 10000) pairs-are
    where
      by : (b : Bool) → AreLines (if b then [] else line_text (codes "budget pairs") (decimal t.pairs) ∷ [])
          → AreTaken IsLineTaken (draft i u m v a c None None) (if b then [] else line_text (codes "budget pairs") (decimal t.pairs) ∷ []) (draft i u m v a c (if b then None else Some t.pairs) None)
      by true are = AreTaken.none
      by false are = taken (draft i u m v a c None None) (draft i u m v a c (Some t.pairs) None) (line_text (codes "budget pairs") (decimal t.pairs)) Pairs (decimal t.pairs) are.0 (head-pairs (decimal t.pairs) (number-line t.pairs (omega (arith, w.pairs)))) refl
          (number-taken (draft i u m v a c None None) Pairs t.pairs TellsNumber.pairs_line (omega (arith, w.pairs)) (at-most 1000000 t.pairs w.pairs))

  steps-taken : (i : Option (List Poly)) (u : Option (List ℕ)) (m v a c : Option (List Poly)) (x : Option ℕ) → AreTaken IsLineTaken (draft i u m v a c x None) (budget_lines (codes "budget steps") 10000000 t.steps) (draft i u m v a c x (told_budget 10000000 t.steps))
  unfolding told_budget
  steps-taken i u m v a c x = by (t.steps == 10000000) steps-are
    where
      by : (b : Bool) → AreLines (if b then [] else line_text (codes "budget steps") (decimal t.steps) ∷ [])
          → AreTaken IsLineTaken (draft i u m v a c x None) (if b then [] else line_text (codes "budget steps") (decimal t.steps) ∷ []) (draft i u m v a c x (if b then None else Some t.steps))
      by true are = AreTaken.none
      by false are = taken (draft i u m v a c x None) (draft i u m v a c x (Some t.steps)) (line_text (codes "budget steps") (decimal t.steps)) Steps (decimal t.steps) are.0 (head-steps (decimal t.steps) (number-line t.steps (omega (arith, w.steps)))) refl
          (number-taken (draft i u m v a c x None) Steps t.steps TellsNumber.steps_line (omega (arith, w.steps)) (at-most 1000000000 t.steps w.steps))

  -- ---- the whole

  abbrev last : Draft
  last = draft (told_list t.system.ideal) (Some t.system.unit) (Some t.system.product) (Some t.system.inverse) (Some t.system.action) (told_list t.system.section) (told_budget 10000 t.pairs) (told_budget 10000000 t.steps)

  all-taken : AreTaken IsLineTaken blank (written_lines t) last
  all-taken =
      let i : Option (List Poly) = told_list t.system.ideal in
      let u : Option (List ℕ) = Some t.system.unit in
      let m : Option (List Poly) = Some t.system.product in
      let v : Option (List Poly) = Some t.system.inverse in
      let a : Option (List Poly) = Some t.system.action in
      let c : Option (List Poly) = told_list t.system.section in
      chained (chained (chained (chained (chained first-taken ideal-taken) (maps-taken i)) (section-taken i u m v a)) (pairs-taken i u m v a c)) (steps-taken i u m v a c (told_budget 10000 t.pairs))

  all-are : AreLines (written_lines t)
  all-are =
      lines-append (first_lines t.system ++ ideal_lines t.system ++ map_lines t.system ++ section_lines t.system ++ budget_lines (codes "budget pairs") 10000 t.pairs) (budget_lines (codes "budget steps") 10000000 t.steps)
      (lines-append (first_lines t.system ++ ideal_lines t.system ++ map_lines t.system ++ section_lines t.system) (budget_lines (codes "budget pairs") 10000 t.pairs)
      (lines-append (first_lines t.system ++ ideal_lines t.system ++ map_lines t.system) (section_lines t.system)
      (lines-append (first_lines t.system ++ ideal_lines t.system) (map_lines t.system) (lines-append (first_lines t.system) (ideal_lines t.system) first-are ideal-are) maps-are) section-are) pairs-are) steps-are

  -- the parts that a draft may leave out
  rebuilt : List Poly → List Poly → ℕ → ℕ → Told
  rebuilt i c x y = record { system = record t.system { ideal = i; section = c }; pairs = x; steps = y }

  is-told : t ≡ told_by last
  unfolding rebuilt
  is-told =
      ap (λ (i : List Poly). rebuilt i t.system.section t.pairs t.steps) (sym (list-back t.system.ideal))
      ∙ ap (λ (c : List Poly). rebuilt (unwrap_or (told_list t.system.ideal) []) c t.pairs t.steps) (sym (list-back t.system.section))
      ∙ ap (λ (x : ℕ). rebuilt (unwrap_or (told_list t.system.ideal) []) (unwrap_or (told_list t.system.section) []) x t.steps) (sym (budget-back 10000 t.pairs))
      ∙ ap (λ (y : ℕ). rebuilt (unwrap_or (told_list t.system.ideal) []) (unwrap_or (told_list t.system.section) []) (unwrap_or (told_budget 10000 t.pairs) 10000) y) (sym (budget-back 10000000 t.steps))

  -- the text tells the system
  pub written-read : IsSystemText (system_text t) t
  unfolding system_text
  written-read = record {
    draft = last;
    is_text = record {
      good_bytes = text-good (written_lines t) all-are;
      taken = subst (λ ls. AreTaken IsLineTaken blank ls last) (sym (text-contents (written_lines t) all-are)) all-taken;
      whole = refl;
    };
    is = is-told;
  }
