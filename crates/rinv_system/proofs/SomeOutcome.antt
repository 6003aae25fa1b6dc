-- A line is taken or refused.
use Rattle.std.proofs.Common.{◌≡◌, ◌⊎◌, inl, inr, ℕ, ◌^◌, List, [], ◌∷◌, ◌++◌, length, IsTrue, Option, Some, None, refl, sym, subst, ap, ◌∙◌, append_assoc, append-nil, arith}
use Rattle.std.specs.List.{All, list_all}
use Rattle.std.proofs.lemmas.Bool.{cases_Bool, cases_lt, le-leb}
use Rattle.std.proofs.lemmas.List.Elements.{All-nil, All-head, All-tail, All-push}
use Rattle.rinv_algebra.specs.Residue.{is_listed}
use Rattle.rinv_defs.specs.System.{Poly}
use Rattle.rinv_ring.specs.declared.modulus.FieldFault.TheVariants.{TooSmall, TooLarge, NotListed}
use Rattle.rinv_text.specs.declared.fault.TextCode.TheVariants.{Expression, Name, Limit}
use Rattle.rinv_text.specs.Tokens.{number_of}
use Rattle.rinv_text.specs.Names.{is_new_name}
use Rattle.rinv_text.proofs.OneReading.{has_one_reading}
use Rattle.rinv_text.proofs.Readable.{has_polynomial}
use Rattle.rinv_system.specs.declared.keyword.Keyword.{Keyword}
use Rattle.rinv_system.specs.declared.keyword.Keyword.TheVariants.{Field, Group, Space, Ideal, Unit as AtUnit, Product, Inverse, Action, Section, Pairs, Steps}
use Rattle.rinv_system.specs.declared.refused.Code.{Code}
use Rattle.rinv_system.specs.declared.refused.Code.TheVariants.{Field as InField, Text, Word}
use Rattle.rinv_system.specs.Words.{head_of}
use Rattle.rinv_system.specs.Entries.{entries_of, words_of, is_name_word, is_numeral}
use Rattle.rinv_system.specs.Drafts.{Draft, modulus, names_for, order_fault, length_fault}
use Rattle.rinv_system.specs.Forms.{IsFieldFault, HasOldName, AreNewNames, AreEntries, IsSomeExpression, IsFirstFault, TellsNumber, TellsNames, TellsPolynomials, IsRestRefused, IsRestTaken, max_pairs, max_steps}
use Rattle.rinv_system.specs.Texts.{IsLineTaken, IsLineRefused}
use Rattle.rinv_system.proofs.FirstFaults.{IsAccepted, all_decided}

-- one element is taken to what stands before the others
moved : {A : Type 0} {all : List A} (before : List A) (x : A) (after : List A) → all ≡ before ++ x ∷ after → all ≡ (before ++ x ∷ []) ++ after
moved before x after e = e ∙ sym (append_assoc before (x ∷ []) after)

-- ---- what stands in a list

field_number : (n : ℕ) → IsTrue (is_listed n) ⊎ ((code : Code) × IsFieldFault n code)
field_number n = elim (cases_lt n (2 ^ 128)) [
  | inr many ↦ inr (Text Limit, IsFieldFault.past_literals many)
  | inl few ↦ elim (cases_lt n 2) [
    | inl small ↦ inr (InField TooSmall, IsFieldFault.too_small small)
    | inr low ↦ elim (cases_lt 32003 n) [
      | inl large ↦ inr (InField TooLarge, IsFieldFault.too_large large few)
      | inr high ↦ elim (cases_Bool (is_listed n)) [
        | inl listed ↦ inl listed
        | inr other ↦ inr (InField NotListed, IsFieldFault.not_listed low high other)
      ]
    ]
  ]
]

-- the words are new names, or one of them is the first that is none
new_or_old : (earlier ws before : List (List ℕ)) → AreNewNames earlier before → (rest : List (List ℕ)) → ws ≡ before ++ rest → AreNewNames earlier ws ⊎ HasOldName earlier ws
new_or_old earlier ws before new [] e = inl (subst (AreNewNames earlier) (sym (e ∙ append-nil before)) new)
new_or_old earlier ws before new (w ∷ after) e = elim (cases_Bool (is_new_name (earlier ++ before) w)) [
  | inl h ↦ new_or_old earlier ws (before ++ w ∷ []) (AreNewNames.one_more w new h) after (moved before w after e)
  | inr h ↦ inr (HasOldName.old before w after e new h)
]

-- the entries are accepted, or one of them is the first that is not
accepted_or_not : (names es before : List (List ℕ)) → All (IsAccepted names) before → (rest : List (List ℕ)) → es ≡ before ++ rest → All (IsAccepted names) es ⊎ ((code : Code) × IsFirstFault names es code)
accepted_or_not names es before all [] e = inl (subst (All (IsAccepted names)) (sym (e ∙ append-nil before)) all)
accepted_or_not names es before all (x ∷ after) e = elim ((has_one_reading names x).read_or_refused) [
  | inl here ↦ accepted_or_not names es (before ++ x ∷ []) (All-push (IsAccepted names) before x all here) after (moved before x after e)
  | inr (fault, r) ↦ inr (Text fault.code, IsFirstFault.first before x after fault e all r)
]

-- entries that are accepted have their polynomials
all_entries : (p : ℕ) (names es : List (List ℕ)) → IsTrue (is_listed p) → All (IsAccepted names) es → (fs : List Poly) × AreEntries p names es fs
all_entries p names [] listed all = ([], AreEntries.none)
all_entries p names (e ∷ es) listed all =
    let (t, derived, none) = All-head (IsAccepted names) e es all in
    let (f, denotes, normal) = has_polynomial p names listed e t derived none in
    let (fs, are) = all_entries p names es listed (All-tail (IsAccepted names) e es all) in
    (f ∷ fs, AreEntries.one_more e f (record { denotes = denotes; normal = normal }) are)

-- ---- the rest of a line

abbrev RestOutcome : Draft → List ℕ → Keyword → Type 0
RestOutcome d rest k = ((next : Draft) × IsRestTaken d rest k next) ⊎ ((code : Code) × IsRestRefused d rest k code)

module _ (d : Draft) (rest : List ℕ) where
  numeral_outcome : {k : Keyword} → TellsNumber k → IsTrue (is_numeral rest) → RestOutcome d rest k
  numeral_outcome TellsNumber.field_line h = elim (field_number (number_of rest)) [
    | inl listed ↦ inl (_, IsRestTaken.a_number TellsNumber.field_line h listed)
    | inr (code, fault) ↦ inr (code, IsRestRefused.no_modulus h fault)
  ]
  numeral_outcome TellsNumber.pairs_line h = elim (cases_lt max_pairs (number_of rest)) [
    | inl many ↦ inr (Text Limit, IsRestRefused.many_pairs h many)
    | inr few ↦ inl (_, IsRestTaken.a_number TellsNumber.pairs_line h (le-leb (number_of rest) max_pairs few))
  ]
  numeral_outcome TellsNumber.steps_line h = elim (cases_lt max_steps (number_of rest)) [
    | inl many ↦ inr (Text Limit, IsRestRefused.many_steps h many)
    | inr few ↦ inl (_, IsRestTaken.a_number TellsNumber.steps_line h (le-leb (number_of rest) max_steps few))
  ]

  number_outcome : {k : Keyword} → TellsNumber k → RestOutcome d rest k
  number_outcome tells = elim (cases_Bool (is_numeral rest)) [
    | inl h ↦ numeral_outcome tells h
    | inr h ↦ inr (Text Expression, IsRestRefused.no_number tells h)
  ]

  names_outcome : {k : Keyword} {earlier : List (List ℕ)} → TellsNames d k earlier → RestOutcome d rest k
  names_outcome {k = k} {earlier = earlier} tells = elim (cases_Bool (list_all is_name_word (words_of rest))) [
    | inl h ↦ by_length (length_fault d k (length (words_of rest))) h refl
    | inr h ↦ inr (Text Expression, IsRestRefused.no_names tells h)
  ]
    where
      by_length : (o : Option Code) → IsTrue (list_all is_name_word (words_of rest)) → length_fault d k (length (words_of rest)) ≡ o → RestOutcome d rest k
      by_length (Some code) h e = inr (code, IsRestRefused.many_names tells h e)
      by_length None h e = elim (new_or_old earlier (words_of rest) [] AreNewNames.none (words_of rest) refl) [
        | inl new ↦ inl (_, IsRestTaken.some_names tells h e new)
        | inr stands ↦ inr (Text Name, IsRestRefused.old_name tells h e stands)
      ]

  module _ (listed : IsTrue (is_listed (modulus d))) where
    polynomials_outcome : {k : Keyword} → TellsPolynomials k → RestOutcome d rest k
    polynomials_outcome {k = k} tells = elim (all_decided (entries_of rest)) [
      | inl all ↦ by_length (length_fault d k (length (entries_of rest))) all refl
      | inr some ↦ inr (Text Expression, IsRestRefused.no_expression tells some)
    ]
      where
        by_length : (o : Option Code) → All IsSomeExpression (entries_of rest) → length_fault d k (length (entries_of rest)) ≡ o → RestOutcome d rest k
        by_length (Some code) all e = inr (code, IsRestRefused.wrong_length tells all e)
        by_length None all e = elim (accepted_or_not (names_for d k) (entries_of rest) [] (All-nil (IsAccepted (names_for d k))) (entries_of rest) refl) [
          | inl accepted ↦ let (fs, are) = all_entries (modulus d) (names_for d k) (entries_of rest) listed accepted in inl (_, IsRestTaken.some_polynomials tells e are)
          | inr (code, fault) ↦ inr (code, IsRestRefused.entry_fault tells all e fault)
        ]

    rest_outcome : (k : Keyword) → RestOutcome d rest k
    rest_outcome Field = number_outcome TellsNumber.field_line
    rest_outcome Pairs = number_outcome TellsNumber.pairs_line
    rest_outcome Steps = number_outcome TellsNumber.steps_line
    rest_outcome Group = names_outcome TellsNames.group_line
    rest_outcome Space = names_outcome TellsNames.space_line
    rest_outcome Ideal = polynomials_outcome TellsPolynomials.ideal_line
    rest_outcome AtUnit = polynomials_outcome TellsPolynomials.unit_line
    rest_outcome Product = polynomials_outcome TellsPolynomials.product_line
    rest_outcome Inverse = polynomials_outcome TellsPolynomials.inverse_line
    rest_outcome Action = polynomials_outcome TellsPolynomials.action_line
    rest_outcome Section = polynomials_outcome TellsPolynomials.section_line

-- ---- a line

abbrev LineOutcome : Draft → List ℕ → Type 0
LineOutcome d line = ((next : Draft) × IsLineTaken d line next) ⊎ ((code : Code) × IsLineRefused d line code)

module _ (d : Draft) (listed : IsTrue (is_listed (modulus d))) where
  filled_outcome : (line : List ℕ) → ¬ (line ≡ []) → LineOutcome d line
  filled_outcome line some = by_head (head_of line) refl
    where
      by_order : (k : Keyword) (rest : List ℕ) → head_of line ≡ Some (k, rest) → (o : Option Code) → order_fault d k ≡ o → LineOutcome d line
      by_order k rest e (Some code) h = inr (code, IsLineRefused.no_place some e h)
      by_order k rest e None h = elim (rest_outcome d rest listed k) [
        | inl (next, taken) ↦ inl (next, IsLineTaken.taken some e h taken)
        | inr (code, refused) ↦ inr (code, IsLineRefused.no_rest some e h refused)
      ]

      by_head : (o : Option (Keyword × List ℕ)) → head_of line ≡ o → LineOutcome d line
      by_head None e = inr (Word, IsLineRefused.no_word some e)
      by_head (Some (k, rest)) e = by_order k rest e (order_fault d k) refl

  pub line_outcome : (line : List ℕ) → LineOutcome d line
  line_outcome [] = inl (d, IsLineTaken.empty refl)
  line_outcome (b ∷ bs) = filled_outcome (b ∷ bs) (λ e. let f : length (b ∷ bs) ≡ 0 = ap length e in omega (arith, f))
