-- How the rest of a line is refused, as a function of the rest.
use Rattle.std.proofs.Common.{◌≡◌, ◌⊎◌, inl, inr, ℕ, ◌<◌, List, [], ◌∷◌, ◌++◌, length, Bool, true, false, ◌&&◌, nat_lt, nat_le, IsTrue, Option, Some, None, if◌then◌else◌, refl, sym, ap, ◌∙◌, append_assoc, arith}
use Rattle.std.specs.List.{All, Any, list_all}
use Rattle.std.proofs.lemmas.Bool.Decides.{nat_tests}
use Rattle.rinv_algebra.specs.Residue.{is_listed}
use Rattle.rinv_defs.specs.Names.{are_names}
use Rattle.rinv_ring.specs.declared.modulus.FieldFault.TheVariants.{TooSmall, TooLarge, NotListed}
use Rattle.rinv_text.specs.declared.fault.TextCode.TheVariants.{Expression, Name, Limit}
use Rattle.rinv_text.specs.Tokens.{number_of}
use Rattle.rinv_text.proofs.NamesInTurn.{are_names-push, are_names-front}
use Rattle.rinv_system.specs.declared.keyword.Keyword.{Keyword}
use Rattle.rinv_system.specs.declared.keyword.Keyword.TheVariants.{Field, Group, Space, Pairs, Steps}
use Rattle.rinv_system.specs.declared.refused.Code.{Code}
use Rattle.rinv_system.specs.declared.refused.Code.TheVariants.{Field as InField, Text}
use Rattle.rinv_system.specs.Entries.{entries_of, words_of, is_name_word, is_numeral}
use Rattle.rinv_system.specs.Drafts.{Draft, group_names, names_for, length_fault}
use Rattle.rinv_system.specs.Forms.{IsFieldFault, HasOldName, IsSomeExpression, TellsNumber, TellsNames, TellsPolynomials, IsRestRefused, IsRestTaken, is_number_for, max_pairs, max_steps}
use Rattle.rinv_system.proofs.GoodNames.{AreNewNames-form, new-swapped}
use Rattle.rinv_system.proofs.ListFacts.{AreEntries-accepted}
use Rattle.rinv_system.proofs.FirstFaults.{all_decided, not_all, first_fault, first-is, none-first}

-- the first, or else the second
abbrev or_else : Option Code → Option Code → Option Code
or_else (Some code) later = Some code
or_else None later = later

-- ---- numbers

modulus_fault : ℕ → Option Code
modulus_fault n =
    if nat_le 340282366920938463463374607431768211456 n then Some (Text Limit) else if nat_lt n 2 then Some (InField TooSmall) else if nat_lt 32003 n then Some (InField TooLarge) else if is_listed n then None else Some (InField NotListed)

number_fault : Keyword → ℕ → Option Code
number_fault Field n = modulus_fault n
number_fault Pairs n = if nat_lt 1000000 n then Some (Text Limit) else None
number_fault Steps n = if nat_lt 1000000000 n then Some (Text Limit) else None
number_fault k n = None

modulus-is : (n : ℕ) (code : Code) → IsFieldFault n code → modulus_fault n ≡ Some code
unfolding modulus_fault
modulus-is n _ (IsFieldFault.past_literals h) = let e : nat_le 340282366920938463463374607431768211456 n ≡ true = grind (arith, nat_tests) in rw e refl
modulus-is n _ (IsFieldFault.too_small h) =
    let e : nat_le 340282366920938463463374607431768211456 n ≡ false = grind (arith, nat_tests) in let f : nat_lt n 2 ≡ true = grind (arith, nat_tests) in rw (e, f) refl
modulus-is n _ (IsFieldFault.too_large h few) =
    let e : nat_le 340282366920938463463374607431768211456 n ≡ false = grind (arith, nat_tests) in let f : nat_lt n 2 ≡ false = grind (arith, nat_tests) in let g : nat_lt 32003 n ≡ true = grind (arith, nat_tests) in rw (e, f, g) refl
modulus-is n _ (IsFieldFault.not_listed low high other) =
    let e : nat_le 340282366920938463463374607431768211456 n ≡ false = grind (arith, nat_tests) in let f : nat_lt n 2 ≡ false = grind (arith, nat_tests) in let g : nat_lt 32003 n ≡ false = grind (arith, nat_tests) in
    ap (λ (b : Bool). if b then Some (Text Limit) else if nat_lt n 2 then Some (InField TooSmall) else if nat_lt 32003 n then Some (InField TooLarge) else if is_listed n then None else Some (InField NotListed)) e
    ∙ ap (λ (b : Bool). if b then Some (InField TooSmall) else if nat_lt 32003 n then Some (InField TooLarge) else if is_listed n then None else Some (InField NotListed)) f
    ∙ ap (λ (b : Bool). if b then Some (InField TooLarge) else if is_listed n then None else Some (InField NotListed)) g
    ∙ ap (λ (b : Bool). if b then None else Some (InField NotListed)) other

listed-none : (n : ℕ) → IsTrue (is_listed n) → modulus_fault n ≡ None
unfolding modulus_fault
listed-none n h =
    let e : nat_le 340282366920938463463374607431768211456 n ≡ false = grind (arith, nat_tests) in let f : nat_lt n 2 ≡ false = grind (arith, nat_tests) in let g : nat_lt 32003 n ≡ false = grind (arith, nat_tests) in
    ap (λ (b : Bool). if b then Some (Text Limit) else if nat_lt n 2 then Some (InField TooSmall) else if nat_lt 32003 n then Some (InField TooLarge) else if is_listed n then None else Some (InField NotListed)) e
    ∙ ap (λ (b : Bool). if b then Some (InField TooSmall) else if nat_lt 32003 n then Some (InField TooLarge) else if is_listed n then None else Some (InField NotListed)) f
    ∙ ap (λ (b : Bool). if b then Some (InField TooLarge) else if is_listed n then None else Some (InField NotListed)) g
    ∙ ap (λ (b : Bool). if b then None else Some (InField NotListed)) h

past : (bound n : ℕ) → bound < n → (if nat_lt bound n then Some (Text Limit) else None) ≡ Some (Text Limit)
past bound n h = ap (λ (b : Bool). if b then Some (Text Limit) else None) (let e : nat_lt bound n ≡ true = grind (arith, nat_tests) in e)

within : (bound n : ℕ) → nat_le n bound ≡ true → (if nat_lt bound n then Some (Text Limit) else None) ≡ None
within bound n h = ap (λ (b : Bool). if b then Some (Text Limit) else None) (let e : nat_lt bound n ≡ false = grind (arith, nat_tests) in e)

-- ---- names

old-names : (earlier ws : List (List ℕ)) → HasOldName earlier ws → are_names earlier ws ≡ false
old-names earlier ws (HasOldName.old before w after split news bad) =
    ap (are_names earlier) (split ∙ sym (append_assoc before (w ∷ []) after))
    ∙ are_names-front earlier (before ++ w ∷ []) after (are_names-push earlier before w ∙ ap (λ t. are_names earlier before && t) (new-swapped before earlier w ∙ bad) ∙ off (are_names earlier before))
  where
    off : (b : Bool) → (b && false) ≡ false
    off true = refl
    off false = refl

-- ---- the rest of a line

names_fault : Draft → Keyword → List (List ℕ) → List ℕ → Option Code
names_fault d k earlier rest =
    if list_all is_name_word (words_of rest) then or_else (length_fault d k (length (words_of rest))) (if are_names earlier (words_of rest) then None else Some (Text Name)) else Some (Text Expression)

polynomials_by : Draft → Keyword → (es : List (List ℕ)) → (All IsSomeExpression es) ⊎ (Any (λ e. ¬ (IsSomeExpression e)) es) → Option Code
polynomials_by d k es (inl all) = or_else (length_fault d k (length es)) (first_fault (names_for d k) es)
polynomials_by d k es (inr some) = Some (Text Expression)

polynomials_fault : Draft → Keyword → List ℕ → Option Code
polynomials_fault d k rest = polynomials_by d k (entries_of rest) (all_decided (entries_of rest))

numeral_fault : Keyword → List ℕ → Option Code
numeral_fault k rest = if is_numeral rest then number_fault k (number_of rest) else Some (Text Expression)

pub rest_fault : Draft → List ℕ → Keyword → Option Code
rest_fault d rest Field = numeral_fault Field rest
rest_fault d rest Pairs = numeral_fault Pairs rest
rest_fault d rest Steps = numeral_fault Steps rest
rest_fault d rest Group = names_fault d Group [] rest
rest_fault d rest Space = names_fault d Space (group_names d) rest
rest_fault d rest k = polynomials_fault d k rest

at-number : (d : Draft) (rest : List ℕ) {k : Keyword} → TellsNumber k → rest_fault d rest k ≡ numeral_fault k rest
unfolding rest_fault
at-number d rest TellsNumber.field_line = refl
at-number d rest TellsNumber.pairs_line = refl
at-number d rest TellsNumber.steps_line = refl

at-names : (d : Draft) (rest : List ℕ) {k : Keyword} {earlier : List (List ℕ)} → TellsNames d k earlier → rest_fault d rest k ≡ names_fault d k earlier rest
unfolding rest_fault
at-names d rest TellsNames.group_line = refl
at-names d rest TellsNames.space_line = refl

at-polynomials : (d : Draft) (rest : List ℕ) {k : Keyword} → TellsPolynomials k → rest_fault d rest k ≡ polynomials_fault d k rest
unfolding rest_fault
at-polynomials d rest TellsPolynomials.ideal_line = refl
at-polynomials d rest TellsPolynomials.unit_line = refl
at-polynomials d rest TellsPolynomials.product_line = refl
at-polynomials d rest TellsPolynomials.inverse_line = refl
at-polynomials d rest TellsPolynomials.action_line = refl
at-polynomials d rest TellsPolynomials.section_line = refl

no-numeral : (k : Keyword) (rest : List ℕ) → is_numeral rest ≡ false → numeral_fault k rest ≡ Some (Text Expression)
unfolding numeral_fault
no-numeral k rest h = ap (λ (b : Bool). if b then number_fault k (number_of rest) else Some (Text Expression)) h

a-numeral : (k : Keyword) (rest : List ℕ) → is_numeral rest ≡ true → numeral_fault k rest ≡ number_fault k (number_of rest)
unfolding numeral_fault
a-numeral k rest h = ap (λ (b : Bool). if b then number_fault k (number_of rest) else Some (Text Expression)) h

number-none : {k : Keyword} (n : ℕ) → TellsNumber k → IsTrue (is_number_for k n) → number_fault k n ≡ None
unfolding number_fault
number-none n TellsNumber.field_line h = listed-none n h
number-none n TellsNumber.pairs_line h = within 1000000 n h
number-none n TellsNumber.steps_line h = within 1000000000 n h

field-number : (n : ℕ) (code : Code) → IsFieldFault n code → number_fault Field n ≡ Some code
unfolding number_fault
field-number n code h = modulus-is n code h

pairs-number : (n : ℕ) → max_pairs < n → number_fault Pairs n ≡ Some (Text Limit)
unfolding number_fault
pairs-number n h = past 1000000 n h

steps-number : (n : ℕ) → max_steps < n → number_fault Steps n ≡ Some (Text Limit)
unfolding number_fault
steps-number n h = past 1000000000 n h

module _ (d : Draft) (k : Keyword) (earlier : List (List ℕ)) (rest : List ℕ) where
  no-words : list_all is_name_word (words_of rest) ≡ false → names_fault d k earlier rest ≡ Some (Text Expression)
  unfolding names_fault
  no-words h = ap (λ (b : Bool). if b then or_else (length_fault d k (length (words_of rest))) (if are_names earlier (words_of rest) then None else Some (Text Name)) else Some (Text Expression)) h

  some-words : (o : Option Code) (new : Bool) → list_all is_name_word (words_of rest) ≡ true → length_fault d k (length (words_of rest)) ≡ o → are_names earlier (words_of rest) ≡ new → names_fault d k earlier rest ≡ or_else o (if new then None else Some (Text Name))
  unfolding names_fault
  some-words o new h e n =
      ap (λ (b : Bool). if b then or_else (length_fault d k (length (words_of rest))) (if are_names earlier (words_of rest) then None else Some (Text Name)) else Some (Text Expression)) h
      ∙ ap (λ (l : Option Code). or_else l (if are_names earlier (words_of rest) then None else Some (Text Name))) e ∙ ap (λ (b : Bool). or_else o (if b then None else Some (Text Name))) n

no-expression : (d : Draft) (k : Keyword) (es : List (List ℕ)) (r : (All IsSomeExpression es) ⊎ (Any (λ e. ¬ (IsSomeExpression e)) es)) → Any (λ e. ¬ (IsSomeExpression e)) es → polynomials_by d k es r ≡ Some (Text Expression)
unfolding polynomials_by
no-expression d k es (inl all) some = not_all es all some
no-expression d k es (inr some') some = refl

all-expressions : (d : Draft) (k : Keyword) (es : List (List ℕ)) (r : (All IsSomeExpression es) ⊎ (Any (λ e. ¬ (IsSomeExpression e)) es)) (o later : Option Code) → All IsSomeExpression es → length_fault d k (length es) ≡ o → first_fault (names_for d k) es ≡ later → polynomials_by d k es r ≡ or_else o later
unfolding polynomials_by
all-expressions d k es (inr some) o later all e f = not_all es all some
all-expressions d k es (inl all') o later all e f = ap (λ (l : Option Code). or_else l (first_fault (names_for d k) es)) e ∙ ap (or_else o) f

-- what is refused
pub refused-rest : (d : Draft) (rest : List ℕ) (k : Keyword) (code : Code) → IsRestRefused d rest k code → rest_fault d rest k ≡ Some code
unfolding polynomials_fault
refused-rest d rest k _ (IsRestRefused.no_number tells h) = at-number d rest tells ∙ no-numeral k rest h
refused-rest d rest _ code (IsRestRefused.no_modulus h f) = at-number d rest TellsNumber.field_line ∙ a-numeral Field rest h ∙ field-number (number_of rest) code f
refused-rest d rest _ _ (IsRestRefused.many_pairs h f) = at-number d rest TellsNumber.pairs_line ∙ a-numeral Pairs rest h ∙ pairs-number (number_of rest) f
refused-rest d rest _ _ (IsRestRefused.many_steps h f) = at-number d rest TellsNumber.steps_line ∙ a-numeral Steps rest h ∙ steps-number (number_of rest) f
refused-rest d rest k _ (IsRestRefused.no_names {earlier = earlier} tells h) = at-names d rest tells ∙ no-words d k earlier rest h
refused-rest d rest k code (IsRestRefused.many_names {earlier = earlier} tells h e) = at-names d rest tells ∙ some-words d k earlier rest (Some code) _ h e refl
refused-rest d rest k _ (IsRestRefused.old_name {earlier = earlier} tells h e stands) = at-names d rest tells ∙ some-words d k earlier rest None false h e (old-names earlier (words_of rest) stands)
refused-rest d rest k _ (IsRestRefused.no_expression tells some) = at-polynomials d rest tells ∙ no-expression d k (entries_of rest) _ some
refused-rest d rest k code (IsRestRefused.wrong_length tells all e) = at-polynomials d rest tells ∙ all-expressions d k (entries_of rest) _ (Some code) _ all e refl
refused-rest d rest k code (IsRestRefused.entry_fault tells all e fault) = at-polynomials d rest tells ∙ all-expressions d k (entries_of rest) _ None (Some code) all e (first-is (names_for d k) (entries_of rest) code fault)

-- what is taken
pub taken-rest : (d : Draft) (rest : List ℕ) (k : Keyword) (next : Draft) → IsRestTaken d rest k next → rest_fault d rest k ≡ None
unfolding polynomials_fault
taken-rest d rest k _ (IsRestTaken.a_number tells h is) = at-number d rest tells ∙ a-numeral k rest h ∙ number-none (number_of rest) tells is
taken-rest d rest k _ (IsRestTaken.some_names {earlier = earlier} tells h e new) = at-names d rest tells ∙ some-words d k earlier rest None true h e (AreNewNames-form new)
taken-rest d rest k _ (IsRestTaken.some_polynomials tells e are) =
    let accepted = AreEntries-accepted _ (names_for d k) are in
    at-polynomials d rest tells ∙ all-expressions d k (entries_of rest) _ None None (λ i x lt. let a = accepted i x lt in (a.0, a.1)) e (none-first (names_for d k) (entries_of rest) accepted)
