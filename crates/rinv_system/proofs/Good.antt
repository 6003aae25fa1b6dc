-- The drafts that some lines make: the first three lines in their order, and then the others, each part in its form.
use Rattle.std.proofs.Common.{◌≡◌, ℕ, ◌+◌, ◌*◌, ◌≤◌, List, [], length, map, true, ◌&&◌, ◌==◌, IsTrue, nat_lt, nat_le, Some, None, refl, sym, ap, ◌∙◌, arith, length-append}
use Rattle.std.specs.List.{list_all}
use Rattle.std.specs.Option.{IfSome}
use Rattle.std.proofs.lemmas.Bool.Decides.{nat_tests}
use Rattle.std.proofs.lemmas.List.{length-map}
use Rattle.rinv_algebra.specs.Residue.{is_listed, residue_ops}
use Rattle.rinv_algebra.specs.Polynomial.{coefficient}
use Rattle.rinv_algebra.proofs.Same.{and_true}
use Rattle.rinv_defs.specs.System.{Poly}
use Rattle.rinv_defs.specs.Names.{are_names}
use Rattle.rinv_text.specs.Tokens.{number_of}
use Rattle.rinv_system.specs.declared.keyword.Keyword.{Keyword}
use Rattle.rinv_system.specs.declared.refused.Code.{Code}
use Rattle.rinv_system.specs.Entries.{entries_of, words_of}
use Rattle.rinv_system.specs.Drafts.{Draft, blank, modulus, at_most, exactly, order_fault, length_fault, names_for}
use Rattle.rinv_system.specs.Forms.{IsRestTaken, TellsNumber, TellsNames, TellsPolynomials, AreEntries, AreNewNames, with_polynomials}
use Rattle.rinv_system.specs.LineTexts.{AreTaken}
use Rattle.rinv_system.specs.Texts.{IsLineTaken}
use Rattle.rinv_system.proofs.OneReading.{all_good}
use Rattle.rinv_system.proofs.GoodNames.{AreNewNames-form, words_of-some}
use Rattle.rinv_system.proofs.GoodLists.{are_normal, are_so_many, AreEntries-length, AreEntries-normal, at_most-none, exactly-none, length-two_copies, constants-small}

-- 1 to 8 names, behind earlier ones
pub record AreGoodNames (earlier names : List (List ℕ)) : Type 0 where
  pub some : 1 ≤ length names
  pub few : nat_le (length names) 8 ≡ true
  pub form : are_names earlier names ≡ true

-- the field and the names, and the parts that have come, in a draft
pub record HasForm (p : ℕ) (group space : List (List ℕ)) (d : Draft) : Type 0 where
  pub listed : IsTrue (is_listed p)
  pub group_form : AreGoodNames [] group
  pub space_form : AreGoodNames group space
  pub ideal : IfSome d.ideal (λ fs. IsTrue (nat_le (length fs) 64 && are_normal p (length group) fs))
  pub unit : IfSome d.unit (λ cs. IsTrue (length cs == length group && list_all (λ c. nat_lt c p) cs))
  pub product : IfSome d.product (λ fs. IsTrue (are_so_many p (length group) (2 * length group) fs))
  pub inverse : IfSome d.inverse (λ fs. IsTrue (are_so_many p (length group) (length group) fs))
  pub action : IfSome d.action (λ fs. IsTrue (are_so_many p (length space) (length group + length space) fs))
  pub section : IfSome d.section (λ fs. IsTrue (nat_le (length fs) 64 && are_normal p (length space) fs))

-- with the first three lines
abbrev pub with_first : ℕ → List (List ℕ) → List (List ℕ) → Draft → Draft
with_first p group space d = record d { field = Some p; group = Some group; space = Some space }

pub data IsGood : Draft → Type 0 where
  start : IsGood blank
  with_field : (p : ℕ) → IsTrue (is_listed p) → IsGood (record blank { field = Some p })
  with_group : (p : ℕ) (group : List (List ℕ)) → IsTrue (is_listed p) → AreGoodNames [] group → IsGood (record blank { field = Some p; group = Some group })
  begun : (p : ℕ) (group space : List (List ℕ)) (d : Draft) → HasForm p group space d → IsGood (with_first p group space d)

refused : {A : Type 0} (code : Code) → Some code ≡ None → A
refused code e = absurd (cc)

good_names : {earlier : List (List ℕ)} (rest : List ℕ) → at_most 8 (length (words_of rest)) ≡ None → AreNewNames earlier (words_of rest) → AreGoodNames earlier (words_of rest)
good_names rest few new = record { some = words_of-some rest; few = at_most-none 8 (length (words_of rest)) few; form = AreNewNames-form new }

listed-some : (p : ℕ) → IsTrue (is_listed p) → 1 ≤ p
listed-some p h = grind (arith, nat_tests)

so_many : {p : ℕ} {names es : List (List ℕ)} {fs : List Poly} (count v : ℕ) → length names ≡ v → exactly count (length es) ≡ None → AreEntries p names es fs → IsTrue (are_so_many p count v fs)
so_many {p = p} {fs = fs} count v vars right are = and_true (length fs == count) (are_normal p v fs) (ap (λ n. n == count) (AreEntries-length are) ∙ exactly-none count _ right) (ap (λ w. are_normal p w fs) (sym vars) ∙ AreEntries-normal are)

-- ---- a line after the first three

module _ (p : ℕ) (group space : List (List ℕ)) (d : Draft) (form : HasForm p group space d) (rest : List ℕ) where
  polynomials-good : {k : Keyword} (fs : List Poly) → TellsPolynomials k → length_fault (with_first p group space d) k (length (entries_of rest)) ≡ None
      → AreEntries p (names_for (with_first p group space d) k) (entries_of rest) fs → IsGood (with_polynomials (with_first p group space d) k fs)
  polynomials-good fs TellsPolynomials.ideal_line few are =
      IsGood.begun p group space (record d { ideal = Some fs })
      (record { listed = form.listed; group_form = form.group_form; space_form = form.space_form; ideal = and_true (nat_le (length fs) 64) (are_normal p (length group) fs) (ap (λ n. nat_le n 64) (AreEntries-length are) ∙ at_most-none 64 _ few) (AreEntries-normal are); unit = form.unit; product = form.product; inverse = form.inverse; action = form.action; section = form.section })
  polynomials-good fs TellsPolynomials.unit_line right are =
      IsGood.begun p group space (record d { unit = Some (map (λ f. coefficient (residue_ops p) f []) fs) })
      (record {
        listed = form.listed;
        group_form = form.group_form;
        space_form = form.space_form;
        ideal = form.ideal;
        unit = and_true _ _ (ap (λ n. n == length group) (length-map fs (λ f. coefficient (residue_ops p) f []) ∙ AreEntries-length are) ∙ exactly-none (length group) _ right)
            (constants-small p fs (listed-some p form.listed) (AreEntries-normal are));
        product = form.product;
        inverse = form.inverse;
        action = form.action;
        section = form.section;
      })
  polynomials-good fs TellsPolynomials.product_line right are =
      IsGood.begun p group space (record d { product = Some fs }) (record { listed = form.listed; group_form = form.group_form; space_form = form.space_form; ideal = form.ideal; unit = form.unit; product = so_many (length group) (2 * length group) (length-two_copies group) right are; inverse = form.inverse; action = form.action; section = form.section })
  polynomials-good fs TellsPolynomials.inverse_line right are =
      IsGood.begun p group space (record d { inverse = Some fs }) (record { listed = form.listed; group_form = form.group_form; space_form = form.space_form; ideal = form.ideal; unit = form.unit; product = form.product; inverse = so_many (length group) (length group) refl right are; action = form.action; section = form.section })
  polynomials-good fs TellsPolynomials.action_line right are =
      IsGood.begun p group space (record d { action = Some fs }) (record { listed = form.listed; group_form = form.group_form; space_form = form.space_form; ideal = form.ideal; unit = form.unit; product = form.product; inverse = form.inverse; action = so_many (length space) (length group + length space) (length-append group space) right are; section = form.section })
  polynomials-good fs TellsPolynomials.section_line few are =
      IsGood.begun p group space (record d { section = Some fs })
      (record { listed = form.listed; group_form = form.group_form; space_form = form.space_form; ideal = form.ideal; unit = form.unit; product = form.product; inverse = form.inverse; action = form.action; section = and_true (nat_le (length fs) 64) (are_normal p (length space) fs) (ap (λ n. nat_le n 64) (AreEntries-length are) ∙ at_most-none 64 _ few) (AreEntries-normal are) })

  begun-good : (k : Keyword) (next : Draft) → order_fault (with_first p group space d) k ≡ None → IsRestTaken (with_first p group space d) rest k next → IsGood next
  begun-good k next order (IsRestTaken.a_number TellsNumber.field_line numeral is) = refused _ order
  begun-good k next order (IsRestTaken.a_number TellsNumber.pairs_line numeral is) = IsGood.begun p group space (record d { pairs = Some (number_of rest) }) (record { listed = form.listed; group_form = form.group_form; space_form = form.space_form; ideal = form.ideal; unit = form.unit; product = form.product; inverse = form.inverse; action = form.action; section = form.section })
  begun-good k next order (IsRestTaken.a_number TellsNumber.steps_line numeral is) = IsGood.begun p group space (record d { steps = Some (number_of rest) }) (record { listed = form.listed; group_form = form.group_form; space_form = form.space_form; ideal = form.ideal; unit = form.unit; product = form.product; inverse = form.inverse; action = form.action; section = form.section })
  begun-good k next order (IsRestTaken.some_names TellsNames.group_line words few new) = refused _ order
  begun-good k next order (IsRestTaken.some_names TellsNames.space_line words few new) = refused _ order
  begun-good k next order (IsRestTaken.some_polynomials {fs = fs} tells few are) = polynomials-good fs tells few are

-- ---- the first three

start-good : (rest : List ℕ) (k : Keyword) (next : Draft) → order_fault blank k ≡ None → IsRestTaken blank rest k next → IsGood next
start-good rest k next order (IsRestTaken.a_number TellsNumber.field_line numeral is) = IsGood.with_field (number_of rest) is
start-good rest k next order (IsRestTaken.a_number TellsNumber.pairs_line numeral is) = refused _ order
start-good rest k next order (IsRestTaken.a_number TellsNumber.steps_line numeral is) = refused _ order
start-good rest k next order (IsRestTaken.some_names TellsNames.group_line words few new) = refused _ order
start-good rest k next order (IsRestTaken.some_names TellsNames.space_line words few new) = refused _ order
start-good rest k next order (IsRestTaken.some_polynomials TellsPolynomials.ideal_line few are) = refused _ order
start-good rest k next order (IsRestTaken.some_polynomials TellsPolynomials.unit_line few are) = refused _ order
start-good rest k next order (IsRestTaken.some_polynomials TellsPolynomials.product_line few are) = refused _ order
start-good rest k next order (IsRestTaken.some_polynomials TellsPolynomials.inverse_line few are) = refused _ order
start-good rest k next order (IsRestTaken.some_polynomials TellsPolynomials.action_line few are) = refused _ order
start-good rest k next order (IsRestTaken.some_polynomials TellsPolynomials.section_line few are) = refused _ order

field-good : (p : ℕ) → IsTrue (is_listed p) → (rest : List ℕ) (k : Keyword) (next : Draft) → order_fault (record blank { field = Some p }) k ≡ None → IsRestTaken (record blank { field = Some p }) rest k next → IsGood next
field-good p listed rest k next order (IsRestTaken.a_number TellsNumber.field_line numeral is) = refused _ order
field-good p listed rest k next order (IsRestTaken.a_number TellsNumber.pairs_line numeral is) = refused _ order
field-good p listed rest k next order (IsRestTaken.a_number TellsNumber.steps_line numeral is) = refused _ order
field-good p listed rest k next order (IsRestTaken.some_names TellsNames.group_line words few new) = IsGood.with_group p (words_of rest) listed (good_names rest few new)
field-good p listed rest k next order (IsRestTaken.some_names TellsNames.space_line words few new) = refused _ order
field-good p listed rest k next order (IsRestTaken.some_polynomials TellsPolynomials.ideal_line few are) = refused _ order
field-good p listed rest k next order (IsRestTaken.some_polynomials TellsPolynomials.unit_line few are) = refused _ order
field-good p listed rest k next order (IsRestTaken.some_polynomials TellsPolynomials.product_line few are) = refused _ order
field-good p listed rest k next order (IsRestTaken.some_polynomials TellsPolynomials.inverse_line few are) = refused _ order
field-good p listed rest k next order (IsRestTaken.some_polynomials TellsPolynomials.action_line few are) = refused _ order
field-good p listed rest k next order (IsRestTaken.some_polynomials TellsPolynomials.section_line few are) = refused _ order

module _ (p : ℕ) (group : List (List ℕ)) (listed : IsTrue (is_listed p)) (names : AreGoodNames [] group) (rest : List ℕ) where
  group-good : (k : Keyword) (next : Draft) → order_fault (record blank { field = Some p; group = Some group }) k ≡ None → IsRestTaken (record blank { field = Some p; group = Some group }) rest k next → IsGood next
  group-good k next order (IsRestTaken.a_number TellsNumber.field_line numeral is) = refused _ order
  group-good k next order (IsRestTaken.a_number TellsNumber.pairs_line numeral is) = refused _ order
  group-good k next order (IsRestTaken.a_number TellsNumber.steps_line numeral is) = refused _ order
  group-good k next order (IsRestTaken.some_names TellsNames.group_line words few new) = refused _ order
  group-good k next order (IsRestTaken.some_names TellsNames.space_line words few new) =
      IsGood.begun p group (words_of rest) blank (record { listed = listed; group_form = names; space_form = good_names rest few new; ideal = tt; unit = tt; product = tt; inverse = tt; action = tt; section = tt })
  group-good k next order (IsRestTaken.some_polynomials TellsPolynomials.ideal_line few are) = refused _ order
  group-good k next order (IsRestTaken.some_polynomials TellsPolynomials.unit_line few are) = refused _ order
  group-good k next order (IsRestTaken.some_polynomials TellsPolynomials.product_line few are) = refused _ order
  group-good k next order (IsRestTaken.some_polynomials TellsPolynomials.inverse_line few are) = refused _ order
  group-good k next order (IsRestTaken.some_polynomials TellsPolynomials.action_line few are) = refused _ order
  group-good k next order (IsRestTaken.some_polynomials TellsPolynomials.section_line few are) = refused _ order

-- ---- all lines

taken-good : (d next : Draft) (k : Keyword) (rest : List ℕ) → IsGood d → order_fault d k ≡ None → IsRestTaken d rest k next → IsGood next
taken-good d next k rest IsGood.start order taken = start-good rest k next order taken
taken-good d next k rest (IsGood.with_field p listed) order taken = field-good p listed rest k next order taken
taken-good d next k rest (IsGood.with_group p group listed names) order taken = group-good p group listed names rest k next order taken
taken-good d next k rest (IsGood.begun p group space d' form) order taken = begun-good p group space d' form rest k next order taken

-- a line that is taken
pub line-good : (d next : Draft) (line : List ℕ) → IsGood d → IsLineTaken d line next → IsGood next
line-good d next line good (IsLineTaken.empty e) = good
line-good d next line good (IsLineTaken.taken {k = k} {rest = rest} some head order taken) = taken-good d next k rest good order taken

-- each draft that lines make
pub AreTaken-good : {d : Draft} {lines : List (List ℕ)} → AreTaken IsLineTaken blank lines d → IsGood d
AreTaken-good t = all_good IsLineTaken IsGood line-good blank IsGood.start t

pub good-listed : {d : Draft} → IsGood d → IsTrue (is_listed (modulus d))
good-listed IsGood.start = refl
good-listed (IsGood.with_field p listed) = listed
good-listed (IsGood.with_group p group listed names) = listed
good-listed (IsGood.begun p group space d form) = form.listed
