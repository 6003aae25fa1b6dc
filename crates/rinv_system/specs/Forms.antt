-- What the rest of a line tells after the lines so far, and how it is refused.
use Rattle.std.specs.Prelude.{◌≡◌, ℕ, ◌<◌, ◌≤◌, ◌^◌, List, [], ◌∷◌, ◌++◌, length, All, Any, IsTrue, IsFalse, Bool, false, nat_lt, nat_le, map, Some, None}
use Rattle.std.specs.List.{list_all}
use Rattle.rinv_algebra.specs.Residue.{is_listed, residue_ops}
use Rattle.rinv_algebra.specs.Polynomial.{coefficient}
use Rattle.rinv_algebra.specs.Normal.{IsNormal}
use Rattle.rinv_defs.specs.System.{Poly}
use Rattle.rinv_ring.specs.declared.modulus.FieldFault.TheVariants.{TooSmall, TooLarge, NotListed}
use Rattle.rinv_text.specs.declared.fault.TextFault.{TextFault}
use Rattle.rinv_text.specs.declared.fault.TextCode.TheVariants.{Expression, Name, Limit}
use Rattle.rinv_text.specs.Tokens.{tokens, number_of}
use Rattle.rinv_text.specs.Grammar.{Tree}
use Rattle.rinv_text.specs.Stops.{IsExpression, IsRefused, Denotes, refusal}
use Rattle.rinv_text.specs.Names.{is_new_name}
use Rattle.rinv_system.specs.declared.keyword.Keyword.{Keyword}
use Rattle.rinv_system.specs.declared.keyword.Keyword.TheVariants.{Field, Group, Space, Ideal, Unit, Product, Inverse, Action, Section, Pairs, Steps}
use Rattle.rinv_system.specs.declared.refused.Code.{Code}
use Rattle.rinv_system.specs.declared.refused.Code.TheVariants.{Field as InField, Text}
use Rattle.rinv_system.specs.Entries.{entries_of, words_of, is_name_word, is_numeral}
use Rattle.rinv_system.specs.Drafts.{Draft, modulus, group_names, names_for, length_fault}

-- ---- a number

-- a number as a field's modulus, or its fault
pub data IsFieldFault (n : ℕ) : Code → Type 0 where
  past_literals : 2 ^ 128 ≤ n → IsFieldFault n (Text Limit)
  too_small : n < 2 → IsFieldFault n (InField TooSmall)
  too_large : 32003 < n → n < 2 ^ 128 → IsFieldFault n (InField TooLarge)
  not_listed : 2 ≤ n → n ≤ 32003 → IsFalse (is_listed n) → IsFieldFault n (InField NotListed)

-- the greatest number of pairs, and of steps
abbrev pub max_pairs : ℕ
max_pairs = 1000000

abbrev pub max_steps : ℕ
max_steps = 1000000000

-- ---- names

-- the names are new, each behind the earlier ones and those before it
pub data AreNewNames (earlier : List (List ℕ)) : List (List ℕ) → Type 0 where
  none : AreNewNames earlier []
  one_more : {ws : List (List ℕ)} (w : List ℕ) → AreNewNames earlier ws → IsTrue (is_new_name (earlier ++ ws) w) → AreNewNames earlier (ws ++ w ∷ [])

-- some name is the first that is not new
pub data HasOldName (earlier ws : List (List ℕ)) : Type 0 where
  old : (before : List (List ℕ)) (w : List ℕ) (after : List (List ℕ)) → ws ≡ before ++ w ∷ after → AreNewNames earlier before → IsFalse (is_new_name (earlier ++ before) w) → HasOldName earlier ws

-- ---- polynomials

-- a polynomial in its stored form that an entry denotes
pub record IsEntry (p : ℕ) (names : List (List ℕ)) (entry : List ℕ) (f : Poly) : Type 0 where
  pub denotes : Denotes p names entry f
  pub normal : IsNormal (residue_ops p) (λ c. nat_lt c p) (length names) f

-- the entries denote the polynomials, one each
pub data AreEntries (p : ℕ) (names : List (List ℕ)) : List (List ℕ) → List Poly → Type 0 where
  none : AreEntries p names [] []
  one_more : {entries : List (List ℕ)} {fs : List Poly} (entry : List ℕ) (f : Poly) → IsEntry p names entry f → AreEntries p names entries fs → AreEntries p names (entry ∷ entries) (f ∷ fs)

-- an entry is an expression by the grammar
abbrev pub IsSomeExpression : List ℕ → Type 0
IsSomeExpression entry = (t : Tree) × IsExpression entry t

-- the first entry that is refused, behind those that are not
pub data IsFirstFault (names : List (List ℕ)) (entries : List (List ℕ)) : Code → Type 0 where
  first : (before : List (List ℕ)) (entry : List ℕ) (after : List (List ℕ)) (fault : TextFault) → entries ≡ before ++ entry ∷ after
      → All (λ e. (t : Tree) × IsExpression e t × (refusal names (tokens e) t ≡ None)) before
      → IsRefused names entry fault → IsFirstFault names entries (Text fault.code)

-- ---- the three forms of a line

-- a number
pub data TellsNumber : Keyword → Type 0 where
  field_line : TellsNumber Field
  pairs_line : TellsNumber Pairs
  steps_line : TellsNumber Steps

-- names, behind the earlier ones
pub data TellsNames (d : Draft) : Keyword → List (List ℕ) → Type 0 where
  group_line : TellsNames d Group []
  space_line : TellsNames d Space (group_names d)

-- polynomials
pub data TellsPolynomials : Keyword → Type 0 where
  ideal_line : TellsPolynomials Ideal
  unit_line : TellsPolynomials Unit
  product_line : TellsPolynomials Product
  inverse_line : TellsPolynomials Inverse
  action_line : TellsPolynomials Action
  section_line : TellsPolynomials Section

-- the rest of a line is refused; the first refusal in the order grammar, length, entries
pub data IsRestRefused (d : Draft) (rest : List ℕ) : Keyword → Code → Type 0 where
  no_number : {k : Keyword} → TellsNumber k → IsFalse (is_numeral rest) → IsRestRefused d rest k (Text Expression)
  no_modulus : {code : Code} → IsTrue (is_numeral rest) → IsFieldFault (number_of rest) code → IsRestRefused d rest Field code
  many_pairs : IsTrue (is_numeral rest) → max_pairs < number_of rest → IsRestRefused d rest Pairs (Text Limit)
  many_steps : IsTrue (is_numeral rest) → max_steps < number_of rest → IsRestRefused d rest Steps (Text Limit)
  no_names : {k : Keyword} {earlier : List (List ℕ)} → TellsNames d k earlier → IsFalse (list_all is_name_word (words_of rest)) → IsRestRefused d rest k (Text Expression)
  many_names : {k : Keyword} {earlier : List (List ℕ)} {code : Code} → TellsNames d k earlier → IsTrue (list_all is_name_word (words_of rest))
      → length_fault d k (length (words_of rest)) ≡ Some code → IsRestRefused d rest k code
  old_name : {k : Keyword} {earlier : List (List ℕ)} → TellsNames d k earlier → IsTrue (list_all is_name_word (words_of rest))
      → length_fault d k (length (words_of rest)) ≡ None → HasOldName earlier (words_of rest) → IsRestRefused d rest k (Text Name)
  no_expression : {k : Keyword} → TellsPolynomials k → Any (λ e. ¬ (IsSomeExpression e)) (entries_of rest) → IsRestRefused d rest k (Text Expression)
  wrong_length : {k : Keyword} {code : Code} → TellsPolynomials k → All IsSomeExpression (entries_of rest)
      → length_fault d k (length (entries_of rest)) ≡ Some code → IsRestRefused d rest k code
  entry_fault : {k : Keyword} {code : Code} → TellsPolynomials k → All IsSomeExpression (entries_of rest)
      → length_fault d k (length (entries_of rest)) ≡ None → IsFirstFault (names_for d k) (entries_of rest) code → IsRestRefused d rest k code

-- the draft with a part more
abbrev pub with_names : Draft → Keyword → List (List ℕ) → Draft
with_names d Group ws = record d { group = Some ws }
with_names d Space ws = record d { space = Some ws }
with_names d _ ws = d

abbrev pub with_number : Draft → Keyword → ℕ → Draft
with_number d Field n = record d { field = Some n }
with_number d Pairs n = record d { pairs = Some n }
with_number d Steps n = record d { steps = Some n }
with_number d _ n = d

-- the unit is the list of its polynomials' constants
abbrev pub with_polynomials : Draft → Keyword → List Poly → Draft
with_polynomials d Ideal fs = record d { ideal = Some fs }
with_polynomials d Unit fs = record d { unit = Some (map (λ f. coefficient (residue_ops (modulus d)) f []) fs) }
with_polynomials d Product fs = record d { product = Some fs }
with_polynomials d Inverse fs = record d { inverse = Some fs }
with_polynomials d Action fs = record d { action = Some fs }
with_polynomials d Section fs = record d { section = Some fs }
with_polynomials d _ fs = d

-- a number is not refused
abbrev pub is_number_for : Keyword → ℕ → Bool
is_number_for Field n = is_listed n
is_number_for Pairs n = nat_le n max_pairs
is_number_for Steps n = nat_le n max_steps
is_number_for _ n = false

-- the rest of a line is not refused, and makes the draft that follows
pub data IsRestTaken (d : Draft) (rest : List ℕ) : Keyword → Draft → Type 0 where
  a_number : {k : Keyword} → TellsNumber k → IsTrue (is_numeral rest) → IsTrue (is_number_for k (number_of rest)) → IsRestTaken d rest k (with_number d k (number_of rest))
  some_names : {k : Keyword} {earlier : List (List ℕ)} → TellsNames d k earlier → IsTrue (list_all is_name_word (words_of rest))
      → length_fault d k (length (words_of rest)) ≡ None → AreNewNames earlier (words_of rest) → IsRestTaken d rest k (with_names d k (words_of rest))
  some_polynomials : {k : Keyword} {fs : List Poly} → TellsPolynomials k → length_fault d k (length (entries_of rest)) ≡ None
      → AreEntries (modulus d) (names_for d k) (entries_of rest) fs → IsRestTaken d rest k (with_polynomials d k fs)
