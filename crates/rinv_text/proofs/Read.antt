-- From the passes of the reader to what a text denotes.
use Rattle.std.proofs.Common.{◌≡◌, ℕ, ◌-◌, ◌%◌, ◌<◌, List, [], ◌∷◌, length, get_or, Bool, true, false, not, ◌||◌, nat_le, nat_lt, if◌then◌else◌, bytes_eq, refl, sym, ap, ap₂, subst, ◌∙◌, arith, IsTrue, Option, Some, None}
use Rattle.std.specs.Prelude.{option_and_then}
use Rattle.std.specs.List.{list_any}
use Rattle.std.proofs.Math.Nat.{mod-lt}
use Rattle.std.proofs.lemmas.Bool.Decides.{nat_tests}
use Rattle.rinv_algebra.specs.Residue.{is_listed, residue}
use Rattle.rinv_algebra.specs.Fraction.{Fraction}
use Rattle.rinv_algebra.proofs.ResidueLaws.{modulus_of_listed}
use Rattle.rinv_text.specs.declared.formal.Formal.{Formal}
use Rattle.rinv_text.specs.Tokens.{Placed, kinds, numeral, word, plus, minus, times as star, slash, caret, opening, closing, foreign}
use Rattle.rinv_text.specs.Grammar.{Tree, number, name, negative, sum, difference, product, quotient, power}
use Rattle.rinv_text.specs.Formal.{of_variable, formal, some_part, is_above, is_high, max_formal_degree}
use Rattle.rinv_text.specs.Reading.{Definition, undefined, place_of, variable_named, value, divides_by_zero}
use Rattle.rinv_text.specs.Stops.{first_unknown}
use Rattle.rinv_text.specs.Images.{literal_of, exponent_of}
use Rattle.rinv_text.specs.Meanings.{Meaning, variable_meaning, negative_meaning, sum_meaning, product_meaning, quotient_meaning, power_meaning, within, meanings, defined_meaning, named_at}
use Rattle.rinv_text.proofs.Postfix.{result, both}
use Rattle.rinv_text.proofs.Seen.{place-known}
use Rattle.rinv_text.proofs.Words.{EachWord, EachName}

-- the name has a place among the names
abbrev pub HasPlace : List (List ℕ) → List ℕ → Type 0
HasPlace names w = nat_lt (place_of names w) (length names) ≡ true

-- where no name is unknown, each has its place
pub words-known : (names : List (List ℕ)) (ts : List Placed) → first_unknown names ts ≡ None → EachWord (HasPlace names) (kinds ts)
unfolding first_unknown
words-known names [] e = tt
words-known names ((k, word w) ∷ ts) e = at (list_any (bytes_eq w) names) (place-known names w) (λ f. words-known names ts f) e
  where
    has : nat_le (length names) (place_of names w) ≡ false → HasPlace names w
    has h = grind (arith, nat_tests)

    at : (b : Bool) → nat_le (length names) (place_of names w) ≡ not b → (first_unknown names ts ≡ None → EachWord (HasPlace names) (kinds ts)) → (if b then first_unknown names ts else Some k) ≡ None → HasPlace names w × EachWord (HasPlace names) (kinds ts)
    at true h rest f = (has h, rest f)
    at false h rest f = let clash : Some k ≡ None = f in cc
words-known names ((k, numeral n) ∷ ts) e = words-known names ts e
words-known names ((k, plus) ∷ ts) e = words-known names ts e
words-known names ((k, minus) ∷ ts) e = words-known names ts e
words-known names ((k, star) ∷ ts) e = words-known names ts e
words-known names ((k, slash) ∷ ts) e = words-known names ts e
words-known names ((k, caret) ∷ ts) e = words-known names ts e
words-known names ((k, opening) ∷ ts) e = words-known names ts e
words-known names ((k, closing) ∷ ts) e = words-known names ts e
words-known names ((k, foreign) ∷ ts) e = words-known names ts e

-- ---- parts of an expression that is not too high

either-false : (a b : Bool) → (a || b) ≡ false → (a ≡ false) × (b ≡ false)
either-false true b e = cc
either-false false b e = (refl, e)

pub residue-below : (p : ℕ) → IsTrue (is_listed p) → (n : ℕ) → nat_lt (residue p n) p ≡ true
residue-below p listed n =
    let below : residue p n < p = subst (λ (m : ℕ). n % m < p) (sym (modulus_of_listed p listed)) (mod-lt n (positive p listed)) in
    grind (arith, nat_tests)
  where
    positive : (p : ℕ) → IsTrue (is_listed p) → 0 < p
    positive p h = grind (arith, nat_tests)

or-none : (a : Bool) → (a || false) ≡ a
or-none true = refl
or-none false = refl

-- what is not above the limits is what it is
within-same : (g : Meaning) → is_above g.numbers ≡ false → within g ≡ Some g
within-same g h = ap (λ (b : Bool). if b then None else Some g) h

module _ (p : ℕ) (listed : IsTrue (is_listed p)) (named : ℕ → Option Meaning) (place : List ℕ → ℕ) (of_name : List ℕ → Formal) (means : List ℕ → Fraction ℕ) where
  -- the name has its meaning at its place
  abbrev pub HasMeaning : List ℕ → Type 0
  HasMeaning w = named (place w) ≡ Some (record { numbers = of_name w; value = means w; by_zero = false })

  -- the meaning of an expression
  abbrev pub meaning_of : Tree → Meaning
  meaning_of t = record { numbers = formal of_name t; value = value p means t; by_zero = divides_by_zero p means t }

  -- one in which nothing is divided beside its parts
  plainly : (f : Formal) (x : Fraction ℕ) (b : Bool) → ◌≡◌ {A = Option Meaning} (Some (record { numbers = f; value = x; by_zero = b })) (Some (record { numbers = f; value = x; by_zero = b || false }))
  plainly f x b = ap (λ (c : Bool). Some (record { numbers = f; value = x; by_zero = c })) (sym (or-none b))

  two : (f : Meaning → Meaning → Option Meaning) (x y : Option Meaning) (t u : Tree) → x ≡ Some (meaning_of t) → y ≡ Some (meaning_of u) → both (meanings p named) (literal_of p) place f x y ≡ f (meaning_of t) (meaning_of u)
  two f x y t u e h = ap₂ (λ (a b : Option Meaning). both (meanings p named) (literal_of p) place f a b) e h

  -- the value of the steps of an expression is its fraction
  pub meanings-result : (t : Tree) → is_high of_name t ≡ false → EachName HasMeaning t → result (meanings p named) (literal_of p) place t ≡ Some (meaning_of t)
  unfolding result value formal some_part
  meanings-result (number n) high has = ap (λ (b : Bool). if b then Some (meaning_of (number n)) else None) (residue-below p listed n)
  meanings-result (name w) high has = has
  meanings-result (negative t) high has =
      let (part, own) = either-false (is_high of_name t) _ high in
      ap (λ (o : Option Meaning). option_and_then (meanings p named).negative o) (meanings-result t part has)
      ∙ plainly (formal of_name t) (value p means (negative t)) (divides_by_zero p means t)
  meanings-result (sum t u) high (nt, nu) =
      let (parts, own) = either-false (is_high of_name t || is_high of_name u) _ high in
      let (ht, hu) = either-false (is_high of_name t) (is_high of_name u) parts in
      two (meanings p named).sum _ _ t u (meanings-result t ht nt) (meanings-result u hu nu)
      ∙ within-same (sum_meaning p (meaning_of t) (meaning_of u)) own
      ∙ plainly (formal of_name (sum t u)) (value p means (sum t u)) (divides_by_zero p means t || divides_by_zero p means u)
  meanings-result (difference t u) high (nt, nu) =
      let (parts, own) = either-false (is_high of_name t || is_high of_name u) _ high in
      let (ht, hu) = either-false (is_high of_name t) (is_high of_name u) parts in
      two (meanings p named).difference _ _ t u (meanings-result t ht nt) (meanings-result u hu nu)
      ∙ within-same (sum_meaning p (meaning_of t) (negative_meaning p (meaning_of u))) own
      ∙ plainly (formal of_name (difference t u)) (value p means (difference t u)) (divides_by_zero p means t || divides_by_zero p means u)
  meanings-result (product t u) high (nt, nu) =
      let (parts, own) = either-false (is_high of_name t || is_high of_name u) _ high in
      let (ht, hu) = either-false (is_high of_name t) (is_high of_name u) parts in
      two (meanings p named).product _ _ t u (meanings-result t ht nt) (meanings-result u hu nu)
      ∙ within-same (product_meaning p (meaning_of t) (meaning_of u)) own
      ∙ plainly (formal of_name (product t u)) (value p means (product t u)) (divides_by_zero p means t || divides_by_zero p means u)
  meanings-result (quotient t u) high (nt, nu) =
      let (parts, own) = either-false (is_high of_name t || is_high of_name u) _ high in
      let (ht, hu) = either-false (is_high of_name t) (is_high of_name u) parts in
      two (meanings p named).quotient _ _ t u (meanings-result t ht nt) (meanings-result u hu nu)
      ∙ within-same (quotient_meaning p (meaning_of t) (meaning_of u)) own
  meanings-result (power t k) high has =
      let (part, own) = either-false (is_high of_name t) _ high in
      let (low, above) = either-false (nat_lt max_formal_degree k) (is_above (formal of_name (power t k))) own in
      ap (λ (o : Option Meaning). option_and_then (λ x. (meanings p named).power x (exponent_of k)) o) (meanings-result t part has)
      ∙ ap (λ (j : ℕ). (meanings p named).power (meaning_of t) j) (exact k low)
      ∙ within-same (power_meaning p (meaning_of t) k) above
      ∙ plainly (formal of_name (power t k)) (value p means (power t k)) (divides_by_zero p means t)
    where
      exact : (k : ℕ) → nat_lt max_formal_degree k ≡ false → exponent_of k ≡ k
      exact k h = grind (arith, nat_tests)

-- ---- the meaning of a name at its place

named-variable : (p : ℕ) (count : ℕ) (defs : List Definition) (k : ℕ) → nat_lt k count ≡ true → named_at p count defs k ≡ Some (variable_meaning p k)
named-variable p count defs k h = ap (λ (b : Bool). if b then Some (variable_meaning p k) else if nat_lt (k - count) (length defs) then Some (defined_meaning (get_or defs (k - count) undefined)) else None) h

-- where all names are those of variables
pub variable-named : (p : ℕ) (names : List (List ℕ)) (defs : List Definition) (w : List ℕ) → HasPlace names w → named_at p (length names) defs (place_of names w) ≡ Some (record { numbers = of_variable; value = variable_named p names w; by_zero = false })
variable-named p names defs w h = named-variable p (length names) defs (place_of names w) h
