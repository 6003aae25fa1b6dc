-- What a text denotes, and the first refusal of a text that denotes nothing.
use Rattle.std.specs.Prelude.{◌≡◌, ℕ, ◌+◌, ◌-◌, ◌^◌, ◌⊎◌, List, [], ◌∷◌, ◌++◌, length, codes, Bool, true, false, ◌||◌, nat_le, bytes_eq, if◌then◌else◌, Option, Some, None}
use Rattle.std.specs.List.{list_any}
use Rattle.rinv_algebra.specs.Ring.{IsSame}
use Rattle.rinv_algebra.specs.Residue.{residue_ops}
use Rattle.rinv_algebra.specs.Polynomial.{Polynomial, poly_ops}
use Rattle.rinv_algebra.specs.Fraction.{Fraction}
use Rattle.rinv_frac.specs.Cancelling.{IsCancelled}
use Rattle.rinv_text.specs.declared.formal.Formal.{Formal}
use Rattle.rinv_text.specs.declared.fault.TextFault.{TextFault}
use Rattle.rinv_text.specs.declared.fault.TextCode.{TextCode}
use Rattle.rinv_text.specs.declared.fault.TextCode.TheVariants.{Expression, Name, Limit, FormalDegree, FormalTerms, ZeroDenominator}
use Rattle.rinv_text.specs.Tokens.{Token, numeral, word, opening, closing, Placed, kinds, tokens, fraction_tokens}
use Rattle.rinv_text.specs.Grammar.{Tree, Derives, expression, Begins}
use Rattle.rinv_text.specs.Formal.{of_variable, formal, is_high, is_long}
use Rattle.rinv_text.specs.Reading.{Definition, variable_named, known_names, meaning, formal_of, value, divides_by_zero}

-- the tokens, before a text's end, are no expression: the place is that of the first with which those so far begin none, or the end
pub data AreMalformed (ts : List Placed) (end : ℕ) : ℕ → Type 0 where
  unexpected : (before : List Placed) (place : ℕ) (token : Token) (after : List Placed) →
      ts ≡ before ++ (place, token) ∷ after →
      Begins (kinds before) → ¬ (Begins (kinds before ++ token ∷ [])) → AreMalformed ts end place
  unfinished : Begins (kinds ts) → ((t : Tree) → ¬ (Derives expression (kinds ts) t)) → AreMalformed ts end end

-- the tokens are the expression
abbrev pub AreExpression : List Placed → Tree → Type 0
AreExpression ts t = Derives expression (kinds ts) t

-- ---- the refusals of an expression

-- a name is known where it is one of the names
abbrev pub is_known : List (List ℕ) → Token → Bool
is_known names (word w) = list_any (bytes_eq w) names
is_known names _ = true

-- the place of the first name that is not known
unfoldable pub first_unknown : List (List ℕ) → List Placed → Option ℕ
first_unknown names [] = None
first_unknown names ((place, token) ∷ ts) = if is_known names token then first_unknown names ts else Some place

-- a number of 2^128 or more
abbrev pub is_too_great : Token → Bool
is_too_great (numeral n) = nat_le (2 ^ 128) n
is_too_great _ = false

-- how many parentheses may stand in one another
abbrev pub max_nesting : ℕ
max_nesting = 100

-- how many parentheses are open after the token
abbrev pub nesting_after : ℕ → Token → ℕ
nesting_after nesting opening = nesting + 1
nesting_after nesting closing = nesting - 1
nesting_after nesting _ = nesting

-- whether a number is too great, or parentheses stand too deep in one another
unfoldable pub is_past_limit : (nesting : ℕ) → List Token → Bool
is_past_limit nesting [] = false
is_past_limit nesting (token ∷ ts) =
    is_too_great token || nat_le (max_nesting + 1) (nesting_after nesting token) || is_past_limit (nesting_after nesting token) ts

-- the place of the first token
abbrev pub start : List Placed → ℕ
start [] = 0
start (t ∷ ts) = t.0

-- what is too great, in the order of the refusals, with the formal numbers of the names, and a division by zero last
abbrev pub excess : (List ℕ → Formal) → Bool → List Token → Tree → Option TextCode
excess of_name by_zero ts t =
    if is_past_limit 0 ts then Some Limit
    else if is_high of_name t then Some FormalDegree
    else if is_long of_name t then Some FormalTerms
    else if by_zero then Some ZeroDenominator
    else None

-- a name that is not known comes before what is too great, which has the place of the first token
abbrev pub refusal_by : List Placed → Option ℕ → Option TextCode → Option TextFault
refusal_by ts (Some place) found = Some (record { place = place; code = Name })
refusal_by ts None (Some code) = Some (record { place = start ts; code = code })
refusal_by ts None None = None

-- the first refusal of an expression, if it has one: of a polynomial, in which each name is a variable and nothing is divided; and of a fraction
unfoldable pub refusal : List (List ℕ) → List Placed → Tree → Option TextFault
refusal names ts t = refusal_by ts (first_unknown names ts) (excess (λ w. of_variable) false (kinds ts) t)

unfoldable pub fraction_refusal : ℕ → List (List ℕ) → List Definition → List Placed → Tree → Option TextFault
fraction_refusal p names defs ts t = refusal_by ts (first_unknown (known_names names defs) ts) (excess (formal_of names defs) (divides_by_zero p (meaning p names defs) t) (kinds ts) t)

-- tokens that are no expression, or one that is refused: this is their first fault
pub data AreRefused (refused_at : Tree → Option TextFault) (ts : List Placed) (end : ℕ) : TextFault → Type 0 where
  malformed : {place : ℕ} → AreMalformed ts end place → AreRefused refused_at ts end (record { place = place; code = Expression })
  refused : {fault : TextFault} → (t : Tree) → AreExpression ts t → refused_at t ≡ Some fault → AreRefused refused_at ts end fault

-- tokens have one reading or one refusal, and not both
pub record HaveOneReading (refused_at : Tree → Option TextFault) (ts : List Placed) (end : ℕ) : Type 0 where
  pub one_tree : (t u : Tree) → AreExpression ts t → AreExpression ts u → t ≡ u
  pub one_fault : (a b : TextFault) → AreRefused refused_at ts end a → AreRefused refused_at ts end b → a ≡ b
  pub not_both : (t : Tree) (a : TextFault) → AreExpression ts t → refused_at t ≡ None → ¬ (AreRefused refused_at ts end a)
  pub read_or_refused : ((t : Tree) × AreExpression ts t × (refused_at t ≡ None)) ⊎ ((a : TextFault) × AreRefused refused_at ts end a)

-- ---- the text of a polynomial

-- the text is the expression
abbrev pub IsExpression : List ℕ → Tree → Type 0
IsExpression text t = AreExpression (tokens text) t

-- it is none: this is the place of its first fault
abbrev pub IsMalformed : List ℕ → ℕ → Type 0
IsMalformed text place = AreMalformed (tokens text) (length text) place

-- the text is an expression that is not refused, with this value modulo p
pub record Denotes (p : ℕ) (names : List (List ℕ)) (text : List ℕ) (f : Polynomial ℕ) : Type 0 where
  pub tree : Tree
  pub derived : IsExpression text tree
  pub accepted : refusal names (tokens text) tree ≡ None
  pub same : IsSame (poly_ops (residue_ops p)) f (value p (variable_named p names) tree).0

-- the first fault of the text
abbrev pub IsRefused : List (List ℕ) → List ℕ → TextFault → Type 0
IsRefused names text fault = AreRefused (refusal names (tokens text)) (tokens text) (length text) fault

abbrev pub HasOneReading : List (List ℕ) → List ℕ → Type 0
HasOneReading names text = HaveOneReading (refusal names (tokens text)) (tokens text) (length text)

-- ---- the text of a fraction

-- the tokens are an expression that is not refused, f is its value, cancelled, and these are its formal numbers
pub record AreFraction (p : ℕ) (names : List (List ℕ)) (defs : List Definition) (ts : List Placed) (f : Fraction ℕ) (numbers : Formal) : Type 0 where
  pub tree : Tree
  pub derived : AreExpression ts tree
  pub accepted : fraction_refusal p names defs ts tree ≡ None
  pub cancelled : IsCancelled (residue_ops p) (value p (meaning p names defs) tree) f
  pub formal : numbers ≡ formal (formal_of names defs) tree

-- the text denotes the fraction f
abbrev pub DenotesFraction : ℕ → List (List ℕ) → List Definition → List ℕ → Fraction ℕ → Formal → Type 0
DenotesFraction p names defs text f numbers = AreFraction p names defs (fraction_tokens text) f numbers

-- the first fault of the text
abbrev pub IsRefusedFraction : ℕ → List (List ℕ) → List Definition → List ℕ → TextFault → Type 0
IsRefusedFraction p names defs text fault = AreRefused (fraction_refusal p names defs (fraction_tokens text)) (fraction_tokens text) (length text) fault

abbrev pub HasOneFraction : ℕ → List (List ℕ) → List Definition → List ℕ → Type 0
HasOneFraction p names defs text = HaveOneReading (fraction_refusal p names defs (fraction_tokens text)) (fraction_tokens text) (length text)

-- ---- two fractions with the word `by` between them

-- the word stands behind a whole expression; it may be a name elsewhere, since no name stands behind an expression
pub record SplitsAt (ts before : List Placed) (place : ℕ) (after : List Placed) : Type 0 where
  pub tokens : ts ≡ before ++ (place, word (codes "by")) ∷ after
  pub whole : (t : Tree) × AreExpression before t
