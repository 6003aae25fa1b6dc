-- The tokens of printed polynomials: known, without `/` and parentheses, and where the text has no `*` without it.
--   term-factor        a term whose text has no `*` is a factor
--   place-front        a name among more names
--   plain-words, plain-all_known, all-known    each name is known
--   past-plain         plain tokens open and close no parentheses
use Rattle.std.proofs.Common.{◌≡◌, ℕ, zero, suc, ◌+◌, ◌^◌, List, [], ◌∷◌, ◌++◌, refl, ap, ◌∙◌, Bool, true, false, not, ◌&&◌, ◌||◌, ◌==◌, cond, if◌then◌else◌, nat_le, bytes_eq, None, take}
use Rattle.std.specs.List.{list_all, list_any}
use Rattle.rinv_defs.specs.Names.{is_letter, is_digit}
use Rattle.rinv_text.specs.Tokens.{Token, numeral, word, plus, minus, times, slash, caret, opening, closing, foreign, Placed, kinds, is_blank, number_of, further_length, sign, token_of, token_at, tokens_after}
use Rattle.rinv_text.specs.Grammar.{Tree, factor, term, Derives, a_factor, a_product, a_quotient}
use Rattle.rinv_text.specs.Reading.{place_of}
use Rattle.rinv_text.specs.Stops.{first_unknown, is_known, is_past_limit}
use Rattle.rinv_text.proofs.Words.{EachWord}
use Rattle.rinv_text.proofs.PrintedPhrases.{is_plain}

parts-of : (x y : Bool) → (x && y) ≡ true → (x ≡ true) × (y ≡ true)
parts-of true true e = (refl, refl)
parts-of true false e = cc
parts-of false y e = cc

-- ---- tokens of what is printed

-- a token that is no `*`
abbrev pub no_times : Token → Bool
no_times times = false
no_times _ = true

no-times_sign : (division : Bool) (b : ℕ) → (b == 42) ≡ false → no_times (sign division b) ≡ true
no-times_sign division b off = at (b == 43) (b == 45) (b == 47) division (b == 94) (b == 40) (b == 41)
  where
    at : (x y z d c o l : Bool) → no_times (if x then plus else if y then minus else if (b == 42) then times else if z then (if d then slash else foreign) else if c then caret else if o then opening else if l then closing else foreign) ≡ true
    at true y z d c o l = refl
    at false true z d c o l = refl
    at false false z d c o l = rw off (rest z d c o l)
      where
        rest : (z d c o l : Bool) → no_times (if z then (if d then slash else foreign) else if c then caret else if o then opening else if l then closing else foreign) ≡ true
        rest true true c o l = refl
        rest true false c o l = refl
        rest false d true o l = refl
        rest false d false true l = refl
        rest false d false false true = refl
        rest false d false false false = refl

no-times_token : (division : Bool) (b : ℕ) (bs : List ℕ) → (b == 42) ≡ false → no_times (token_of division b bs) ≡ true
no-times_token division b bs off = at (is_digit b) (is_letter b)
  where
    at : (x y : Bool) → no_times (if x then numeral (number_of (b ∷ bs)) else if y then word (b ∷ bs) else sign division b) ≡ true
    at true y = refl
    at false true = refl
    at false false = no-times_sign division b off

pub either-false : (a b : Bool) → (a || b) ≡ false → (a ≡ false) × (b ≡ false)
either-false true b e = cc
either-false false b e = (refl, e)

-- a text without a `*` has no such token
pub no-times : (division : Bool) (rest place : ℕ) (bs : List ℕ) → list_any (λ b. b == 42) bs ≡ false → list_all no_times (kinds (tokens_after division rest place bs)) ≡ true
unfolding tokens_after
no-times division rest place [] off = refl
no-times division (suc rest) place (b ∷ bs) off = no-times division rest (place + 1) bs (either-false (b == 42) (list_any (λ b. b == 42) bs) off).1
no-times division zero place (b ∷ bs) off =
    let parts = either-false (b == 42) (list_any (λ b. b == 42) bs) off in
    at (is_blank b) (no-times division zero (place + 1) bs parts.1) (rw (no-times_token division b (take (further_length b bs) bs) parts.0) (no-times division (further_length b bs) (place + 1) bs parts.1))
  where
    at : (x : Bool) → list_all no_times (kinds (tokens_after division zero (place + 1) bs)) ≡ true → list_all no_times (token_at division b bs ∷ kinds (tokens_after division (further_length b bs) (place + 1) bs)) ≡ true
        → list_all no_times (kinds (if x then tokens_after division zero (place + 1) bs else (place, token_at division b bs) ∷ tokens_after division (further_length b bs) (place + 1) bs)) ≡ true
    at true e f = e
    at false e f = f

all-second : (test : Token → Bool) (ts : List Token) (k : Token) (us : List Token) → list_all test (ts ++ k ∷ us) ≡ true → test k ≡ true
all-second test [] k us e = (parts-of (test k) (list_all test us) e).0
all-second test (t ∷ ts) k us e = all-second test ts k us (parts-of (test t) (list_all test (ts ++ k ∷ us)) e).1

-- a term without `*` and `/` is a factor
pub term-factor : (names : List (List ℕ)) (ks : List Token) (t : Tree) → list_all no_times ks ≡ true → list_all (is_plain names) ks ≡ true → Derives term ks t → Derives factor ks t
term-factor names _ _ e f (a_factor d) = d
term-factor names _ _ e f (a_product {ts} {us} d g) = let clash : false ≡ true = all-second no_times ts times us e in cc
term-factor names _ _ e f (a_quotient {ts} {us} d g) = let clash : false ≡ true = all-second (is_plain names) ts slash us f in cc

-- ---- known names

any-front : (w : List ℕ) (names more : List (List ℕ)) → list_any (bytes_eq w) names ≡ true → list_any (bytes_eq w) (names ++ more) ≡ true
any-front w [] more e = cc
any-front w (n ∷ names) more e = at (bytes_eq w n) e (λ f. any-front w names more f)
  where
    at : (b : Bool) → (b || list_any (bytes_eq w) names) ≡ true → (list_any (bytes_eq w) names ≡ true → list_any (bytes_eq w) (names ++ more) ≡ true) → (b || list_any (bytes_eq w) (names ++ more)) ≡ true
    at true e f = refl
    at false e f = f e

-- the place of a name among more
pub place-front : (w : List ℕ) (names more : List (List ℕ)) → list_any (bytes_eq w) names ≡ true → place_of (names ++ more) w ≡ place_of names w
place-front w [] more e = cc
place-front w (n ∷ names) more e = at (bytes_eq w n) e (λ f. place-front w names more f)
  where
    at : (b : Bool) → (b || list_any (bytes_eq w) names) ≡ true → (list_any (bytes_eq w) names ≡ true → place_of (names ++ more) w ≡ place_of names w) → cond (not b) (1 + place_of (names ++ more) w) 0 ≡ cond (not b) (1 + place_of names w) 0
    at true e f = refl
    at false e f = ap (λ (k : ℕ). 1 + k) (f e)

-- where each token is known, no name is unknown
pub all-known : (known : List (List ℕ)) (ts : List Placed) → list_all (is_known known) (kinds ts) ≡ true → first_unknown known ts ≡ None
unfolding first_unknown
all-known known [] e = refl
all-known known ((place, k) ∷ ts) e = let parts = parts-of (is_known known k) (list_all (is_known known) (kinds ts)) e in rw parts.0 (all-known known ts parts.1)

pub all-append : (test : Token → Bool) (ks ls : List Token) → list_all test ks ≡ true → list_all test ls ≡ true → list_all test (ks ++ ls) ≡ true
all-append test [] ls e f = f
all-append test (k ∷ ks) ls e f = let parts = parts-of (test k) (list_all test ks) e in rw parts.0 (all-append test ks ls parts.1 f)

module _ (names more : List (List ℕ)) where
  plain-known : (k : Token) → is_plain names k ≡ true → is_known (names ++ more) k ≡ true
  plain-known (word w) e = any-front w names more e
  plain-known (numeral n) e = refl
  plain-known plus e = refl
  plain-known minus e = refl
  plain-known times e = refl
  plain-known slash e = refl
  plain-known caret e = refl
  plain-known opening e = refl
  plain-known closing e = refl
  plain-known foreign e = refl

  pub plain-all_known : (ks : List Token) → list_all (is_plain names) ks ≡ true → list_all (is_known (names ++ more)) ks ≡ true
  plain-all_known [] e = refl
  plain-all_known (k ∷ ks) e = let parts = parts-of (is_plain names k) (list_all (is_plain names) ks) e in rw (plain-known k parts.0) (plain-all_known ks parts.1)

-- each word is one of the names
pub plain-words : (names : List (List ℕ)) (ks : List Token) → list_all (is_plain names) ks ≡ true → EachWord (λ w. list_any (bytes_eq w) names ≡ true) ks
plain-words names [] e = tt
plain-words names (word w ∷ ks) e = let parts = parts-of (list_any (bytes_eq w) names) (list_all (is_plain names) ks) e in (parts.0, plain-words names ks parts.1)
plain-words names (numeral n ∷ ks) e = plain-words names ks (parts-of (not (nat_le (2 ^ 128) n)) (list_all (is_plain names) ks) e).1
plain-words names (plus ∷ ks) e = plain-words names ks e
plain-words names (minus ∷ ks) e = plain-words names ks e
plain-words names (times ∷ ks) e = plain-words names ks e
plain-words names (slash ∷ ks) e = cc
plain-words names (caret ∷ ks) e = plain-words names ks e
plain-words names (opening ∷ ks) e = cc
plain-words names (closing ∷ ks) e = cc
plain-words names (foreign ∷ ks) e = plain-words names ks e

-- ---- parentheses

-- a plain token opens and closes none
past-one : (names : List (List ℕ)) (n : ℕ) → nat_le 101 n ≡ false → (k : Token) (ts : List Token) → is_plain names k ≡ true → is_past_limit n (k ∷ ts) ≡ is_past_limit n ts
unfolding is_past_limit
past-one names n flat (word w) ts e = rw flat refl
past-one names n flat (numeral m) ts e = rw (negated (nat_le (2 ^ 128) m) e, flat) refl
  where
    negated : (b : Bool) → not b ≡ true → b ≡ false
    negated true e = cc
    negated false e = refl
past-one names n flat plus ts e = rw flat refl
past-one names n flat minus ts e = rw flat refl
past-one names n flat times ts e = rw flat refl
past-one names n flat slash ts e = cc
past-one names n flat caret ts e = rw flat refl
past-one names n flat opening ts e = cc
past-one names n flat closing ts e = cc
past-one names n flat foreign ts e = rw flat refl

pub past-plain : (names : List (List ℕ)) (n : ℕ) → nat_le 101 n ≡ false → (ks rest : List Token) → list_all (is_plain names) ks ≡ true → is_past_limit n (ks ++ rest) ≡ is_past_limit n rest
past-plain names n flat [] rest e = refl
past-plain names n flat (k ∷ ks) rest e = let parts = parts-of (is_plain names k) (list_all (is_plain names) ks) e in past-one names n flat k (ks ++ rest) parts.0 ∙ past-plain names n flat ks rest parts.1
