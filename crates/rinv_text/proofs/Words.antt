-- The names in an expression are words among its tokens.
use Rattle.std.proofs.Common.{◌≡◌, ℕ, suc, ◌+◌, List, [], ◌∷◌, ◌++◌, get_or, cond, not, true, false, Bool, refl, sym, bytes_eq, Decides, arith}
use Rattle.std.proofs.lemmas.Slice.Eq.{bytes_eq-Decides}
use Rattle.rinv_text.specs.Tokens.{Token, numeral, word, plus, minus, times, slash, caret, opening, closing, foreign}
use Rattle.rinv_text.specs.Grammar.{Tree, number, name, negative, sum, difference, product, quotient, power, Level, Derives, a_number, a_name, in_parentheses, an_atom, a_power, a_factor, a_product, a_quotient, a_term, with_plus, with_minus, a_sum, a_difference}
use Rattle.rinv_text.specs.Reading.{place_of}

-- each word has the property
abbrev pub EachWord : (List ℕ → Type 0) → List Token → Type 0
EachWord P [] = Unit {0}
EachWord P (word w ∷ ts) = P w × EachWord P ts
EachWord P (_ ∷ ts) = EachWord P ts

-- each name has the property
abbrev pub EachName : (List ℕ → Type 0) → Tree → Type 0
EachName P (number n) = Unit {0}
EachName P (name w) = P w
EachName P (negative t) = EachName P t
EachName P (sum t u) = EachName P t × EachName P u
EachName P (difference t u) = EachName P t × EachName P u
EachName P (product t u) = EachName P t × EachName P u
EachName P (quotient t u) = EachName P t × EachName P u
EachName P (power t k) = EachName P t

module _ (P : List ℕ → Type 0) where
  words-split : (ts us : List Token) → EachWord P (ts ++ us) → EachWord P ts × EachWord P us
  words-split [] us h = (tt, h)
  words-split (word w ∷ ts) us (x, h) = let (a, b) = words-split ts us h in ((x, a), b)
  words-split (numeral n ∷ ts) us h = words-split ts us h
  words-split (plus ∷ ts) us h = words-split ts us h
  words-split (minus ∷ ts) us h = words-split ts us h
  words-split (times ∷ ts) us h = words-split ts us h
  words-split (slash ∷ ts) us h = words-split ts us h
  words-split (caret ∷ ts) us h = words-split ts us h
  words-split (opening ∷ ts) us h = words-split ts us h
  words-split (closing ∷ ts) us h = words-split ts us h
  words-split (foreign ∷ ts) us h = words-split ts us h

  pub derived-names : {l : Level} {ts : List Token} {t : Tree} → Derives l ts t → EachWord P ts → EachName P t
  derived-names (a_number n) h = tt
  derived-names (a_name w) h = h.0
  derived-names (in_parentheses {ts} d) h = derived-names d (words-split ts (closing ∷ []) h).0
  derived-names (an_atom d) h = derived-names d h
  derived-names (a_power {ts} d k) h = derived-names d (words-split ts (caret ∷ numeral k ∷ []) h).0
  derived-names (a_factor d) h = derived-names d h
  derived-names (a_product {ts} {us} d e) h = let (a, b) = words-split ts (times ∷ us) h in (derived-names d a, derived-names e b)
  derived-names (a_quotient {ts} {us} d e) h = let (a, b) = words-split ts (slash ∷ us) h in (derived-names d a, derived-names e b)
  derived-names (a_term d) h = derived-names d h
  derived-names (with_plus d) h = derived-names d h
  derived-names (with_minus d) h = derived-names d h
  derived-names (a_sum {ts} {us} d e) h = let (a, b) = words-split ts (plus ∷ us) h in (derived-names d a, derived-names e b)
  derived-names (a_difference {ts} {us} d e) h = let (a, b) = words-split ts (minus ∷ us) h in (derived-names d a, derived-names e b)

-- a property that follows from another
pub words-weaker : (P Q : List ℕ → Type 0) → ((w : List ℕ) → P w → Q w) → (ts : List Token) → EachWord P ts → EachWord Q ts
words-weaker P Q f [] h = tt
words-weaker P Q f (word w ∷ ts) (x, h) = (f w x, words-weaker P Q f ts h)
words-weaker P Q f (numeral n ∷ ts) h = words-weaker P Q f ts h
words-weaker P Q f (plus ∷ ts) h = words-weaker P Q f ts h
words-weaker P Q f (minus ∷ ts) h = words-weaker P Q f ts h
words-weaker P Q f (times ∷ ts) h = words-weaker P Q f ts h
words-weaker P Q f (slash ∷ ts) h = words-weaker P Q f ts h
words-weaker P Q f (caret ∷ ts) h = words-weaker P Q f ts h
words-weaker P Q f (opening ∷ ts) h = words-weaker P Q f ts h
words-weaker P Q f (closing ∷ ts) h = words-weaker P Q f ts h
words-weaker P Q f (foreign ∷ ts) h = words-weaker P Q f ts h

pub names-weaker : (P Q : List ℕ → Type 0) → ((w : List ℕ) → P w → Q w) → (t : Tree) → EachName P t → EachName Q t
names-weaker P Q f (number n) h = tt
names-weaker P Q f (name w) h = f w h
names-weaker P Q f (negative t) h = names-weaker P Q f t h
names-weaker P Q f (sum t u) (h, k) = (names-weaker P Q f t h, names-weaker P Q f u k)
names-weaker P Q f (difference t u) (h, k) = (names-weaker P Q f t h, names-weaker P Q f u k)
names-weaker P Q f (product t u) (h, k) = (names-weaker P Q f t h, names-weaker P Q f u k)
names-weaker P Q f (quotient t u) (h, k) = (names-weaker P Q f t h, names-weaker P Q f u k)
names-weaker P Q f (power t k) h = names-weaker P Q f t h

-- the words among the tokens
abbrev pub words : List Token → List (List ℕ)
words [] = []
words (word w ∷ ts) = w ∷ words ts
words (_ ∷ ts) = words ts

-- the name stands at its place
abbrev pub IsFound : List (List ℕ) → List ℕ → Type 0
IsFound names w = get_or names (place_of names w) [] ≡ w

found-here : (names : List (List ℕ)) (w : List ℕ) → IsFound (w ∷ names) w
found-here names w = at (bytes_eq w w) (bytes_eq-Decides w w)
  where
    at : (b : Bool) → Decides b (w ≡ w) → get_or (w ∷ names) (cond (not b) (1 + place_of names w) 0) [] ≡ w
    at true d = refl
    at false d = let clash : false ≡ true = d.1 refl in cc

found-later : (names : List (List ℕ)) (v w : List ℕ) → IsFound names w → IsFound (v ∷ names) w
found-later names v w h = at (bytes_eq w v) (bytes_eq-Decides w v)
  where
    at : (b : Bool) → Decides b (w ≡ v) → get_or (v ∷ names) (cond (not b) (1 + place_of names w) 0) [] ≡ w
    at true d = sym (d.0 refl)
    at false d = let e : 1 + place_of names w ≡ suc (place_of names w) = omega arith in rw e h

pub words-found : (ts : List Token) → EachWord (IsFound (words ts)) ts
words-found [] = tt
words-found (word w ∷ ts) = (found-here (words ts) w, words-weaker (IsFound (words ts)) (IsFound (w ∷ words ts)) (λ v h. found-later (words ts) w v h) ts (words-found ts))
words-found (numeral n ∷ ts) = words-found ts
words-found (plus ∷ ts) = words-found ts
words-found (minus ∷ ts) = words-found ts
words-found (times ∷ ts) = words-found ts
words-found (slash ∷ ts) = words-found ts
words-found (caret ∷ ts) = words-found ts
words-found (opening ∷ ts) = words-found ts
words-found (closing ∷ ts) = words-found ts
words-found (foreign ∷ ts) = words-found ts
