-- The tokens of a text, each with its place.
use Rattle.std.specs.Prelude.{ℕ, zero, suc, ◌+◌, ◌-◌, ◌*◌, List, [], ◌∷◌, map, fold, get_or, take, Bool, true, false, ◌||◌, ◌==◌, if◌then◌else◌}
use Rattle.std.specs.List.{prefix_len}
use Rattle.rinv_defs.specs.Names.{is_letter, is_digit}

pub data Token : Type 0 where
  numeral : ℕ → Token
  word : List ℕ → Token
  plus : Token
  minus : Token
  times : Token
  slash : Token
  caret : Token
  opening : Token
  closing : Token
  -- a byte that begins no other token
  foreign : Token

-- a token, and how many bytes stand before it
abbrev pub Placed : Type 0
Placed = ℕ × Token

-- the tokens without their places
abbrev pub kinds : List Placed → List Token
kinds ts = map (λ t. t.1) ts

-- a space or a tab
abbrev pub is_blank : ℕ → Bool
is_blank b = b == 32 || b == 9

-- a letter, a digit or an underscore
abbrev pub is_name_byte : ℕ → Bool
is_name_byte b = is_letter b || is_digit b || b == 95

-- the number that decimal digits write
abbrev pub number_of : List ℕ → ℕ
number_of digits = fold (λ n b. n * 10 + (b - 48)) 0 digits

-- how many bytes of a name follow its letter: as many as can, and then a prime
abbrev pub name_length : List ℕ → ℕ
name_length bs = if get_or bs (prefix_len is_name_byte bs) 0 == 39 then prefix_len is_name_byte bs + 1 else prefix_len is_name_byte bs

-- how many of the bytes after it stand in one token with b
abbrev pub further_length : ℕ → List ℕ → ℕ
further_length b bs = if is_digit b then prefix_len is_digit bs else if is_letter b then name_length bs else 0

-- in texts of fractions a `/` divides; in texts of polynomials it is a byte as any other
module _ (division : Bool) where
  -- the token of one byte
  abbrev pub sign : ℕ → Token
  sign b =
      if b == 43 then plus
      else if b == 45 then minus
      else if b == 42 then times
      else if b == 47 then (if division then slash else foreign)
      else if b == 94 then caret
      else if b == 40 then opening
      else if b == 41 then closing
      else foreign

  -- the token of these bytes
  abbrev pub token_of : ℕ → List ℕ → Token
  token_of b bs = if is_digit b then numeral (number_of (b ∷ bs)) else if is_letter b then word (b ∷ bs) else sign b

  -- the token that begins with b: as long as it can be
  abbrev pub token_at : ℕ → List ℕ → Token
  token_at b bs = token_of b (take (further_length b bs) bs)

  -- the tokens of the bytes after the first `rest`, which belong to the token before; `place` bytes stand before them all
  unfoldable pub tokens_after : (rest place : ℕ) → List ℕ → List Placed
  tokens_after rest place [] = []
  tokens_after (suc rest) place (b ∷ bs) = tokens_after rest (place + 1) bs
  tokens_after zero place (b ∷ bs) =
      if is_blank b then tokens_after zero (place + 1) bs
      else (place, token_at b bs) ∷ tokens_after (further_length b bs) (place + 1) bs

  -- the tokens of a text
  abbrev pub tokens_of : List ℕ → List Placed
  tokens_of text = tokens_after 0 0 text

-- the tokens of the text of a polynomial
abbrev pub tokens : List ℕ → List Placed
tokens text = tokens_of false text

-- the tokens of the text of a fraction
abbrev pub fraction_tokens : List ℕ → List Placed
fraction_tokens text = tokens_of true text
