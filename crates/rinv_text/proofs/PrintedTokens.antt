-- The tokens of pieces of a text that stand behind one another, where no piece goes on in the next.
use Rattle.std.proofs.Common.{◌≡◌, ℕ, suc, ◌+◌, ◌-◌, ◌*◌, ◌<◌, ◌^◌, List, [], ◌∷◌, ◌++◌, append_assoc, append-nil, length, get_or, take, fold, refl, sym, ap, ◌∙◌, subst, Bool, true, false, not, ◌&&◌, ◌||◌, ◌==◌, if◌then◌else◌, arith, inl, inr, decimal}
use Rattle.std.proofs.lemmas.Bool.{cases_Bool, eqb-true}
use Rattle.std.proofs.lemmas.Bool.Decides.{nat_tests}
use Rattle.std.proofs.lemmas.Fmt.{decimal_is_IsNumeral}
use Rattle.std.proofs.lemmas.Str.Parse.{digit_from_value}
use Rattle.std.proofs.lemmas.Str.{digit_value_digit}
use Rattle.std.specs.Char.{digit_value}
use Rattle.std.specs.Str.Parse.{AllDigits, digits_value_after}
use Rattle.std.specs.List.{prefix_len, list_all}
use Rattle.rinv_defs.specs.Names.{is_letter, is_digit}
use Rattle.rinv_text.specs.Printable.{is_word}
use Rattle.rinv_text.specs.Tokens.{Token, numeral, word, kinds, is_blank, is_name_byte, number_of, name_length, further_length, sign, token_of, tokens_after}

-- the first byte does not go on a number or a name
abbrev pub ends : List ℕ → Bool
ends [] = true
ends (b ∷ bs) = not (is_name_byte b || b == 39)

-- the tokens of a text, in which `/` divides or not, wherever it stands
abbrev pub Reads : Bool → List ℕ → List Token → Type 0
Reads division text ks = (place : ℕ) → kinds (tokens_after division 0 place text) ≡ ks

-- in front of a text that does not go on its last token, s gives these tokens
abbrev pub Front : Bool → List ℕ → List Token → Type 0
Front division s ks = (ts : List ℕ) (us : List Token) → ends ts ≡ true → Reads division ts us → Reads division (s ++ ts) (ks ++ us)

-- the same in front of any text
abbrev pub Closed : Bool → List ℕ → List Token → Type 0
Closed division s ks = (ts : List ℕ) (us : List Token) → Reads division ts us → Reads division (s ++ ts) (ks ++ us)

-- ---- one token

-- the further bytes of a token are skipped
skipped : (division : Bool) (bs ts : List ℕ) (place : ℕ) → tokens_after division (length bs) place (bs ++ ts) ≡ tokens_after division 0 (place + length bs) ts
unfolding tokens_after
skipped division [] ts place = let e : place + 0 ≡ place = omega arith in rw e refl
skipped division (b ∷ bs) ts place = let e : (place + 1) + length bs ≡ place + suc (length bs) = omega arith in skipped division bs ts (place + 1) ∙ ap (λ k. tokens_after division 0 k ts) e

front-of : (bs ts : List ℕ) → take (length bs) (bs ++ ts) ≡ bs
front-of [] ts = refl
front-of (b ∷ bs) ts = ap (λ l. b ∷ l) (front-of bs ts)

-- a token of the bytes b and bs
token-read : (division : Bool) (b : ℕ) (bs ts : List ℕ) (us : List Token) → is_blank b ≡ false → further_length b (bs ++ ts) ≡ length bs → Reads division ts us → Reads division (b ∷ bs ++ ts) (token_of division b bs ∷ us)
unfolding tokens_after
token-read division b bs ts us dark long rest place = rw dark (
    ap (λ n. token_of division b (take n (bs ++ ts)) ∷ kinds (tokens_after division n (place + 1) (bs ++ ts))) long
    ∙ ap (λ l. token_of division b l ∷ kinds (tokens_after division (length bs) (place + 1) (bs ++ ts))) (front-of bs ts)
    ∙ ap (λ l. token_of division b bs ∷ kinds l) (skipped division bs ts (place + 1))
    ∙ ap (λ l. token_of division b bs ∷ l) (rest (place + 1 + length bs)))

-- a blank is no token
pub blank-read : (division : Bool) (b : ℕ) → is_blank b ≡ true → Closed division (b ∷ []) []
unfolding tokens_after
blank-read division b blank ts us rest place = rw blank (rest (place + 1))

-- a sign is a token of its own
pub sign-read : (division : Bool) (b : ℕ) → is_blank b ≡ false → is_digit b ≡ false → is_letter b ≡ false → Closed division (b ∷ []) (sign division b ∷ [])
sign-read division b dark no_digit no_letter ts us rest =
    let short : further_length b ts ≡ 0 = rw (no_digit, no_letter) refl in
    let one : token_of division b [] ≡ sign division b = rw (no_digit, no_letter) refl in
    subst (λ k. Reads division (b ∷ ts) (k ∷ us)) one (token-read division b [] ts us dark short rest)

-- ---- numbers and names

parts-of : (x y : Bool) → (x && y) ≡ true → (x ≡ true) × (y ≡ true)
parts-of true true e = (refl, refl)
parts-of true false e = cc
parts-of false y e = cc

-- bytes that pass a test, before one that does not
all-pass : (test : ℕ → Bool) (bs ts : List ℕ) → list_all test bs ≡ true → prefix_len test ts ≡ 0 → prefix_len test (bs ++ ts) ≡ length bs
all-pass test [] ts all none = none
all-pass test (b ∷ bs) ts all none =
    let parts = parts-of (test b) (list_all test bs) all in
    let ih : prefix_len test (bs ++ ts) ≡ length bs = all-pass test bs ts parts.1 none in
    rw (parts.0, ih) (omega arith)

-- no digit and no byte of a name comes next
no-digit : (ts : List ℕ) → ends ts ≡ true → prefix_len is_digit ts ≡ 0
no-digit [] e = refl
no-digit (t ∷ ts) e = let off : is_digit t ≡ false = grind (arith, nat_tests) in rw off refl

no-name_byte : (ts : List ℕ) → ends ts ≡ true → prefix_len is_name_byte ts ≡ 0
no-name_byte [] e = refl
no-name_byte (t ∷ ts) e = let off : is_name_byte t ≡ false = grind (arith, nat_tests) in rw off refl

-- the bytes are the digits of the number
pub record IsNumberText (s : List ℕ) (n : ℕ) : Type 0 where
  pub first : ℕ
  pub others : List ℕ
  pub is : s ≡ first ∷ others
  pub all : list_all is_digit s ≡ true
  pub value : number_of s ≡ n

-- digits are a number
pub number-front : (division : Bool) (s : List ℕ) (n : ℕ) → IsNumberText s n → Front division s (numeral n ∷ [])
number-front division s n h ts us ended rest =
    let all : list_all is_digit (h.first ∷ h.others) ≡ true = ap (list_all is_digit) (sym h.is) ∙ h.all in
    let parts = parts-of (is_digit h.first) (list_all is_digit h.others) all in
    let long : further_length h.first (h.others ++ ts) ≡ length h.others = rw parts.0 (all-pass is_digit h.others ts parts.1 (no-digit ts ended)) in
    let dark : is_blank h.first ≡ false = dark-of h.first parts.0 in
    let one : token_of division h.first h.others ≡ numeral n = rw parts.0 (ap numeral (ap number_of (sym h.is) ∙ h.value)) in
    subst (λ l. Reads division (l ++ ts) (numeral n ∷ us)) (sym h.is) (subst (λ k. Reads division (h.first ∷ h.others ++ ts) (k ∷ us)) one (token-read division h.first h.others ts us dark long rest))
  where
    dark-of : (b : ℕ) → is_digit b ≡ true → is_blank b ≡ false
    dark-of b e = grind (arith, nat_tests)

-- what is written for a number
pub decimal-number : (n : ℕ) → n < 2 ^ 64 → IsNumberText (decimal n) n
decimal-number n small = of (decimal n) (decimal_is_IsNumeral n small).0.0 (decimal_is_IsNumeral n small).0.1 (decimal_is_IsNumeral n small).1
  where
    digit-of : (b : ℕ) (bs : List ℕ) → AllDigits 10 (b ∷ bs) → is_digit b ≡ true
    digit-of b bs d = let range = digit_from_value b d.0 in grind (arith, nat_tests)

    all-digits : (ds : List ℕ) → AllDigits 10 ds → list_all is_digit ds ≡ true
    all-digits [] d = refl
    all-digits (b ∷ bs) d = rw (digit-of b bs d) (all-digits bs d.1)

    folds : (m : ℕ) (ds : List ℕ) → AllDigits 10 ds → fold (λ n b. n * 10 + (b - 48)) m ds ≡ digits_value_after 10 m ds
    folds m [] d = refl
    folds m (b ∷ bs) d =
        let e = digit_value_digit b (digit_from_value b d.0) in
        let v : b - 48 ≡ digit_value b = omega (arith, e) in
        folds (m * 10 + (b - 48)) bs d.1 ∙ ap (λ x. digits_value_after 10 (m * 10 + x) bs) v

    of : (ds : List ℕ) → 0 < length ds → AllDigits 10 ds → digits_value_after 10 0 ds ≡ n → IsNumberText ds n
    of [] some d v = absurd (omega arith)
    of (b ∷ bs) some d v = record { first = b; others = bs; is = refl; all = all-digits (b ∷ bs) d; value = folds 0 (b ∷ bs) d ∙ v }

-- a byte of a name more
pub name-more : (b : ℕ) (bs : List ℕ) → is_name_byte b ≡ true → name_length (b ∷ bs) ≡ suc (name_length bs)
name-more b bs e =
    let n : ℕ = prefix_len is_name_byte bs in
    let more : 1 + n ≡ suc n = omega arith in
    rw (e, more) (by (get_or bs n 0 == 39) n)
  where
    by : (x : Bool) (n : ℕ) → (if x then suc n + 1 else suc n) ≡ suc (if x then n + 1 else n)
    by true n = omega arith
    by false n = refl

-- a name alone, and one before another text, are as long
name-whole : (bs ts : List ℕ) → name_length bs ≡ length bs → ends ts ≡ true → name_length (bs ++ ts) ≡ length bs
name-whole [] ts e ended = rw (no-name_byte ts ended) (none ts ended)
  where
    none : (ts : List ℕ) → ends ts ≡ true → (if get_or ts 0 0 == 39 then 0 + 1 else 0) ≡ 0
    none [] ended = refl
    none (t ∷ ts) ended = let off : (t == 39) ≡ false = grind (arith, nat_tests) in rw off refl
name-whole (b ∷ bs) ts e ended = elim (cases_Bool (is_name_byte b)) [
  | inl here ↦ name-more b (bs ++ ts) here ∙ ap suc (name-whole bs ts (omega (arith, name-more b bs here, e)) ended)
  | inr off ↦ last (b == 39) bs refl off e
]
  where
    last : (x : Bool) (bs : List ℕ) → (b == 39) ≡ x → is_name_byte b ≡ false → name_length (b ∷ bs) ≡ suc (length bs) → name_length (b ∷ bs ++ ts) ≡ suc (length bs)
    last true [] prime off e = rw (off, prime) refl
    last true (c ∷ bs) prime off e = let one : name_length (b ∷ c ∷ bs) ≡ 1 = rw (off, prime) refl in absurd (omega arith)
    last false bs prime off e = let nothing : name_length (b ∷ bs) ≡ 0 = rw (off, prime) refl in absurd (omega arith)

-- a name is a word
pub word-front : (division : Bool) (w : List ℕ) → is_word w ≡ true → Front division w (word w ∷ [])
word-front division [] e ts us ended rest = cc
word-front division (b ∷ bs) e ts us ended rest =
    let parts = parts-of (is_letter b) (name_length bs == length bs) e in
    let no_digit : is_digit b ≡ false = off b parts.0 in
    let dark : is_blank b ≡ false = seen b parts.0 in
    let long : further_length b (bs ++ ts) ≡ length bs = rw (no_digit, parts.0) (name-whole bs ts (eqb-true (name_length bs) (length bs) parts.1) ended) in
    let one : token_of division b bs ≡ word (b ∷ bs) = rw (no_digit, parts.0) refl in
    subst (λ k. Reads division (b ∷ bs ++ ts) (k ∷ us)) one (token-read division b bs ts us dark long rest)
  where
    off : (b : ℕ) → is_letter b ≡ true → is_digit b ≡ false
    off b e = grind (arith, nat_tests)

    seen : (b : ℕ) → is_letter b ≡ true → is_blank b ≡ false
    seen b e = grind (arith, nat_tests)

-- ---- pieces behind one another

-- a sign division between two pieces
pub between : (division : Bool) (s t : List ℕ) (ks ls : List Token) (b : ℕ) → is_blank b ≡ false → is_digit b ≡ false → is_letter b ≡ false → ends (b ∷ []) ≡ true → Front division s ks → Front division t ls → Front division (s ++ b ∷ t) (ks ++ sign division b ∷ ls)
between division s t ks ls b dark no_digit no_letter ended front back ts us e rest =
    subst (λ l. Reads division l ((ks ++ sign division b ∷ ls) ++ us)) (sym (append_assoc s (b ∷ t) ts))
    (subst (λ k. Reads division (s ++ (b ∷ (t ++ ts))) k) (sym (append_assoc ks (sign division b ∷ ls) us))
    (front (b ∷ t ++ ts) (sign division b ∷ ls ++ us) ended (sign-read division b dark no_digit no_letter (t ++ ts) (ls ++ us) (back ts us e rest))))

-- a sign division between blanks
pub spaced : (division : Bool) (s t : List ℕ) (ks ls : List Token) (b : ℕ) → is_blank b ≡ false → is_digit b ≡ false → is_letter b ≡ false → Front division s ks → Front division t ls → Front division (s ++ 32 ∷ b ∷ 32 ∷ t) (ks ++ sign division b ∷ ls)
spaced division s t ks ls b dark no_digit no_letter front back ts us e rest =
    subst (λ l. Reads division l ((ks ++ sign division b ∷ ls) ++ us)) (sym (append_assoc s (32 ∷ b ∷ 32 ∷ t) ts))
    (subst (λ k. Reads division (s ++ (32 ∷ b ∷ 32 ∷ (t ++ ts))) k) (sym (append_assoc ks (sign division b ∷ ls) us))
    (front (32 ∷ b ∷ 32 ∷ t ++ ts) (sign division b ∷ ls ++ us) refl
    (blank-read division 32 refl (b ∷ 32 ∷ t ++ ts) (sign division b ∷ ls ++ us)
    (sign-read division b dark no_digit no_letter (32 ∷ t ++ ts) (ls ++ us) (blank-read division 32 refl (t ++ ts) (ls ++ us) (back ts us e rest))))))

-- a whole text
pub front-whole : (division : Bool) (s : List ℕ) (ks : List Token) → Front division s ks → kinds (tokens_after division 0 0 s) ≡ ks
unfolding tokens_after
front-whole division s ks front = ap (λ l. kinds (tokens_after division 0 0 l)) (sym (append-nil s)) ∙ front [] [] refl (λ place. refl) 0 ∙ append-nil ks
