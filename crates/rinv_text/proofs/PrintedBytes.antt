-- The bytes of printed text, which begins and ends with none that is a blank.
use Rattle.std.proofs.Common.{◌≡◌, ℕ, suc, List, [], ◌∷◌, ◌++◌, append_assoc, length, refl, sym, ap, ◌∙◌, subst, Bool, true, false, ◌&&◌, ◌||◌, ◌==◌, arith, inl, inr}
use Rattle.std.proofs.lemmas.Bool.{cases_Bool, eqb-true}
use Rattle.std.proofs.lemmas.Bool.Decides.{nat_tests}
use Rattle.std.specs.List.{list_all}
use Rattle.rinv_defs.specs.Names.{is_letter, is_digit}
use Rattle.rinv_text.specs.Tokens.{is_blank, is_name_byte, name_length}
use Rattle.rinv_text.specs.Printable.{is_word}
use Rattle.rinv_text.proofs.PrintedTokens.{name-more, IsNumberText}

-- a byte of a name or a number
abbrev pub is_word_byte : ℕ → Bool
is_word_byte b = is_name_byte b || b == 39

-- a byte of printed text
abbrev pub is_printed : ℕ → Bool
is_printed b = is_word_byte b || b == 32 || b == 42 || b == 43 || b == 94

-- printed bytes, of which the first and the last are no blanks
pub record IsSolid (s : List ℕ) : Type 0 where
  pub bytes : list_all is_printed s ≡ true
  pub first : ℕ
  pub others : List ℕ
  pub begins : s ≡ first ∷ others
  pub begins_dark : is_blank first ≡ false
  pub front : List ℕ
  pub last : ℕ
  pub ends : s ≡ front ++ last ∷ []
  pub ends_dark : is_blank last ≡ false

parts-of : (x y : Bool) → (x && y) ≡ true → (x ≡ true) × (y ≡ true)
parts-of true true e = (refl, refl)
parts-of true false e = cc
parts-of false y e = cc

all-append : (test : ℕ → Bool) (s t : List ℕ) → list_all test s ≡ true → list_all test t ≡ true → list_all test (s ++ t) ≡ true
all-append test [] t e f = f
all-append test (b ∷ s) t e f = let parts = parts-of (test b) (list_all test s) e in rw parts.0 (all-append test s t parts.1 f)

-- two such texts with printed bytes between them
pub solid-between : (s mid t : List ℕ) → list_all is_printed mid ≡ true → IsSolid s → IsSolid t → IsSolid (s ++ (mid ++ t))
solid-between s mid t between a b = record {
  bytes = all-append is_printed s (mid ++ t) a.bytes (all-append is_printed mid t between b.bytes);
  first = a.first;
  others = a.others ++ (mid ++ t);
  begins = ap (λ r. r ++ (mid ++ t)) a.begins;
  begins_dark = a.begins_dark;
  front = s ++ (mid ++ b.front);
  last = b.last;
  ends = ap (λ r. s ++ (mid ++ r)) b.ends ∙ ap (λ r. s ++ r) (sym (append_assoc mid b.front (b.last ∷ []))) ∙ sym (append_assoc s (mid ++ b.front) (b.last ∷ []));
  ends_dark = b.ends_dark;
}

-- ---- names and numbers

word-byte-printed : (b : ℕ) → is_word_byte b ≡ true → is_printed b ≡ true
word-byte-printed b e = rw e refl

word-byte-dark : (b : ℕ) → is_word_byte b ≡ true → is_blank b ≡ false
word-byte-dark b e = grind (arith, nat_tests)

all-weaker : (P Q : ℕ → Bool) → ((b : ℕ) → P b ≡ true → Q b ≡ true) → (s : List ℕ) → list_all P s ≡ true → list_all Q s ≡ true
all-weaker P Q f [] e = refl
all-weaker P Q f (b ∷ s) e = let parts = parts-of (P b) (list_all P s) e in rw (f b parts.0) (all-weaker P Q f s parts.1)

-- the last byte
record Last (s : List ℕ) : Type 0 where
  front : List ℕ
  last : ℕ
  ends : s ≡ front ++ last ∷ []
  good : is_word_byte last ≡ true

last-of : (b : ℕ) (s : List ℕ) → list_all is_word_byte (b ∷ s) ≡ true → Last (b ∷ s)
last-of b [] e = record { front = []; last = b; ends = refl; good = (parts-of (is_word_byte b) true e).0 }
last-of b (c ∷ s) e = let l = last-of c s (parts-of (is_word_byte b) (list_all is_word_byte (c ∷ s)) e).1 in record { front = b ∷ l.front; last = l.last; ends = ap (λ r. b ∷ r) l.ends; good = l.good }

solid-word : (b : ℕ) (s : List ℕ) → list_all is_word_byte (b ∷ s) ≡ true → IsSolid (b ∷ s)
solid-word b s e =
    let l = last-of b s e in
    record {
      bytes = all-weaker is_word_byte is_printed word-byte-printed (b ∷ s) e;
      first = b;
      others = s;
      begins = refl;
      begins_dark = word-byte-dark b (parts-of (is_word_byte b) (list_all is_word_byte s) e).0;
      front = l.front;
      last = l.last;
      ends = l.ends;
      ends_dark = word-byte-dark l.last l.good;
    }

pub number-solid : (s : List ℕ) (n : ℕ) → IsNumberText s n → IsSolid s
number-solid s n h = subst IsSolid (sym h.is) (solid-word h.first h.others (ap (list_all is_word_byte) (sym h.is) ∙ all-weaker is_digit is_word_byte digit-good s h.all))
  where
    digit-good : (b : ℕ) → is_digit b ≡ true → is_word_byte b ≡ true
    digit-good b e = grind (arith, nat_tests)

name-bytes : (bs : List ℕ) → name_length bs ≡ length bs → list_all is_word_byte bs ≡ true
name-bytes [] e = refl
name-bytes (b ∷ bs) e = elim (cases_Bool (is_name_byte b)) [
  | inl here ↦ rw here (name-bytes bs (omega (arith, name-more b bs here, e)))
  | inr off ↦ prime (b == 39) bs refl off e
]
  where
    prime : (x : Bool) (bs : List ℕ) → (b == 39) ≡ x → is_name_byte b ≡ false → name_length (b ∷ bs) ≡ suc (length bs) → list_all is_word_byte (b ∷ bs) ≡ true
    prime true [] is off e = rw (off, is) refl
    prime true (c ∷ bs) is off e = let one : name_length (b ∷ c ∷ bs) ≡ 1 = rw (off, is) refl in absurd (omega arith)
    prime false bs is off e = let nothing : name_length (b ∷ bs) ≡ 0 = rw (off, is) refl in absurd (omega arith)

pub word-solid : (w : List ℕ) → is_word w ≡ true → IsSolid w
word-solid [] e = cc
word-solid (b ∷ bs) e =
    let parts = parts-of (is_letter b) (name_length bs == length bs) e in
    solid-word b bs (rw (letter-good b parts.0) (name-bytes bs (eqb-true (name_length bs) (length bs) parts.1)))
  where
    letter-good : (b : ℕ) → is_letter b ≡ true → is_word_byte b ≡ true
    letter-good b e = grind (arith, nat_tests)
