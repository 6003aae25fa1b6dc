-- Texts whose last line is `complete`, and texts whose last line is another.
--   ends-otherwise    a text with another end
--   number-last       a text that ends with a number
--   not-empty         the empty text
--   one-line          a text of one line
use Rattle.std.proofs.Common.{◌≡◌, ℕ, zero, suc, mod-lt, ◌+◌, ◌/◌, ◌%◌, ◌<◌, drop, nat_lt, decimal, if◌then◌else◌, length-append, List, [], ◌∷◌, ◌++◌, append_assoc, reverse, length, get_or, refl, sym, ap, ◌∙◌, subst, Bool, true, false, ◌&&◌, ◌==◌, codes, arith, true≢false}
use Rattle.std.specs.Fmt.{digits, digits_onto, digit_glyph}
use Rattle.std.specs.List.{list_all}
use Rattle.std.proofs.lemmas.Bool.Decides.{nat_tests}
use Rattle.std.proofs.lemmas.List.{append_cancel_right, reverse-append}
use Rattle.rinv_algebra.proofs.Same.{both, and_true}
use Rattle.rinv_system.specs.Written.{text_of}
use Rattle.rinv_commands.specs.Headline.{EndsComplete}
use Rattle.rinv_commands.proofs.Feedless.{IsInner, is_inner}

-- ---- by the end of the text

front-of : (before : List (List ℕ)) → text_of (before ++ codes "complete" ∷ []) ≡ text_of before ++ codes "complete\n"
front-of [] = refl
front-of (l ∷ ls) = ap (λ t. (l ++ codes "\n") ++ t) (front-of ls) ∙ sym (append_assoc (l ++ codes "\n") (text_of ls) (codes "complete\n"))

-- two lists agree, as far as both go
abbrev pub agree : List ℕ → List ℕ → Bool
agree [] t = true
agree (a ∷ s) [] = true
agree (a ∷ s) (b ∷ t) = a == b && agree s t

-- so do two fronts of one list
fronts-agree : (s t behind behind' : List ℕ) → s ++ behind ≡ t ++ behind' → agree s t ≡ true
fronts-agree [] t behind behind' e = refl
fronts-agree (a ∷ s) [] behind behind' e = refl
fronts-agree (a ∷ s) (b ∷ t) behind behind' e =
    let first : a ≡ b = ap (λ l. get_or l 0 0) e in
    and_true (a == b) (agree s t) (grind (arith, nat_tests, first)) (fronts-agree s t behind behind' (ap (λ l. drop 1 l) e))

-- `complete`, from its end
abbrev pub complete_back : List ℕ
complete_back = reverse (codes "complete\n")

-- a text with another end
pub ends-otherwise : (text front s : List ℕ) → EndsComplete text → text ≡ front ++ s → agree (reverse s) complete_back ≡ false → ⊥
ends-otherwise text front s h e differs =
    let ends : front ++ s ≡ text_of h.before ++ codes "complete\n" = sym e ∙ h.whole ∙ front-of h.before in
    let back : reverse s ++ reverse front ≡ complete_back ++ reverse (text_of h.before) = sym (reverse-append front s) ∙ ap reverse ends ∙ reverse-append (text_of h.before) (codes "complete\n") in
    true≢false (sym (fronts-agree (reverse s) complete_back (reverse front) (reverse (text_of h.before)) back) ∙ differs)

-- ---- by a number at the end

-- the last digit
record EndsInDigit (s : List ℕ) : Type 0 where
  front : List ℕ
  digit : ℕ
  small : digit < 10
  is : s ≡ front ++ digit_glyph false digit ∷ []

onto : (k n : ℕ) (s : List ℕ) → (front : List ℕ) × (digits_onto k 10 false n s ≡ front ++ s)
onto zero n s = ([], refl)
onto (suc k) n s =
    let g = digit_glyph false (n % 10) in
    let ih = onto k (n / 10) (g ∷ s) in
    by (n / 10 == 0) (digits_onto k 10 false (n / 10) (g ∷ s)) g ih
  where
    by : (b : Bool) (t : List ℕ) (g : ℕ) → (front : List ℕ) × (t ≡ front ++ g ∷ s) → (front : List ℕ) × ((if b then g ∷ s else t) ≡ front ++ s)
    by true t g h = (g ∷ [], refl)
    by false t g h = (h.0 ++ g ∷ [], h.1 ∙ sym (append_assoc h.0 (g ∷ []) s))

digits-end : (k n : ℕ) → EndsInDigit (digits_onto (suc k) 10 false n [])
digits-end k n = by (n / 10 == 0)
  where
    by : (b : Bool) → EndsInDigit (if b then digit_glyph false (n % 10) ∷ [] else digits_onto k 10 false (n / 10) (digit_glyph false (n % 10) ∷ []))
    by true = record { front = []; digit = n % 10; small = let pos : 0 < 10 = omega arith in omega (arith, mod-lt n pos); is = refl }
    by false = let h = onto k (n / 10) (digit_glyph false (n % 10) ∷ []) in record { front = h.0; digit = n % 10; small = let pos : 0 < 10 = omega arith in omega (arith, mod-lt n pos); is = h.1 }

decimal-end : (n : ℕ) → EndsInDigit (decimal n)
unfolding digits
decimal-end n = digits-end 63 n

-- a digit is no `e`
glyph-apart : (d : ℕ) → d < 10 → (digit_glyph false d == 101) ≡ false
glyph-apart d small = by (nat_lt d 10) refl
  where
    by : (b : Bool) → nat_lt d 10 ≡ b → ((if b then 48 + d else 87 + d) == 101) ≡ false
    by true e = grind (arith, nat_tests, small)
    by false e = grind (arith, nat_tests, small, e)

-- a text that ends with a number
pub number-last : (text front : List ℕ) (n : ℕ) → EndsComplete text → text ≡ (front ++ decimal n) ++ codes "\n" → ⊥
number-last text front n h e =
    let d = decimal-end n in
    let g = digit_glyph false d.digit in
    let is : text ≡ (front ++ d.front) ++ g ∷ 10 ∷ [] = e ∙ ap (λ s. (front ++ s) ++ codes "\n") d.is ∙ ap (λ s. s ++ codes "\n") (sym (append_assoc front d.front (g ∷ []))) ∙ append_assoc (front ++ d.front) (g ∷ []) (10 ∷ []) in
    ends-otherwise text (front ++ d.front) (g ∷ 10 ∷ []) h is (ap (λ b. b && true) (glyph-apart d.digit d.small))

-- ---- texts of no line, and of one

some-line : (l : List ℕ) (ls : List (List ℕ)) → text_of (l ∷ ls) ≡ [] → ⊥
some-line [] ls e = let f : suc (length (text_of ls)) ≡ 0 = ap length e in omega (arith, f)
some-line (b ∷ l) ls e = let f : suc (length ((l ++ codes "\n") ++ text_of ls)) ≡ 0 = ap length e in omega (arith, f)

some-lines : (ls : List (List ℕ)) (l : List ℕ) → text_of (ls ++ l ∷ []) ≡ [] → ⊥
some-lines [] l e = some-line l [] e
some-lines (k ∷ ls) l e = some-line k (ls ++ l ∷ []) e

-- a text that ends with the line is not empty
pub not-empty : (text : List ℕ) → EndsComplete text → text ≡ [] → ⊥
not-empty text h e = some-lines h.before (codes "complete") (sym h.whole ∙ e)

-- nothing stands behind the first line feed
alone : (l b rest : List ℕ) → IsInner l → l ++ 10 ∷ [] ≡ b ++ 10 ∷ rest → rest ≡ []
alone [] [] rest h e = sym (ap (λ t. drop 1 t) e)
alone [] (c ∷ b) rest h e = let f : 0 ≡ length (b ++ 10 ∷ rest) = ap (λ t. length (drop 1 t)) e in absurd (omega (arith, f, length-append b (10 ∷ rest)))
alone (x ∷ l) [] rest h e = let f : x ≡ 10 = ap (λ t. get_or t 0 0) e in let g : is_inner 10 ≡ true = subst (λ y. is_inner y ≡ true) f (both (is_inner x) (list_all is_inner l) h).0 in cc
alone (x ∷ l) (c ∷ b) rest h e = alone l b rest (both (is_inner x) (list_all is_inner l) h).1 (ap (λ t. drop 1 t) e)

-- the one line is `complete`
pub one-line : (l : List ℕ) → IsInner l → EndsComplete (l ++ codes "\n") → l ≡ codes "complete"
one-line l h e = go e.before e.whole
  where
    go : (before : List (List ℕ)) → l ++ codes "\n" ≡ text_of (before ++ codes "complete" ∷ []) → l ≡ codes "complete"
    go [] is = append_cancel_right l (codes "complete") (codes "\n") is
    go (b ∷ ls) is = absurd (some-lines ls (codes "complete") (alone l b (text_of (ls ++ codes "complete" ∷ [])) h (is ∙ append_assoc b (codes "\n") (text_of (ls ++ codes "complete" ∷ [])))))
