-- Lines by the place of their line feed, and bytes at the end of a line.
use Rattle.std.proofs.Common.{◌≡◌, ℕ, ◌+◌, ◌≤◌, List, [], ◌∷◌, ◌++◌, suc, take, drop, length, reverse, Bool, true, false, ◌==◌, not, cond, nat_lt, Some, None, unwrap_or, one-add, if◌then◌else◌, refl, sym, ap, ◌∙◌, arith}
use Rattle.std.specs.List.{position, position_or_len, position_from}
use Rattle.std.proofs.lemmas.List.Sums.{prefix_len-le-length}
use Rattle.std.proofs.lemmas.List.{reverse-append, reverse-reverse}
use Rattle.std.proofs.lemmas.Bool.Decides.{nat_tests}
use Rattle.rinv_system.specs.Lines.{lines_of, onto_first, without_return, is_blank, from_word, to_last_word, is_bad_line, first_bad_line}

-- how far the first line goes, where a byte stands in front of the rest
one_further : ℕ → Bool → ℕ
one_further k is_end = if is_end then 0 else suc k

length-line : (c : ℕ) (bs : List ℕ) → position_or_len (λ b. b == 10) (c ∷ bs) ≡ one_further (position_or_len (λ b. b == 10) bs) (c == 10)
unfolding one_further
length-line c bs = further (c == 10) _
  where
    further : (t : Bool) (k : ℕ) → cond (not t) (1 + k) 0 ≡ (if t then 0 else suc k)
    further true k = refl
    further false k = omega arith

at-step : (is_end : Bool) (c : ℕ) (bs : List ℕ) (k b : ℕ) (rest : List ℕ) → (drop k bs ≡ b ∷ rest → lines_of bs ≡ take k bs ∷ lines_of rest)
    → drop (one_further k is_end) (c ∷ bs) ≡ b ∷ rest → (if is_end then [] ∷ lines_of bs else onto_first c (lines_of bs)) ≡ take (one_further k is_end) (c ∷ bs) ∷ lines_of rest
unfolding one_further
at-step true c bs k b rest ih e = ap (λ r. [] ∷ lines_of r) (ap (drop 1) e)
at-step false c bs k b rest ih e = ap (onto_first c) (ih e)

-- the first line ends at a line feed
pub lines_of-at : (bs : List ℕ) (b : ℕ) (rest : List ℕ) → drop (position_or_len (λ b. b == 10) bs) bs ≡ b ∷ rest
    → lines_of bs ≡ take (position_or_len (λ b. b == 10) bs) bs ∷ lines_of rest
unfolding lines_of
lines_of-at [] b rest e = absurd (apart e)
  where
    apart : [] ≡ b ∷ rest → ⊥
    apart h = let n : 0 ≡ suc (length rest) = ap length h in omega (arith, n)
lines_of-at (c ∷ bs) b rest e = rw (length-line c bs) (at-step (c == 10) c bs _ b rest (lines_of-at bs b rest) (ap (λ k. drop k (c ∷ bs)) (sym (length-line c bs)) ∙ e))

last-step : (is_end : Bool) (c : ℕ) (bs : List ℕ) (k : ℕ) → (drop k bs ≡ [] → onto_first c (lines_of bs) ≡ (c ∷ take k bs) ∷ [])
    → drop (one_further k is_end) (c ∷ bs) ≡ [] → (if is_end then [] ∷ lines_of bs else onto_first c (lines_of bs)) ≡ take (one_further k is_end) (c ∷ bs) ∷ []
unfolding one_further
last-step true c bs k ih e = absurd (let n : suc (length bs) ≡ 0 = ap length e in omega (arith, n))
last-step false c bs k ih e = ih e

-- the last line ends with the text
pub lines_of-last : (c : ℕ) (bs : List ℕ) → drop (position_or_len (λ b. b == 10) (c ∷ bs)) (c ∷ bs) ≡ []
    → lines_of (c ∷ bs) ≡ take (position_or_len (λ b. b == 10) (c ∷ bs)) (c ∷ bs) ∷ []
unfolding lines_of
lines_of-last c [] e = rw (length-line c []) (last-step (c == 10) c [] 0 (λ h. refl) (ap (λ k. drop k (c ∷ [])) (sym (length-line c [])) ∙ e))
lines_of-last c (d ∷ bs) e = rw (length-line c (d ∷ bs)) (last-step (c == 10) c (d ∷ bs) _ (λ h. ap (onto_first c) (lines_of-last d bs h)) (ap (λ k. drop k (c ∷ d ∷ bs)) (sym (length-line c (d ∷ bs))) ∙ e))

-- a carriage return at the end is left out
pub without_return-return : (front : List ℕ) → without_return (front ++ 13 ∷ []) ≡ front
unfolding without_return
without_return-return [] = refl
without_return-return (b ∷ []) = refl
without_return-return (b ∷ c ∷ bs) = ap (λ r. b ∷ r) (without_return-return (c ∷ bs))

without_return-kept : (front : List ℕ) (b : ℕ) → (b == 13) ≡ false → without_return (front ++ b ∷ []) ≡ front ++ b ∷ []
unfolding without_return
without_return-kept [] b e = rw e refl
without_return-kept (c ∷ []) b e = rw e refl
without_return-kept (c ∷ d ∷ bs) b e = ap (λ r. c ∷ r) (without_return-kept (d ∷ bs) b e)

-- and no other byte
pub without_return-other : (front : List ℕ) (b : ℕ) → ¬ (b ≡ 13) → without_return (front ++ b ∷ []) ≡ front ++ b ∷ []
without_return-other front b e = without_return-kept front b (grind (arith, nat_tests, e))

-- of a line that ends with a byte
pub without_return-ends : (line front : List ℕ) (b : ℕ) → line ≡ front ++ b ∷ [] → b ≡ 13 → front ≡ without_return line
without_return-ends line front b is e = sym (ap without_return (is ∙ ap (λ c. front ++ c ∷ []) e) ∙ without_return-return front)

pub without_return-empty : (line : List ℕ) → length line ≡ 0 → line ≡ without_return line
unfolding without_return
without_return-empty [] e = refl
without_return-empty (b ∷ bs) e = absurd (omega (arith, e))

-- a blank at the end is left out
pub to_last_word-blank : (front : List ℕ) (b : ℕ) → is_blank b ≡ true → to_last_word (front ++ b ∷ []) ≡ to_last_word front
to_last_word-blank front b e = rw (reverse-append front (b ∷ [])) (ap reverse (blank_first (reverse front)))
  where
    blank_first : (bs : List ℕ) → from_word (b ∷ bs) ≡ from_word bs
    blank_first bs = rw (e, one-add (position_or_len (λ b. not (is_blank b)) bs)) refl

-- and no other byte
pub to_last_word-other : (front : List ℕ) (b : ℕ) → is_blank b ≡ false → to_last_word (front ++ b ∷ []) ≡ front ++ b ∷ []
to_last_word-other front b e = rw (reverse-append front (b ∷ [])) (ap reverse (other_first (reverse front)) ∙ ap reverse (sym (reverse-append front (b ∷ []))) ∙ reverse-reverse (front ++ b ∷ []))
  where
    other_first : (bs : List ℕ) → from_word (b ∷ bs) ≡ b ∷ bs
    other_first bs = rw e refl

-- what the lines from a place on give, is what all give
abbrev pub HasPassed : List ℕ → List ℕ → ℕ → Type 0
HasPassed text rest number = position_from is_bad_line number (lines_of rest) ≡ first_bad_line text

pub HasPassed-step : (text rest line following : List ℕ) (number : ℕ) → lines_of rest ≡ line ∷ lines_of following → is_bad_line line ≡ false
    → HasPassed text rest number → HasPassed text following (number + 1)
HasPassed-step text rest line following number split good h = sym (ap (position_from is_bad_line number) split ∙ rw good refl) ∙ h

pub HasPassed-stop : (text rest line following : List ℕ) (number : ℕ) → lines_of rest ≡ line ∷ lines_of following → is_bad_line line ≡ true
    → HasPassed text rest number → Some number ≡ first_bad_line text
HasPassed-stop text rest line following number split bad h = sym (ap (position_from is_bad_line number) split ∙ rw bad refl) ∙ h

pub position_or_len-le : (test : ℕ → Bool) (xs : List ℕ) → position_or_len test xs ≤ length xs
position_or_len-le test xs = prefix_len-le-length (λ x. not (test x)) xs

-- the first place that passes, or the length where there is none
pub unwrap_or-position : (test : ℕ → Bool) (xs : List ℕ) → unwrap_or (position test xs) (length xs) ≡ position_or_len test xs
unwrap_or-position test xs = cases (position_or_len test xs) (length xs) (position_or_len-le test xs)
  where
    cases : (k n : ℕ) → k ≤ n → unwrap_or (cond (nat_lt k n) (Some k) None) n ≡ k
    cases k n le = grind (arith, nat_tests)

pub HasPassed-end : (text rest : List ℕ) (number : ℕ) → length rest ≡ 0 → HasPassed text rest number → None ≡ first_bad_line text
unfolding lines_of
HasPassed-end text [] number e h = h
HasPassed-end text (b ∷ bs) number e h = absurd (omega (arith, e))

-- the first line of a text that is not empty, by the parts at its line feed
pub lines_of-split : (text line rest following : List ℕ) (place b : ℕ) → place ≡ position_or_len (λ b. b == 10) text → line ≡ take place text → rest ≡ drop place text → rest ≡ b ∷ following
    → lines_of text ≡ line ∷ lines_of following
lines_of-split text line rest following place b at front back is =
    lines_of-at text b following (ap (λ k. drop k text) (sym at) ∙ sym back ∙ is) ∙ ap (λ l. l ∷ lines_of following) (ap (λ k. take k text) (sym at) ∙ sym front)

pub lines_of-whole : (text line rest : List ℕ) (place : ℕ) → (length text ≡ 0 → ⊥) → place ≡ position_or_len (λ b. b == 10) text → line ≡ take place text → rest ≡ drop place text → length rest ≡ 0
    → lines_of text ≡ line ∷ lines_of rest
unfolding lines_of
lines_of-whole [] line rest place some at front back none = absurd (some refl)
lines_of-whole (b ∷ bs) line (c ∷ rest) place some at front back none = absurd (omega (arith, none))
lines_of-whole (b ∷ bs) line [] place some at front back none =
    lines_of-last b bs (ap (λ k. drop k (b ∷ bs)) (sym at) ∙ sym back) ∙ ap (λ l. l ∷ []) (ap (λ k. take k (b ∷ bs)) (sym at) ∙ sym front)
