-- No part of a text is longer than the whole.
use Rattle.std.proofs.Common.{◌≡◌, ℕ, zero, suc, ◌≤◌, ◌<◌, List, [], ◌∷◌, length, get_or, map, drop, Bool, true, false, ◌==◌, Option, Some, None, option_map, if◌then◌else◌, sym, ap, subst, arith, length-drop, reverse, take}
use Rattle.std.specs.List.{All, position_or_len}
use Rattle.std.proofs.lemmas.List.{get_or-map, length-reverse, length-take}
use Rattle.rinv_system.specs.declared.keyword.Keyword.{Keyword}
use Rattle.rinv_system.specs.Lines.{onto_first, is_blank, lines_of, without_return, from_word, to_last_word, before_comment, content_of}
use Rattle.rinv_system.specs.Words.{rest_of, head_of}
use Rattle.rinv_system.specs.Entries.{entries_of}

abbrev AreShort : ℕ → List (List ℕ) → Type 0
AreShort n ls = (k : ℕ) → length (get_or ls k []) ≤ n

onto_first-short : (n b : ℕ) (ls : List (List ℕ)) → AreShort n ls → AreShort (suc n) (onto_first b ls)
onto_first-short n b [] h zero = omega arith
onto_first-short n b [] h (suc k) = omega arith
onto_first-short n b (l ∷ ls) h zero = omega (arith, h 0)
onto_first-short n b (l ∷ ls) h (suc k) = omega (arith, h (suc k))

empty_first-short : (n : ℕ) (ls : List (List ℕ)) → AreShort n ls → AreShort (suc n) ([] ∷ ls)
empty_first-short n ls h zero = omega arith
empty_first-short n ls h (suc k) = omega (arith, h k)

if-short : (n : ℕ) (t : Bool) (xs ys : List (List ℕ)) → AreShort n xs → AreShort n ys → AreShort n (if t then xs else ys)
if-short n true xs ys x y = x
if-short n false xs ys x y = y

entries_of-short : (rest : List ℕ) → AreShort (length rest) (entries_of rest)
unfolding entries_of
entries_of-short [] zero = omega arith
entries_of-short [] (suc k) = omega arith
entries_of-short (b ∷ bs) k = if-short (suc (length bs)) (b == 44) ([] ∷ entries_of bs) (onto_first b (entries_of bs)) (empty_first-short (length bs) (entries_of bs) (entries_of-short bs)) (onto_first-short (length bs) b (entries_of bs) (entries_of-short bs)) k

-- entries, seen through f
pub All_entries-short : {X : Type 0} (f : X → List ℕ) (xs : List X) (rest : List ℕ) (bound : ℕ) → map f xs ≡ entries_of rest → length rest < bound → All (λ x. length (f x) < bound) xs
All_entries-short f xs rest bound is lt k d within =
    let short : length (get_or (map f xs) k []) ≤ length rest = subst (λ es. length (get_or es k []) ≤ length rest) (sym is) (entries_of-short rest k) in
    let at : length (get_or (map f xs) k []) ≡ length (f (get_or xs k d)) = ap length (get_or-map f xs k d [] within) in
    omega (arith, short, at, lt)

-- ---- what follows the word of a line

drop-short : (k : ℕ) (bs : List ℕ) → length (drop k bs) ≤ length bs
drop-short k bs = omega (arith, length-drop k bs)

take-short : (k : ℕ) (bs : List ℕ) → length (take k bs) ≤ length bs
take-short k bs = omega (arith, length-take k bs)

pub rest_of-short : (line : List ℕ) → length (rest_of line) ≤ length line
rest_of-short line =
    let outer : length (rest_of line) ≤ length (drop (position_or_len is_blank line) line) = drop-short _ (drop (position_or_len is_blank line) line) in
    omega (arith, outer, drop-short (position_or_len is_blank line) line)

rest-of_pair : (o : Option Keyword) (x rest : List ℕ) (k : Keyword) → option_map {U = Keyword × List ℕ} (λ j. (j, x)) o ≡ Some (k, rest) → x ≡ rest
rest-of_pair None x rest k e = absurd (cc)
rest-of_pair (Some j) x rest k e = ap (option_second x) e
  where
    option_second : List ℕ → Option (Keyword × List ℕ) → List ℕ
    option_second d None = d
    option_second d (Some p) = p.1

rest-of_either : (t : Bool) (a b : Option Keyword) (x y rest : List ℕ) (k : Keyword) (n : ℕ) → length x ≤ n → length y ≤ n
    → (if t then option_map {U = Keyword × List ℕ} (λ j. (j, x)) a else option_map {U = Keyword × List ℕ} (λ j. (j, y)) b) ≡ Some (k, rest) → length rest ≤ n
rest-of_either true a b x y rest k n p q e = subst (λ r. length r ≤ n) (rest-of_pair a x rest k e) p
rest-of_either false a b x y rest k n p q e = subst (λ r. length r ≤ n) (rest-of_pair b y rest k e) q

pub head_of-short : (line rest : List ℕ) (k : Keyword) → head_of line ≡ Some (k, rest) → length rest ≤ length line
unfolding head_of
head_of-short line rest k e =
    let inner = rest_of-short (rest_of line) in let outer = rest_of-short line in
    rest-of_either _ _ _ (rest_of (rest_of line)) (rest_of line) rest k (length line) (omega (arith, inner, outer)) outer e

-- ---- lines, and what stands on them

lines_of-short : (text : List ℕ) → AreShort (length text) (lines_of text)
unfolding lines_of
lines_of-short [] k = omega arith
lines_of-short (b ∷ bs) k = if-short (suc (length bs)) (b == 10) ([] ∷ lines_of bs) (onto_first b (lines_of bs)) (empty_first-short (length bs) (lines_of bs) (lines_of-short bs)) (onto_first-short (length bs) b (lines_of bs) (lines_of-short bs)) k

pub first_line-short : (text line : List ℕ) (lines : List (List ℕ)) → lines_of text ≡ line ∷ lines → length line ≤ length text
first_line-short text line lines e = subst (λ ls. length (get_or ls 0 []) ≤ length text) e (lines_of-short text 0)

without_return-short : (line : List ℕ) → length (without_return line) ≤ length line
unfolding without_return
without_return-short [] = omega arith
without_return-short (b ∷ []) = one (b == 13)
  where
    one : (t : Bool) → length (if t then [] else b ∷ []) ≤ 1
    one true = omega arith
    one false = omega arith
without_return-short (b ∷ c ∷ bs) = let ih : length (without_return (c ∷ bs)) ≤ suc (length bs) = without_return-short (c ∷ bs) in omega (arith, ih)

to_last_word-short : (bs : List ℕ) → length (to_last_word bs) ≤ length bs
to_last_word-short bs =
    let inner : length (from_word (reverse bs)) ≤ length (reverse bs) = drop-short _ (reverse bs) in
    omega (arith, inner, length-reverse (from_word (reverse bs)), length-reverse bs)

pub content_of-short : (line : List ℕ) → length (content_of line) ≤ length line
content_of-short line =
    let last = to_last_word-short (from_word (before_comment (without_return line))) in
    let first : length (from_word (before_comment (without_return line))) ≤ length (before_comment (without_return line)) = drop-short _ (before_comment (without_return line)) in
    let comment : length (before_comment (without_return line)) ≤ length (without_return line) = take-short _ (without_return line) in
    omega (arith, last, first, comment, without_return-short line)
