-- The lines of a text, and what stands on each: without the carriage return, the comment and the blanks at both ends.
use Rattle.std.specs.Prelude.{ℕ, List, [], ◌∷◌, map, Bool, not, ◌||◌, ◌==◌, if◌then◌else◌, reverse, drop, Option}
use Rattle.std.specs.List.{list_all, position_from, take_while, position_or_len}
use Rattle.rinv_defs.specs.Names.{is_between}

-- a byte in front of the first line
abbrev pub onto_first : ℕ → List (List ℕ) → List (List ℕ)
onto_first b [] = (b ∷ []) ∷ []
onto_first b (line ∷ lines) = (b ∷ line) ∷ lines

-- the lines of a text, which end at line feeds; one at the very end opens no further line
unfoldable pub lines_of : List ℕ → List (List ℕ)
lines_of [] = []
lines_of (b ∷ bs) = if b == 10 then [] ∷ lines_of bs else onto_first b (lines_of bs)

-- a line without a carriage return at its end
unfoldable pub without_return : List ℕ → List ℕ
without_return [] = []
without_return (b ∷ []) = if b == 13 then [] else b ∷ []
without_return (b ∷ c ∷ bs) = b ∷ without_return (c ∷ bs)

-- tab, and the printable bytes of ASCII
abbrev pub is_allowed : ℕ → Bool
is_allowed b = b == 9 || is_between 32 126 b

-- whether a line has a byte that is not allowed
abbrev pub is_bad_line : List ℕ → Bool
is_bad_line line = not (list_all is_allowed (without_return line))

-- the number of the first line with a byte that is not allowed
abbrev pub first_bad_line : List ℕ → Option ℕ
first_bad_line text = position_from is_bad_line 1 (lines_of text)

-- a space or a tab
abbrev pub is_blank : ℕ → Bool
is_blank b = b == 32 || b == 9

-- without blanks in front
abbrev pub from_word : List ℕ → List ℕ
from_word bs = drop (position_or_len (λ b. not (is_blank b)) bs) bs

-- without blanks at the end
abbrev pub to_last_word : List ℕ → List ℕ
to_last_word bs = reverse (from_word (reverse bs))

-- up to the comment
abbrev pub before_comment : List ℕ → List ℕ
before_comment line = take_while (λ b. not (b == 35)) line

-- what comes before the comment, without blanks at both ends
abbrev pub content_of : List ℕ → List ℕ
content_of line = to_last_word (from_word (before_comment (without_return line)))

-- what stands on each line
abbrev pub contents_of : List ℕ → List (List ℕ)
contents_of text = map content_of (lines_of text)
