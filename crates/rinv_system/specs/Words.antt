-- The words that begin lines, and what follows them.
use Rattle.std.specs.Prelude.{ℕ, List, drop, not, bytes_eq, codes, if◌then◌else◌, Option, Some, None, option_map}
use Rattle.std.specs.List.{take_while, position_or_len}
use Rattle.rinv_system.specs.declared.keyword.Keyword.{Keyword}
use Rattle.rinv_system.specs.declared.keyword.Keyword.TheVariants.{Field, Group, Space, Ideal, Unit, Product, Inverse, Action, Section, Pairs, Steps}
use Rattle.rinv_system.specs.Lines.{is_blank, from_word}

-- the first word of a line: up to the next blank, or the end
abbrev pub word_of : List ℕ → List ℕ
word_of line = take_while (λ b. not (is_blank b)) line

-- what follows the first word, without blanks in front
abbrev pub rest_of : List ℕ → List ℕ
rest_of line = from_word (drop (position_or_len is_blank line) line)

-- the words of the text but `budget`
unfoldable pub keyword_of : List ℕ → Option Keyword
keyword_of word =
    if bytes_eq word (codes "field") then Some Field
    else if bytes_eq word (codes "group") then Some Group
    else if bytes_eq word (codes "space") then Some Space
    else if bytes_eq word (codes "ideal") then Some Ideal
    else if bytes_eq word (codes "unit") then Some Unit
    else if bytes_eq word (codes "product") then Some Product
    else if bytes_eq word (codes "inverse") then Some Inverse
    else if bytes_eq word (codes "action") then Some Action
    else if bytes_eq word (codes "section") then Some Section
    else None

-- the words after `budget`
unfoldable pub budget_of : List ℕ → Option Keyword
budget_of word =
    if bytes_eq word (codes "pairs") then Some Pairs
    else if bytes_eq word (codes "steps") then Some Steps
    else None

-- what a line tells by its first word, or by its second after `budget`, and what follows
unfoldable pub head_of : List ℕ → Option (Keyword × List ℕ)
head_of line =
    if bytes_eq (word_of line) (codes "budget")
    then option_map (λ k. (k, rest_of (rest_of line))) (budget_of (word_of (rest_of line)))
    else option_map (λ k. (k, rest_of line)) (keyword_of (word_of line))
