-- Lists with commas, names and numbers, as the rest of a line has them.
use Rattle.std.specs.Prelude.{ℕ, List, [], ◌∷◌, length, map, Bool, false, ◌&&◌, ◌==◌, nat_lt, if◌then◌else◌}
use Rattle.std.specs.List.{list_all}
use Rattle.rinv_defs.specs.Names.{is_letter, is_digit}
use Rattle.rinv_text.specs.Tokens.{is_name_byte}
use Rattle.rinv_system.specs.Lines.{onto_first, from_word, to_last_word}

-- what stands between commas
unfoldable pub entries_of : List ℕ → List (List ℕ)
entries_of [] = [] ∷ []
entries_of (b ∷ bs) = if b == 44 then [] ∷ entries_of bs else onto_first b (entries_of bs)

-- the same without blanks at both ends
abbrev pub words_of : List ℕ → List (List ℕ)
words_of rest = map (λ e. to_last_word (from_word e)) (entries_of rest)

-- a letter, and then letters, digits and underscores, however many
abbrev pub is_name_word : List ℕ → Bool
is_name_word [] = false
is_name_word (b ∷ bs) = is_letter b && list_all is_name_byte bs

-- decimal digits, one or more
abbrev pub is_numeral : List ℕ → Bool
is_numeral rest = nat_lt 0 (length rest) && list_all is_digit rest
