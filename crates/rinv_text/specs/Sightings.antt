-- The refusals that tokens alone show, as the reader sees tokens.
use Rattle.std.specs.Prelude.{◌≡◌, map, length, Ok, ℕ, ◌+◌, ◌-◌, List, [], ◌∷◌, Bool, false, ◌||◌, nat_le, if◌then◌else◌, Option, Some, None}
use Rattle.rinv_text.specs.declared.token.Kind.{Kind}
use Rattle.rinv_text.specs.declared.token.Kind.TheVariants.{Numeral, Word, Opening, Closing}
use Rattle.rinv_text.specs.declared.token.Placed.{Placed}
use Rattle.rinv_text.specs.declared.size.Size.{Size}
use Rattle.rinv_text.specs.declared.fault.TextFault.{TextFault}
use Rattle.rinv_text.specs.declared.fault.TextCode.{TextCode}
use Rattle.rinv_text.specs.declared.fault.TextCode.TheVariants.{Name, Limit, FormalDegree, FormalTerms}
use Rattle.rinv_text.specs.declared.step.Step.{Step}
use Rattle.rinv_text.specs.Tokens.{Placed as Token}
use Rattle.rinv_text.specs.Reading.{Definition, place_of, known_names}
use Rattle.rinv_text.specs.Images.{literal_of, seen}
use Rattle.rinv_text.specs.Automaton.{initial, parsed}
use Rattle.rinv_text.specs.Stops.{max_nesting}

-- the place behind all names
abbrev pub is_unknown_word : ℕ → Kind → Bool
is_unknown_word count (Word k) = nat_le count k
is_unknown_word count _ = false

unfoldable pub first_unknown_word : ℕ → List Placed → Option ℕ
first_unknown_word count [] = None
first_unknown_word count (t ∷ ts) = if is_unknown_word count t.kind then Some t.place else first_unknown_word count ts

abbrev pub is_great_numeral : Kind → Bool
is_great_numeral (Numeral l) = l.is_too_great
is_great_numeral _ = false

abbrev pub nesting_behind : ℕ → Kind → ℕ
nesting_behind nesting Opening = nesting + 1
nesting_behind nesting Closing = nesting - 1
nesting_behind nesting _ = nesting

unfoldable pub exceeds : (nesting : ℕ) → List Placed → Bool
exceeds nesting [] = false
exceeds nesting (t ∷ ts) = is_great_numeral t.kind || nat_le (max_nesting + 1) (nesting_behind nesting t.kind) || exceeds (nesting_behind nesting t.kind) ts

abbrev pub first_place : List Placed → ℕ
first_place [] = 0
first_place (t ∷ ts) = t.place

-- what the size shows
abbrev pub size_excess : Option Size → Option TextCode
size_excess None = Some FormalDegree
size_excess (Some s) = if s.is_high then Some FormalDegree else if s.is_long then Some FormalTerms else None

-- what is too great, in the order of the refusals
abbrev pub excess_of : List Placed → Option Size → Option TextCode
excess_of ts size = if exceeds 0 ts then Some Limit else size_excess size

abbrev pub fault_by : List Placed → Option ℕ → Option TextCode → Option TextFault
fault_by ts (Some place) found = Some (record { place = place; code = Name })
fault_by ts None (Some code) = Some (record { place = first_place ts; code = code })
fault_by ts None None = None

-- the first refusal of tokens and their size, where there are `count` names
abbrev pub fault_of : ℕ → List Placed → Option Size → Option TextFault
fault_of count ts size = fault_by ts (first_unknown_word count ts) (excess_of ts size)

-- the reader has these tokens, sees them so, and has these steps of their expression
pub record IsRead (p : ℕ) (known : List (List ℕ)) (tokens : List Token) (end : ℕ) (ts : List Placed) (ss : List Step) : Type 0 where
  pub are : ts ≡ map (seen (literal_of p) (place_of known)) tokens
  pub steps : parsed end initial ts ≡ Ok ss

-- the reader sees these tokens of a fraction so, where the names are those of v variables and of abbreviations
pub record AreSeen (p v : ℕ) (names : List (List ℕ)) (defs : List Definition) (known : List (List ℕ)) (ps : List Token) (ts : List Placed) : Type 0 where
  pub are_known : known ≡ known_names names defs
  pub many : length names ≡ v
  pub are : ts ≡ map (seen (literal_of p) (place_of known)) ps

-- and has these steps of their expression
pub record IsFractionRead (p v : ℕ) (names : List (List ℕ)) (defs : List Definition) (known : List (List ℕ)) (ps : List Token) (end : ℕ) (ts : List Placed) (ss : List Step) : Type 0 where
  pub tokens : AreSeen p v names defs known ps ts
  pub steps : parsed end initial ts ≡ Ok ss
