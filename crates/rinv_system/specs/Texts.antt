-- The system that a text denotes, or the line at which it is refused and the code.
use Rattle.std.specs.Prelude.{◌≡◌, ℕ, List, [], Some, None, unwrap_or}
use Rattle.rinv_defs.specs.System.{System}
use Rattle.rinv_text.specs.Told.{Told}
use Rattle.rinv_system.specs.declared.keyword.Keyword.{Keyword}
use Rattle.rinv_system.specs.declared.refused.Code.{Code}
use Rattle.rinv_system.specs.declared.refused.Code.TheVariants.{Word}
use Rattle.rinv_system.specs.declared.refused.Refused.{Refused}
use Rattle.rinv_system.specs.Words.{head_of}
use Rattle.rinv_system.specs.Drafts.{Draft, blank, modulus, group_names, space_names, order_fault, is_whole}
use Rattle.rinv_system.specs.Forms.{IsRestRefused, IsRestTaken}
use Rattle.rinv_system.specs.LineTexts as lines

-- what stands on a line is refused: its word, its place among the lines, or its rest
pub data IsLineRefused (d : Draft) (line : List ℕ) : Code → Type 0 where
  no_word : ¬ (line ≡ []) → head_of line ≡ None → IsLineRefused d line Word
  no_place : {k : Keyword} {rest : List ℕ} {code : Code} → ¬ (line ≡ []) → head_of line ≡ Some (k, rest) → order_fault d k ≡ Some code → IsLineRefused d line code
  no_rest : {k : Keyword} {rest : List ℕ} {code : Code} → ¬ (line ≡ []) → head_of line ≡ Some (k, rest) → order_fault d k ≡ None → IsRestRefused d rest k code → IsLineRefused d line code

-- what stands on a line is nothing, or is taken, and makes the draft that follows
pub data IsLineTaken (d : Draft) (line : List ℕ) : Draft → Type 0 where
  empty : line ≡ [] → IsLineTaken d line d
  taken : {k : Keyword} {rest : List ℕ} {next : Draft} → ¬ (line ≡ []) → head_of line ≡ Some (k, rest) → order_fault d k ≡ None → IsRestTaken d rest k next → IsLineTaken d line next

-- the system of a whole draft; a missing ideal is the empty one, and so is a missing section
abbrev pub system_of : Draft → System
system_of d = record {
  p = modulus d;
  group = group_names d;
  space = space_names d;
  ideal = unwrap_or d.ideal [];
  unit = unwrap_or d.unit [];
  product = unwrap_or d.product [];
  inverse = unwrap_or d.inverse [];
  action = unwrap_or d.action [];
  section = unwrap_or d.section [];
}

-- what a whole draft tells, with 10,000 pairs and 10,000,000 steps where it does not say how many
abbrev pub told_by : Draft → Told
told_by d = record { system = system_of d; pairs = unwrap_or d.pairs 10000; steps = unwrap_or d.steps 10000000 }

-- the text tells the system
pub record IsSystemText (text : List ℕ) (told : Told) : Type 0 where
  pub draft : Draft
  pub is_text : lines.IsText IsLineTaken blank is_whole text draft
  pub is : told ≡ told_by draft

-- the text is refused at a line
abbrev pub IsRefusedText : List ℕ → Refused → Type 0
IsRefusedText text refused = lines.IsRefusedText IsLineRefused IsLineTaken blank is_whole text refused
