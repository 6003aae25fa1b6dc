-- What the answers of the reader say.
use Rattle.std.specs.Prelude.{◌≡◌, ℕ, List, IsTrue}
use Rattle.rinv_text.specs.declared.fault.TextStop.{TextStop}
use Rattle.rinv_text.specs.declared.fault.TextStop.TheVariants as text
use Rattle.rinv_text.specs.Tokens.{number_of}
use Rattle.rinv_system.specs.declared.keyword.Keyword.{Keyword}
use Rattle.rinv_system.specs.declared.refused.Code.{Code}
use Rattle.rinv_system.specs.declared.refused.Code.TheVariants.{Text}
use Rattle.rinv_system.specs.declared.refused.LineStop.{LineStop}
use Rattle.rinv_system.specs.declared.refused.LineStop.TheVariants as line
use Rattle.rinv_system.specs.declared.refused.Refused.{Refused}
use Rattle.rinv_system.specs.declared.refused.SystemStop.{SystemStop}
use Rattle.rinv_system.specs.declared.refused.SystemStop.TheVariants as whole
use Rattle.rinv_system.specs.Entries.{is_numeral}
use Rattle.rinv_system.specs.Drafts.{Draft, blank}
use Rattle.rinv_system.specs.Forms.{is_number_for}
use Rattle.rinv_system.specs.LineTexts.{AreTaken}
use Rattle.rinv_system.specs.Texts.{IsLineTaken}

-- the code of a line's fault has the property; want of memory says nothing
abbrev pub OnCode : (Code → Type 0) → LineStop → Type 0
OnCode P (line.Fault code) = P code
OnCode P line.NoMemory = Unit {0}

-- a refusal has the property; want of memory says nothing
abbrev pub OnRefusal : (Refused → Type 0) → SystemStop → Type 0
OnRefusal P (whole.Refused r) = P r
OnRefusal P whole.NoMemory = Unit {0}

-- the rest of a line is a number that its word may have
abbrev pub IsNumberFor : Keyword → List ℕ → ℕ → Type 0
IsNumberFor k rest n = (n ≡ number_of rest) × IsTrue (is_numeral rest) × IsTrue (is_number_for k (number_of rest))

-- some lines make the draft
abbrev pub IsReached : Draft → Type 0
IsReached d = (lines : List (List ℕ)) × AreTaken IsLineTaken blank lines d

-- the fault of an entry as that of its line
abbrev pub line_stop : TextStop → LineStop
line_stop (text.Fault f) = line.Fault (Text f.code)
line_stop text.NoMemory = line.NoMemory

-- the fault of a line as that of its text
abbrev pub stop_at : ℕ → LineStop → SystemStop
stop_at n (line.Fault c) = whole.Refused (record { line = n; code = c })
stop_at n line.NoMemory = whole.NoMemory
