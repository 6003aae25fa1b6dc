-- What is printed of a certificate: its JSON text and a line feed, where this is not too long to be read again.
use Rattle.std.specs.Prelude.{◌≡◌, ◌<◌, ◌≤◌, ℕ, List, ◌++◌, length, codes}
use Rattle.rinv_defs.specs.Certificate.{Certificate}
use Rattle.rinv_json.specs.Denoted.{DenotesCertificate}
use Rattle.rinv_json.specs.Written.{json_text}
use Rattle.rinv_answers.specs.declared.incomplete.Phase.TheVariants as phase
use Rattle.rinv_answers.specs.declared.incomplete.Cause.TheVariants as cause
use Rattle.rinv_answers.specs.Incomplete.{incomplete_line}

-- the greatest number of bytes of a certificate's text, which is that of an input
abbrev pub max_text : ℕ
max_text = 16777216

-- the text and a line feed
abbrev pub certificate_text : Certificate → List ℕ
certificate_text c = json_text c ++ codes "\n"

-- they are printed, denote the certificate, and are short enough to be read again
pub record IsCertificateText (c : Certificate) (text : List ℕ) : Type 0 where
  pub fits : length (certificate_text c) ≤ max_text
  pub denoted : DenotesCertificate text c
  pub printed : text ≡ certificate_text c

-- they are too long
pub record IsTooLong (c : Certificate) (text : List ℕ) : Type 0 where
  pub long : max_text < length (certificate_text c)
  pub printed : text ≡ incomplete_line phase.Certificate cause.Length
