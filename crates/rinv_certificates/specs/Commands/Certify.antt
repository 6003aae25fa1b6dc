-- What `certify` answers to bytes.
--   IsCertificateFor         the certificate of generators of a system
--   IsCertified, IsCutShort  it is printed, or why there is none
--   IsWorkCut               a phase on the way to the generators, or to their proofs, is halted
use Rattle.std.specs.Prelude.{◌≡◌, ℕ, List, []}
use Rattle.rinv_groebner.specs.Journal.{Entry}
use Rattle.rinv_defs.specs.Certificate.{Certificate}
use Rattle.rinv_defs.specs.Accepted.{IsAccepted}
use Rattle.rinv_text.specs.Told.{Told}
use Rattle.rinv_buch.specs.declared.kinds.Why.{Why}
use Rattle.rinv_gens.specs.declared.kinds.Phase.{Phase}
use Rattle.rinv_generators.specs.Generated.{Generated, IsGenerators}
use Rattle.rinv_generators.specs.Stops.{WorkHaltsIn}
use Rattle.rinv_certification.specs.Made.{IsCertificateOf}
use Rattle.rinv_certify.specs.Meets.{CertificateMeets}
use Rattle.rinv_lines.specs.declared.ending.Ending.{Ending}
use Rattle.rinv_lines.specs.declared.ending.Ending.TheVariants.{Done, Denied, Refused, Incomplete}
use Rattle.rinv_answers.specs.declared.incomplete.Phase.TheVariants as phase
use Rattle.rinv_answers.specs.declared.incomplete.Cause.TheVariants as cause
use Rattle.rinv_answers.specs.Budgets.{IsWithin}
use Rattle.rinv_answers.specs.Incomplete.{incomplete_line, cause_of, phase_of}
use Rattle.rinv_answers.specs.Told.{AnswersSystem}
use Rattle.rinv_answers.specs.Commands.Generators.{IsGenDenial}
use Rattle.rinv_certificates.specs.Texts.{IsCertificateText, IsTooLong}

-- the certificate of generators of the system that is told
pub record IsCertificateFor (told : Told) (c : Certificate) : Type 0 where
  pub generators : Generated
  pub are_generators : IsGenerators generators
  pub of_system : generators.told ≡ told
  pub made : IsCertificateOf generators c

-- it is printed, and is accepted, with the system's own ideal and maps: so `check` says yes to what is printed
pub record IsCertified (told : Told) (text : List ℕ) : Type 0 where
  pub certificate : Certificate
  pub for_it : IsCertificateFor told certificate
  pub system : certificate.system ≡ record told.system { section = [] }
  pub accepted : IsAccepted certificate
  pub printed : IsCertificateText certificate text

-- a phase halts, on the way to the generators or to their proofs, with a journal within the budget
pub record IsWorkCut (told : Told) (text : List ℕ) : Type 0 where
  pub phase : Phase
  pub journal : List Entry
  pub why : Why
  pub halts : WorkHaltsIn told phase journal why
  pub within : IsWithin told journal
  pub printed : text ≡ incomplete_line (phase_of phase) (cause_of told why)

-- the making of the certificate meets these degrees
pub record MeetsDegrees (told : Told) (text : List ℕ) : Type 0 where
  pub generators : Generated
  pub are_generators : IsGenerators generators
  pub of_system : generators.told ≡ told
  pub x : ℕ
  pub y : ℕ
  pub meets : CertificateMeets generators x y
  pub printed : text ≡ incomplete_line phase.Certificate (cause.Degree x y)

-- a phase is halted; or the certificate meets degrees, or is too long
pub data IsCutShort (told : Told) (text : List ℕ) : Type 0 where
  in_phase : IsWorkCut told text → IsCutShort told text
  by_degrees : MeetsDegrees told text → IsCutShort told text
  by_length : (c : Certificate) → IsCertificateFor told c → IsTooLong c text → IsCutShort told text

-- the answer to a system
abbrev pub IsMade : Told → List ℕ → Ending → Type 0
IsMade told text Done = IsCertified told text
IsMade told text Denied = IsGenDenial told text
IsMade told text Refused = ⊥
IsMade told text Incomplete = IsCutShort told text

abbrev pub IsCertifyAnswer : List ℕ → List ℕ → Ending → Type 0
IsCertifyAnswer bytes text ending = AnswersSystem IsMade bytes text ending
