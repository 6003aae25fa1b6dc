-- What `certify` printed once it was done is accepted.
--   short, accepted
use Rattle.std.proofs.Common.{◌≡◌, ℕ, ◌≤◌, List, length, Bool, true, false, Option, Some, None, refl, sym, ap, ◌∙◌, subst, true≢false}
use Rattle.serde_json.specs.Data.{Data}
use Rattle.rinv_defs.specs.Certificate.{Certificate}
use Rattle.rinv_defs.specs.Accepted.{first_failure}
use Rattle.rinv_json.specs.Reading.{Reading, found, refused}
use Rattle.rinv_json.specs.Certificates.{certificate_of}
use Rattle.rinv_json.specs.Denoted.{DenotesCertificate, IsJson, IsRefused}
use Rattle.rinv_text.specs.Told.{Told}
use Rattle.rinv_lines.specs.declared.ending.Ending.{Ending}
use Rattle.rinv_lines.specs.declared.ending.Ending.TheVariants.{Done, Denied, Refused, Incomplete}
use Rattle.rinv_answers.specs.Told.{AnswersTold}
use Rattle.rinv_verdict.specs.Check.{IsCheckAnswer}
use Rattle.rinv_certificates.specs.Commands.Certify.{IsCertified, IsCertifyAnswer, IsMade}
use Rattle.rinv_certificates.specs.Texts.{max_text}

-- a text denotes one certificate, and is not refused
abbrev data-of : Option Data → Data → Data
data-of None d = d
data-of (Some e) d = e

one-value : (text : List ℕ) (d e : Data) → IsJson text d → IsJson text e → d ≡ e
one-value text d e h k = ap (λ (o : Option Data). data-of o d) (sym h.value ∙ k.value)

abbrev certificate-in : Reading Certificate → Certificate → Certificate
certificate-in (found x) c = x
certificate-in (refused part place) c = c

abbrev is-found : Reading Certificate → Bool
is-found (found x) = true
is-found (refused part place) = false

one-certificate : (text : List ℕ) (c d : Certificate) → DenotesCertificate text c → DenotesCertificate text d → d ≡ c
one-certificate text c d h k =
    ap (λ (r : Reading Certificate). certificate-in r d) (sym k.is ∙ ap certificate_of (one-value text k.json h.json k.text h.text) ∙ h.is)

never-refused : (text part : List ℕ) (place : ℕ) (c : Certificate) → DenotesCertificate text c → IsRefused text part place → ⊥
never-refused text part place c h (IsRefused.no_json none word first) = none h.json h.text
never-refused text part place c h (IsRefused.at_part d json is) =
    true≢false (sym (ap is-found (sym is ∙ ap certificate_of (one-value text d h.json json h.text) ∙ h.is)))

abbrev is-some : Option (ℕ × ℕ) → Bool
is-some None = false
is-some (Some f) = true

-- ---- the answer of `check`

checked : (told : Told) (text shown : List ℕ) (ending : Ending) → IsCertified told text → IsCheckAnswer text shown ending → ending ≡ Done
checked told text shown Done y a = refl
checked told text shown Denied y a =
    let same = one-certificate text y.certificate a.certificate y.printed.denoted a.denoted in
    absurd (true≢false (ap is-some (sym a.fails ∙ ap first_failure same ∙ y.accepted)))
checked told text shown Refused y a = absurd (never-refused text a.part a.place y.certificate y.printed.denoted a.refused)
checked told text shown Incomplete y a = absurd a

certified-of : (told : Told) (text : List ℕ) → IsMade told text Done → IsCertified told text
certified-of told text t = t

pub accepted : (bytes text shown : List ℕ) (ending : Ending) → IsCertifyAnswer bytes text Done → IsCheckAnswer text shown ending → ending ≡ Done
accepted bytes text shown ending (AnswersTold.answered told denoted t) a = checked told text shown ending (certified-of told text t) a

pub short : (bytes text : List ℕ) → IsCertifyAnswer bytes text Done → length text ≤ max_text
short bytes text (AnswersTold.answered told denoted t) = let y = certified-of told text t in subst (λ (s : List ℕ). length s ≤ max_text) (sym y.printed.printed) y.printed.fits
