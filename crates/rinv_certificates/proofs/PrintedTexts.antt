-- What is printed of a certificate.
--   denoted-fed          a text and a line feed denote what the text does
--   certified            the certificate of generators is printed
--   too-long             or is too long
use Rattle.std.proofs.Common.{◌≡◌, ℕ, ◌<◌, ◌≤◌, List, [], ◌∷◌, length, ◌∙◌, subst, refl}
use Rattle.std.specs.Prelude.{IsUtf8}
use Rattle.std.proofs.lemmas.Str.{IsUtf8-append}
use Rattle.rinv_defs.specs.Certificate.{Certificate}
use Rattle.rinv_defs.specs.Accepted.{IsAccepted}
use Rattle.rinv_json.specs.Denoted.{DenotesCertificate}
use Rattle.rinv_json.specs.Ranges.{IsWritable}
use Rattle.rinv_json.specs.Written.{json_text}
use Rattle.rinv_json.proofs.SmallValues.{certificate_line_feed}
use Rattle.rinv_generators.specs.Generated.{Generated, IsGenerators}
use Rattle.rinv_certification.specs.Made.{HasCommonPart, IsCertificateOf}
use Rattle.rinv_answers.specs.declared.incomplete.Phase.TheVariants as phase
use Rattle.rinv_answers.specs.declared.incomplete.Cause.TheVariants as cause
use Rattle.rinv_answers.specs.Incomplete.{incomplete_line}
use Rattle.rinv_certificates.specs.Commands.Certify.{IsCertificateFor, IsCertified, IsCutShort}
use Rattle.rinv_certificates.specs.Texts.{certificate_text, max_text}

fed : IsUtf8 (10 ∷ [])
unfolding lib.Utf8.encode
fed = (10 ∷ [], (refl, refl))

-- a text and a line feed denote what the text does
pub denoted-fed : (c : Certificate) → IsWritable c → DenotesCertificate (json_text c) c → DenotesCertificate (certificate_text c) c
denoted-fed c small d = record {
  json = d.json;
  text = record { text = IsUtf8-append (json_text c) (10 ∷ []) d.text.text fed; value = certificate_line_feed c small ∙ d.text.value };
  is = d.is;
}

-- the keys of every certificate
common-of : (g : Generated) (c : Certificate) → IsCertificateOf g c → HasCommonPart g c
common-of g c (IsCertificateOf.is_full none kind common basis) = common
common-of g c (IsCertificateOf.is_sound some kind common nothing) = common

is-for : (g : Generated) (c : Certificate) → IsGenerators g → IsCertificateOf g c → IsCertificateFor g.told c
is-for g c gens made = record { generators = g; are_generators = gens; of_system = refl; made = made }

-- the certificate of generators is printed
pub certified : (g : Generated) (c : Certificate) (text : List ℕ) → IsGenerators g → IsCertificateOf g c → IsAccepted c → IsWritable c → text ≡ certificate_text c → DenotesCertificate text c → length text ≤ max_text → IsCertified g.told text
certified g c text gens made accepted small printed denoted fits = record {
  certificate = c;
  for_it = is-for g c gens made;
  system = (common-of g c made).system;
  accepted = accepted;
  printed = record { fits = subst (λ (t : List ℕ). length t ≤ max_text) printed fits; denoted = denoted; printed = printed };
}

-- it is too long
pub too-long : (g : Generated) (c : Certificate) (text line : List ℕ) → IsGenerators g → IsCertificateOf g c → text ≡ certificate_text c → max_text < length text → line ≡ incomplete_line phase.Certificate cause.Length → IsCutShort g.told line
too-long g c text line gens made printed long is =
    IsCutShort.by_length c (is-for g c gens made) (record { long = subst (λ (t : List ℕ). max_text < length t) printed long; printed = is })
