-- The form of a certificate speaks of the keys of its kind alone.
--   keys-form         the form of the keys of a kind
--   trimmed-form      a certificate has its form where its own keys do
use Rattle.std.proofs.Common.{◌≡◌, refl, ap, sym, ◌∙◌}
use Rattle.rinv_defs.specs.Certificate.{Certificate, Kind, invariance, sound, full}
use Rattle.rinv_defs.specs.Format.{first_false, parts_of_kind, format_failure}
use Rattle.rinv_form.specs.Trimmed.{keys_of_kind, trimmed}

pub keys-form : (k : Kind) (c : Certificate) → format_failure (keys_of_kind k c) ≡ first_false (parts_of_kind k c)
unfolding format_failure
keys-form invariance c = refl
keys-form sound c = refl
keys-form full c = refl

pub form-of_kind : (k : Kind) (c : Certificate) → c.kind ≡ k → format_failure c ≡ first_false (parts_of_kind k c)
unfolding format_failure
form-of_kind k c e = ap (λ k. first_false (parts_of_kind k c)) e

pub trimmed-form : (c : Certificate) → format_failure (trimmed c) ≡ format_failure c
trimmed-form c = keys-form c.kind c ∙ sym (form-of_kind c.kind c refl)

-- what every kind has stays as it is
pub keys-system : (k : Kind) (c : Certificate) → (keys_of_kind k c).system ≡ c.system
keys-system invariance c = refl
keys-system sound c = refl
keys-system full c = refl

pub keys-fractions : (k : Kind) (c : Certificate) → (keys_of_kind k c).fractions ≡ c.fractions
keys-fractions invariance c = refl
keys-fractions sound c = refl
keys-fractions full c = refl
