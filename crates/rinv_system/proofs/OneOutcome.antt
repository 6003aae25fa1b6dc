-- A text has one system or one refusal, and not both.
use Rattle.std.proofs.Common.{◌≡◌, ◌⊎◌, inl, inr, ℕ, List, refl, sym, ap, ◌∙◌}
use Rattle.rinv_text.specs.Told.{Told}
use Rattle.rinv_system.specs.declared.refused.Refused.{Refused}
use Rattle.rinv_system.specs.Drafts.{Draft, blank, is_whole}
use Rattle.rinv_system.specs.LineTexts as lines
use Rattle.rinv_system.specs.Texts.{IsLineTaken, IsLineRefused, IsSystemText, IsRefusedText, told_by}
use Rattle.rinv_system.specs.OneSystem.{HasOneSystem}
use Rattle.rinv_system.proofs.Good.{IsGood, good-listed, line-good}
use Rattle.rinv_system.proofs.OneNext.{one-next}
use Rattle.rinv_system.proofs.OneDraft.{one-code, not-taken}
use Rattle.rinv_system.proofs.OneReading.{has_one_reading}
use Rattle.rinv_system.proofs.SomeOutcome.{line_outcome}

-- each line has one answer
pub lines-apart : lines.AreApart IsLineRefused IsLineTaken IsGood
lines-apart = record {
  kept = line-good;
  one_next = λ d next other line good a b. one-next d line next other (good-listed good) a b;
  one_code = λ d line a b good r s. one-code d line a b r s;
  not_both = λ d next line code good t r. not-taken d next line code t r;
}

pub lines-answered : lines.AreAnswered IsLineRefused IsLineTaken IsGood
lines-answered d line good = line_outcome d (good-listed good) line

module _ (text : List ℕ) where
  reading : lines.HasOneReading IsLineRefused IsLineTaken blank is_whole text
  reading = has_one_reading IsLineRefused IsLineTaken IsGood lines-apart blank IsGood.start is_whole text lines-answered

  one-system : (a b : Told) → IsSystemText text a → IsSystemText text b → a ≡ b
  one-system a b h g = h.is ∙ ap told_by (reading.one_told h.draft g.draft h.is_text g.is_text) ∙ sym g.is

  outcome : ((d : Draft) × lines.IsText IsLineTaken blank is_whole text d) ⊎ ((refused : Refused) × IsRefusedText text refused) → ((told : Told) × IsSystemText text told) ⊎ ((refused : Refused) × IsRefusedText text refused)
  outcome (inl (d, told)) = inl (told_by d, record { draft = d; is_text = told; is = refl })
  outcome (inr r) = inr r

  pub has_one_system : HasOneSystem text
  has_one_system = record {
    one_system = one-system;
    one_refusal = reading.one_refusal;
    not_both = λ a b h r. reading.not_both h.draft b h.is_text r;
    read_or_refused = outcome reading.read_or_refused;
  }
