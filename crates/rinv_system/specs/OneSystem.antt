-- A text has one system or one refusal, and not both.
use Rattle.std.specs.Prelude.{◌≡◌, ◌⊎◌, ℕ, List}
use Rattle.rinv_text.specs.Told.{Told}
use Rattle.rinv_system.specs.declared.refused.Refused.{Refused}
use Rattle.rinv_system.specs.Texts.{IsSystemText, IsRefusedText}

pub record HasOneSystem (text : List ℕ) : Type 0 where
  pub one_system : (a b : Told) → IsSystemText text a → IsSystemText text b → a ≡ b
  pub one_refusal : (a b : Refused) → IsRefusedText text a → IsRefusedText text b → a ≡ b
  pub not_both : (a : Told) (b : Refused) → IsSystemText text a → ¬ (IsRefusedText text b)
  pub read_or_refused : ((told : Told) × IsSystemText text told) ⊎ ((refused : Refused) × IsRefusedText text refused)
