-- What a verdict says.
use Rattle.std.specs.Prelude.{ℕ, Option, Some, None}
use Rattle.rinv_check.specs.declared.verdict.Verdict.{Verdict}
use Rattle.rinv_check.specs.declared.verdict.Verdict.TheVariants.{Yes, No}

-- the condition that fails first, and the place at which it does
abbrev pub failure_of : Verdict → Option (ℕ × ℕ)
failure_of Yes = None
failure_of (No condition index) = Some (condition, index)

-- that of the condition with a number, or of those after it
abbrev pub or_after : ℕ → Option ℕ → Option (ℕ × ℕ) → Option (ℕ × ℕ)
or_after condition None after = after
or_after condition (Some index) after = Some (condition, index)
