-- The headline of a run.
use Rattle.std.specs.Prelude.{◌≡◌, ℕ, List, String, Option, Some, ◌≢◌, ◌++◌}
use Rattle.std.specs.declared.alloc.Global.{Global}
use Rattle.std.specs.Io.KnownBytes.{Consumes}
use Rattle.rinv_commands.specs.declared.command.Command.{Command}
use Rattle.rinv_commands.specs.Headline.{IsHeadline, EndsComplete}
use Rattle.rinv_commands.specs.Inputs.{reads}
use Rattle.rinv_serve.specs.Run.{LeavesSo}
use Rattle.rinv_serve.specs.Words.{command_of}
use Rattle.rinv_serve.specs.declared.status.Status.{Status}
use Rattle.rinv_serve.specs.declared.status.Status.TheVariants.{WriteFault}

-- the words are a command, these bytes were its input, all that the source had, or none where it has no input, and the headline holds of
-- them and of the text
pub record HeadlineHolds (words : List (String Global)) (left left' : Option (List ℕ)) (text : List ℕ) : Type 0 where
  pub asked : Command
  pub words_ask : command_of words ≡ Some asked
  pub bytes : List ℕ
  pub taken : Consumes left left' bytes
  pub end : LeavesSo (reads asked) left left' bytes
  pub headline : IsHeadline asked bytes text

-- where the sink did not fail, and what is written more ends with `complete`, the headline holds of it
abbrev pub TellsTruly : List (String Global) → Option (List ℕ) → Option (List ℕ) → Option (List ℕ) → Option (List ℕ) → Status → Type 0
TellsTruly words left left' written written' result =
    (before text : List ℕ) → result ≢ WriteFault → written ≡ Some before → written' ≡ Some (before ++ text) → EndsComplete text → HeadlineHolds words left left' text
