-- A run that certifies, and a run that checks what it wrote.
use Rattle.std.specs.Prelude.{◌≡◌, ℕ, List, ◌++◌, String, Option, Some}
use Rattle.std.specs.declared.alloc.Global.{Global}
use Rattle.rinv_commands.specs.declared.command.Command.TheVariants.{Certify, Check}
use Rattle.rinv_lines.specs.declared.ending.Ending.{Ending}
use Rattle.rinv_lines.specs.declared.ending.Ending.TheVariants as ends
use Rattle.rinv_serve.specs.declared.status.Status.TheVariants.{Done}
use Rattle.rinv_serve.specs.Run.{IsRun, Delivers}
use Rattle.rinv_serve.specs.Words.{command_of}

-- the word is `certify`, the run was done, and this text is what the sink holds more
pub record Certifies (words : List (String Global)) (left left' written written' : Option (List ℕ)) (before text : List ℕ) : Type 0 where
  pub words_ask : command_of words ≡ Some Certify
  pub run : IsRun words left left' written written' Done
  pub old : written ≡ Some before
  pub new : written' ≡ Some (before ++ text)

-- the word is `check`, the source has this text and no more, and the whole answer was written, with this ending
pub record Checks (words : List (String Global)) (left left' written written' : Option (List ℕ)) (text : List ℕ) (ending : Ending) : Type 0 where
  pub words_ask : command_of words ≡ Some Check
  pub source : left ≡ Some text
  pub run : Delivers words left left' written written' ending

-- what the one wrote, the other accepts, whatever their words, sources and sinks
abbrev pub CertifiedIsAccepted : Type 0
CertifiedIsAccepted = (words : List (String Global)) (left left' written written' : Option (List ℕ)) (before text : List ℕ) →
    (other : List (String Global)) (source source' sink sink' : Option (List ℕ)) (ending : Ending) →
    Certifies words left left' written written' before text → Checks other source source' sink sink' text ending → ending ≡ ends.Done
