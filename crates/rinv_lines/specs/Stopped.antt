-- An answer in place of what was to be found.
use Rattle.std.specs.Prelude.{ℕ, List, ⊤}
use Rattle.rinv_lines.specs.declared.ending.Ending.{Ending}
use Rattle.rinv_lines.specs.declared.stopped.Stopped.{Stopped}
use Rattle.rinv_lines.specs.declared.stopped.Stopped.TheVariants.{Answer, NoMemory}

-- what is printed, and how that ends, is so; want of memory says nothing
abbrev pub StopsSo : (List ℕ → Ending → Type 0) → Stopped → Type 0
StopsSo IsSo (Answer text ending) = IsSo text.items ending
StopsSo IsSo NoMemory = ⊤
