-- What an answer of the test of the format says.
use Rattle.std.specs.Prelude.{◌≡◌, ℕ, take, drop, Option, Some, ⊤}
use Rattle.rinv_defs.specs.System.{System}
use Rattle.rinv_defs.specs.SystemForm.{system_parts}
use Rattle.rinv_defs.specs.Format.{first_false}
use Rattle.rinv_form.specs.declared.frame.FormatStop.{FormatStop}
use Rattle.rinv_form.specs.declared.frame.FormatStop.TheVariants.{Part, NoMemory}

-- a part that is named is the one that fails first
abbrev pub StopsAt : Option ℕ → FormatStop → Type 0
StopsAt o (Part k) = o ≡ Some k
StopsAt o NoMemory = ⊤

-- the first of a system's parts that fails, of those before its lists
abbrev pub frame_failure : System → Option ℕ
frame_failure s = first_false (take 3 (system_parts s))

-- the first that fails of a system's lists
abbrev pub lists_failure : System → Option ℕ
lists_failure s = first_false (drop 3 (system_parts s))
