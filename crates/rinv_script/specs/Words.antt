-- The words of script lines, and which of them a form allows.
use Rattle.std.specs.Prelude.{ℕ, List, Bool, true, false, bytes_eq, codes, if◌then◌else◌, Option, Some, None, option_map}
use Rattle.rinv_algebra.specs.Fraction.{Fraction}
use Rattle.rinv_system.specs.Words.{word_of, rest_of}
use Rattle.rinv_script.specs.declared.form.Form.{Form}
use Rattle.rinv_script.specs.declared.form.Form.TheVariants.{SystemOnly, Rewrites, Whole}
use Rattle.rinv_script.specs.declared.words.ScriptWord.{ScriptWord}
use Rattle.rinv_script.specs.declared.words.ScriptWord.TheVariants.{Def, Laws, Generators, Invariant, Rewrite}
use Rattle.rinv_script.specs.Queries.{Query, for_laws, for_generators, whether_invariant, for_expression}

unfoldable pub script_word_of : List ℕ → Option ScriptWord
script_word_of word =
    if bytes_eq word (codes "def") then Some Def
    else if bytes_eq word (codes "laws") then Some Laws
    else if bytes_eq word (codes "generators") then Some Generators
    else if bytes_eq word (codes "invariant") then Some Invariant
    else if bytes_eq word (codes "rewrite") then Some Rewrite
    else None

-- no word, `rewrite` alone, or all
abbrev pub allows : Form → ScriptWord → Bool
allows SystemOnly w = false
allows Rewrites Rewrite = true
allows Rewrites _ = false
allows Whole w = true

-- the word, where the form allows it
abbrev pub if_allowed : Form → Option ScriptWord → Option ScriptWord
if_allowed form None = None
if_allowed form (Some w) = if allows form w then Some w else None

-- the script word of a line, and what follows it
unfoldable pub script_head : Form → List ℕ → Option (ScriptWord × List ℕ)
script_head form line = option_map (λ w. (w, rest_of line)) (if_allowed form (script_word_of (word_of line)))

-- the words that ask something with no more words, and with a fraction
pub data AsksAlone : ScriptWord → Query → Type 0 where
  laws_alone : AsksAlone Laws for_laws
  generators_alone : AsksAlone Generators for_generators

pub data AsksOf : ScriptWord → (Fraction ℕ → Query) → Type 0 where
  of_invariance : AsksOf Invariant whether_invariant
  of_expression : AsksOf Rewrite for_expression
