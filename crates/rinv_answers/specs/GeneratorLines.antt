-- The lines that are printed of generators.
use Rattle.std.specs.Prelude.{ℕ, List, ◌++◌, length, codes, ◌==◌, if◌then◌else◌}
use Rattle.rinv_defs.specs.System.{System, Poly}
use Rattle.rinv_defs.specs.Invariant.{Fraction}
use Rattle.rinv_defs.specs.Text.{poly_text, fraction_lines}

-- y1 = .., y2 = .., and so on
abbrev pub generator_lines : System → List Fraction → List ℕ
generator_lines s cs = fraction_lines s.p s.space 1 cs

-- the last line where there are generators
abbrev pub complete_line : System → List ℕ
complete_line s = if length s.section == 0 then codes "complete\n" else codes "complete on section\n"

-- the generators, and the last line
abbrev pub gen_text : System → List Fraction → List ℕ
gen_text s cs = generator_lines s cs ++ complete_line s

-- the section misses the orbits, as a polynomial in the space's variables shows
unfoldable pub missed_text : System → Poly → List ℕ
missed_text s d = codes "denied section misses element " ++ poly_text s.p s.space d ++ codes "\n"
