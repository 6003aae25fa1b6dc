-- The text that is written of a system: a line for each part, and for each budget that is not the usual one.
use Rattle.std.specs.Prelude.{ℕ, ◌≤◌, List, [], ◌∷◌, ◌++◌, length, map, flat_map, codes, decimal, All, ◌==◌, if◌then◌else◌}
use Rattle.rinv_defs.specs.System.{System, Poly}
use Rattle.rinv_defs.specs.SystemForm.{IsSystem}
use Rattle.rinv_defs.specs.Text.{join, poly_text}
use Rattle.rinv_text.specs.Told.{Told}
use Rattle.rinv_text.specs.Names.{copies}
use Rattle.rinv_text.specs.Printable.{IsWithinLimits}
use Rattle.rinv_system.specs.Forms.{max_pairs, max_steps}

-- ---- lists

-- entries with a comma and a blank between each two
abbrev pub list_text : List (List ℕ) → List ℕ
list_text entries = join (codes ", ") entries

-- polynomials over the residues modulo p, in variables with these names
abbrev pub polynomials_text : ℕ → List (List ℕ) → List Poly → List ℕ
polynomials_text p names fs = list_text (map (poly_text p names) fs)

abbrev pub numbers_text : List ℕ → List ℕ
numbers_text ns = list_text (map decimal ns)

-- ---- lines

-- a word and what follows it
abbrev pub line_text : List ℕ → List ℕ → List ℕ
line_text word rest = word ++ codes " " ++ rest

-- the lines that come first
abbrev pub first_lines : System → List (List ℕ)
first_lines s = line_text (codes "field") (decimal s.p) ∷ line_text (codes "group") (list_text s.group) ∷ line_text (codes "space") (list_text s.space) ∷ []

-- no line for the empty ideal
abbrev pub ideal_lines : System → List (List ℕ)
ideal_lines s = if length s.ideal == 0 then [] else line_text (codes "ideal") (polynomials_text s.p s.group s.ideal) ∷ []

abbrev pub product_line : System → List ℕ
product_line s = line_text (codes "product") (polynomials_text s.p (copies 2 s.group) s.product)

abbrev pub inverse_line : System → List ℕ
inverse_line s = line_text (codes "inverse") (polynomials_text s.p s.group s.inverse)

abbrev pub action_line : System → List ℕ
action_line s = line_text (codes "action") (polynomials_text s.p (s.group ++ s.space) s.action)

abbrev pub map_lines : System → List (List ℕ)
map_lines s = line_text (codes "unit") (numbers_text s.unit) ∷ product_line s ∷ inverse_line s ∷ action_line s ∷ []

-- no line where there is no section
abbrev pub section_lines : System → List (List ℕ)
section_lines s = if length s.section == 0 then [] else line_text (codes "section") (polynomials_text s.p s.space s.section) ∷ []

-- no line for the usual number
abbrev pub budget_lines : List ℕ → ℕ → ℕ → List (List ℕ)
budget_lines word usual n = if n == usual then [] else line_text word (decimal n) ∷ []

abbrev pub written_lines : Told → List (List ℕ)
written_lines t =
    first_lines t.system ++ ideal_lines t.system ++ map_lines t.system ++ section_lines t.system
    ++ budget_lines (codes "budget pairs") 10000 t.pairs ++ budget_lines (codes "budget steps") 10000000 t.steps

-- lines, each with a line feed at its end
abbrev pub text_of : List (List ℕ) → List ℕ
text_of lines = flat_map (λ line. line ++ codes "\n") lines

-- the text of a system
unfoldable pub system_text : Told → List ℕ
system_text t = text_of (written_lines t)

-- ---- systems whose text is read

-- a system, its budgets and its printed polynomials within the limits of a text
pub record IsWritable (t : Told) : Type 0 where
  pub form : IsSystem t.system
  pub pairs : t.pairs ≤ max_pairs
  pub steps : t.steps ≤ max_steps
  pub ideal : All IsWithinLimits t.system.ideal
  pub product : All IsWithinLimits t.system.product
  pub inverse : All IsWithinLimits t.system.inverse
  pub action : All IsWithinLimits t.system.action
  pub section : All IsWithinLimits t.system.section
