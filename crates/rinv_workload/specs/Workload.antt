-- The workload: rotations of the plane, an abbreviation q, and so many fractions in q that are to be rewritten. To each third of these x is
-- added, and it is not invariant.
use Rattle.std.specs.Prelude.{ℕ, ◌+◌, ◌*◌, ◌%◌, List, [], ◌∷◌, ◌++◌, map, codes, decimal, ◌==◌, if◌then◌else◌}
use Rattle.std.specs.List.{range_with_len}
use Rattle.rinv_system.specs.Written.{text_of}

-- the lines of the system, and that of the abbreviation
abbrev pub first_lines : List (List ℕ)
first_lines =
    codes "field 101" ∷ codes "group a, b" ∷ codes "space x, y" ∷ codes "ideal a^2+b^2-1" ∷ codes "unit 1, 0"
    ∷ codes "product a*a'-b*b', a*b'+b*a'" ∷ codes "inverse a, -b" ∷ codes "action a*x-b*y, b*x+a*y"
    ∷ codes "def q = x^2+y^2" ∷ []

-- ---- the i-th of k queries

-- the constant C and the exponent E
abbrev pub constant : ℕ → ℕ → ℕ
constant k i = (7 * i * i + 3 * i + k) % 101

abbrev pub exponent : ℕ → ℕ
exponent i = 1 + i % 3

-- (q+C)^E
abbrev pub power : ℕ → ℕ → List ℕ
power k i = codes "(q+" ++ decimal (constant k i) ++ codes ")^" ++ decimal (exponent i)

-- the power, or in each third ((q+C)^E+x)
abbrev pub numerator : ℕ → ℕ → List ℕ
numerator k i = if i % 3 == 0 then codes "(" ++ power k i ++ codes "+x)" else power k i

-- (q+C+1)
abbrev pub denominator : ℕ → ℕ → List ℕ
denominator k i = codes "(q+" ++ decimal (constant k i) ++ codes "+1)"

abbrev pub query_line : ℕ → ℕ → List ℕ
query_line k i = codes "rewrite " ++ numerator k i ++ codes "/" ++ denominator k i

-- ---- the text

-- with k queries, counted from 1
unfoldable pub workload_text : ℕ → List ℕ
workload_text k = text_of (first_lines ++ map (query_line k) (range_with_len 1 k))
