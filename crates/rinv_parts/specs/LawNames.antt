-- The laws by their names, and the variables in which their parts are written.
use Rattle.std.specs.Prelude.{ℕ, ◌+◌, ◌*◌, List, codes, Bool, true, false}
use Rattle.rinv_defs.specs.System.{System, group_count, space_count}
use Rattle.rinv_defs.specs.Laws.{Law, copies}
use Rattle.rinv_defs.specs.Laws.Law.{L1, L2, L3, L4, L5, L6, A1, A2}
use Rattle.rinv_parts.specs.declared.law.LawName.{LawName}
use Rattle.rinv_parts.specs.declared.law.LawName.TheVariants.{L1 as N1, L2 as N2, L3 as N3, L4 as N4, L5 as N5, L6 as N6, A1 as M1, A2 as M2}

-- the law with a name
abbrev pub law_of : LawName → Law
law_of N1 = L1
law_of N2 = L2
law_of N3 = L3
law_of N4 = L4
law_of N5 = L5
law_of N6 = L6
law_of M1 = A1
law_of M2 = A2

-- the place of a law among those that are tested
abbrev pub rank : Law → ℕ
rank L1 = 0
rank L2 = 1
rank L3 = 2
rank L4 = 3
rank L5 = 4
rank L6 = 5
rank A1 = 6
rank A2 = 7

-- how many variables the points of the space have in a law: none, or the space's
abbrev pub space_in : System → Law → ℕ
space_in s L1 = 0
space_in s L2 = 0
space_in s L3 = 0
space_in s L4 = 0
space_in s L5 = 0
space_in s L6 = 0
space_in s A1 = space_count s
space_in s A2 = space_count s

-- the variables of a law's parts: those of the copies of the group, then the space's where it speaks of one
abbrev pub variables_of : System → Law → ℕ
variables_of s law = copies law * group_count s + space_in s law

-- whether a law speaks of a point of the space
abbrev pub is_of_action : Law → Bool
is_of_action L1 = false
is_of_action L2 = false
is_of_action L3 = false
is_of_action L4 = false
is_of_action L5 = false
is_of_action L6 = false
is_of_action A1 = true
is_of_action A2 = true

-- how a law is called
abbrev pub law_word : Law → List ℕ
law_word L1 = codes "L1"
law_word L2 = codes "L2"
law_word L3 = codes "L3"
law_word L4 = codes "L4"
law_word L5 = codes "L5"
law_word L6 = codes "L6"
law_word A1 = codes "A1"
law_word A2 = codes "A2"

-- in how many variables the polynomials are of which a law speaks
abbrev pub polynomial_variables : System → Law → ℕ
polynomial_variables s L1 = group_count s
polynomial_variables s L2 = group_count s
polynomial_variables s L3 = group_count s
polynomial_variables s L4 = 2 * group_count s
polynomial_variables s L5 = 2 * group_count s
polynomial_variables s L6 = 2 * group_count s
polynomial_variables s A1 = group_count s + space_count s
polynomial_variables s A2 = group_count s + space_count s
