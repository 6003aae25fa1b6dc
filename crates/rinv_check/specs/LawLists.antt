-- Where the cofactors of a law stand, and what they show.
use Rattle.std.specs.Prelude.{◌≡◌, ◌<◌, ℕ, List, [], get_or, length, Bool, ◌&&◌, IsTrue, Option, Some, None}
use Rattle.std.specs.List.{list_all, range_with_len}
use Rattle.rinv_algebra.specs.Residue.{residue_ops}
use Rattle.rinv_algebra.specs.Fits.{multiplies_out}
use Rattle.rinv_defs.specs.System.{System, Poly}
use Rattle.rinv_defs.specs.Laws.{Law, L1, L2, L3, L4, L5, L6, A1, A2, parts}
use Rattle.rinv_defs.specs.Certificate.{Certificate}
use Rattle.rinv_defs.specs.Conditions.{cofactors_of}
use Rattle.rinv_form.specs.Forms.{are_stored}
use Rattle.rinv_parts.specs.LawNames.{law_of}
use Rattle.rinv_parts.specs.Parts.{part_at, part_fits}
use Rattle.rinv_parts.specs.declared.parts.LawParts.{LawParts}

-- the place of a law among those that have cofactors
abbrev pub list_place : Law → Option ℕ
list_place L1 = None
list_place L2 = Some 0
list_place L3 = Some 1
list_place L4 = Some 2
list_place L5 = Some 3
list_place L6 = Some 4
list_place A1 = None
list_place A2 = Some 5

-- for each part as many cofactors as there are generators, in the ring of the law's parts
abbrev pub AreListsOf : System → LawParts → List (List Poly) → ℕ → Type 0
AreListsOf s l lists size = (k : ℕ) → k < length (parts s (law_of l.law)) → IsTrue (are_stored l.ring.coeffs l.ring.vars size (get_or lists k []))

-- the lists at its parts' places are those that a certificate gives for the law
abbrev pub AreListsFor : Certificate → Law → List (List Poly) → Type 0
AreListsFor c law lists = (k : ℕ) → k < length (parts c.system law) → get_or lists k [] ≡ get_or (cofactors_of c law) k []

-- each part fits, and is the sum of the cofactors at its place times the generators
abbrev pub parts_shown : System → Law → List (List Poly) → List Poly → Bool
parts_shown s law lists generators =
    list_all (λ k. part_fits s law k && multiplies_out (residue_ops s.p) (part_at s law k) (get_or lists k []) generators) (range_with_len 0 (length (parts s law)))

-- the part at a place fits, and is the sum of the cofactors times the generators
abbrev pub part_is_shown : System → Law → ℕ → (us gs : List Poly) → Bool
part_is_shown s law place us gs = part_fits s law place && multiplies_out (residue_ops s.p) (part_at s law place) us gs
