-- The kept elements of the group's basis in copies of the group's variables, and the division of a law's parts by them.
use Rattle.std.specs.Prelude.{◌≡◌, ℕ, ◌<◌, List, [], length, get_or, All, IsTrue}
use Rattle.rinv_algebra.specs.Ring.{IsSame}
use Rattle.rinv_algebra.specs.Residue.{residue_ops}
use Rattle.rinv_algebra.specs.Order.{grevlex}
use Rattle.rinv_algebra.specs.Polynomial.{poly_ops, is_zero}
use Rattle.rinv_groebner.specs.Division.{Step, AreSame}
use Rattle.rinv_groebner.specs.Reduced.{kept}
use Rattle.rinv_groebner.specs.Copies.{copies as copied}
use Rattle.rinv_div.specs.Stops.{Divides}
use Rattle.rinv_buch.specs.Kinds.{Found}
use Rattle.rinv_defs.specs.System.{System, Poly, group_count}
use Rattle.rinv_defs.specs.Laws.{Law, copies, parts}
use Rattle.rinv_parts.specs.LawNames.{rank, variables_of}
use Rattle.rinv_parts.specs.Parts.{part_at}
use Rattle.rinv_parts.specs.Points.{ArePolynomials}

-- the kept elements of the group's basis, in the first c copies of the group's variables
abbrev pub kept_copies : System → Found ℕ → ℕ → List Poly
kept_copies s found c = copied c (group_count s) (kept (residue_ops s.p) grevlex found.polys)

-- f is the part of the law at place k, and hs are the kept elements in the copies of which the law speaks
pub record IsAsked (s : System) (found : Found ℕ) (law : Law) (k : ℕ) (f : Poly) (hs : List Poly) : Type 0 where
  pub part : IsSame (poly_ops (residue_ops s.p)) f (part_at s law k)
  pub basis : AreSame (residue_ops s.p) hs (kept_copies s found (copies law))

-- division of the part by them leaves this rest, with these quotients
pub record DividesPart (s : System) (found : Found ℕ) (law : Law) (k : ℕ) (qs : List Poly) (rest : Poly) : Type 0 where
  pub f : Poly
  pub hs : List Poly
  pub asked : IsAsked s found law k f hs
  pub steps : List (Step ℕ)
  pub divides : Divides (residue_ops s.p) grevlex hs f qs rest steps

-- division of it leaves nothing, with these quotients
abbrev pub IsZeroPart : System → Found ℕ → Law → ℕ → List Poly → Type 0
IsZeroPart s found law k qs = (rest : Poly) × DividesPart s found law k qs rest × IsTrue (is_zero (residue_ops s.p) rest)

-- the quotients of each part of the law, whose division leaves nothing
pub record AreQuotients (s : System) (found : Found ℕ) (law : Law) (lists : List (List Poly)) : Type 0 where
  pub number : length lists ≡ length (parts s law)
  pub normal : All (ArePolynomials s.p (variables_of s law)) lists
  pub each : (k : ℕ) → k < length lists → IsZeroPart s found law k (get_or lists k [])

-- those of all laws, law after law
pub record AreAllQuotients (s : System) (found : Found ℕ) (lists : List (List (List Poly))) : Type 0 where
  pub number : length lists ≡ 8
  pub each : (law : Law) → AreQuotients s found law (get_or lists (rank law) [])
