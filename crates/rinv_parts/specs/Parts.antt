-- The parts of a law, as they are made one at a time.
use Rattle.std.specs.Prelude.{◌≡◌, ℕ, Bool, true, [], get_or}
use Rattle.rinv_defs.specs.System.{System, Poly}
use Rattle.rinv_defs.specs.SystemForm.{IsSystem}
use Rattle.rinv_defs.specs.Laws.{Law, parts}
use Rattle.rinv_parts.specs.declared.parts.LawParts.{LawParts}
use Rattle.rinv_parts.specs.LawNames.{law_of, variables_of}
use Rattle.rinv_parts.specs.Points.{ArePoints, IsStoredIn, law_points, law_polynomials}
use Rattle.rinv_parts.specs.Substitutions.{taken_at, all_fit, OneMeets}

-- a ring over the field of p elements in v variables is that of the law
pub record IsLawRing (s : System) (law : Law) (p v : ℕ) : Type 0 where
  pub system : IsSystem s
  pub field : p ≡ s.p
  pub vars : v ≡ variables_of s law

-- the part of a law at a place, counted from 0
abbrev pub part_at : System → Law → ℕ → Poly
part_at s law k = get_or (parts s law) k []

-- the substitutions that the law states in this part fit
abbrev pub part_fits : System → Law → ℕ → Bool
part_fits s law k = all_fit s.p (taken_at (law_polynomials s law) (law_points s law) k)

-- or one multiplies two monomials of these degrees
abbrev pub part_meets : System → Law → ℕ → ℕ → ℕ → Type 0
part_meets s law k x y = OneMeets s.p (variables_of s law) (taken_at (law_polynomials s law) (law_points s law) k) x y

-- the ring of the law, and its points as they are stored
pub record ArePartsOf (s : System) (l : LawParts) : Type 0 where
  pub ring : IsLawRing s (law_of l.law) l.ring.coeffs l.ring.vars
  pub points : ArePoints s.p (variables_of s (law_of l.law)) (law_points s (law_of l.law)) l.points

-- the part of the law at place k
pub record IsPart (s : System) (law : Law) (k : ℕ) (f : Poly) : Type 0 where
  pub stored : IsStoredIn s.p (variables_of s law) (part_at s law k) f
  pub fits : part_fits s law k ≡ true
