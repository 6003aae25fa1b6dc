-- Points with coordinates in a ring of polynomials over the field of p elements, as they are stored.
--   ArePolynomials, AreStored     lists of polynomials in v variables, and that they stand for others
--   Points, law_points            the points at which the parts of a law take the system's polynomials
--   ArePoints                     that these are stored
use Rattle.std.specs.Prelude.{ℕ, ◌≡◌, ◌+◌, ◌++◌, List, nat_lt, length, All}
use Rattle.std.specs.List.{AllZip}
use Rattle.rinv_algebra.specs.Residue.{residue_ops}
use Rattle.rinv_algebra.specs.Normal.{IsNormal}
use Rattle.rinv_poly.specs.Stored.{IsStored}
use Rattle.rinv_defs.specs.System.{System, Poly, group_copy, space_behind, unit_point, times, inverse_of, moved}
use Rattle.rinv_defs.specs.Laws.{Law, copies}
use Rattle.rinv_defs.specs.Laws.Law.{L1, L2, L3, L4, L5, L6, A1, A2}
use Rattle.rinv_parts.specs.declared.law_points.LawPoints.{LawPoints}
use Rattle.rinv_parts.specs.declared.law_points.LawPoints.TheVariants.{Vanish, Agree, Give, GiveBoth}

-- polynomials over the residues modulo p in v variables, in the form in which they are stored
abbrev pub ArePolynomials : ℕ → ℕ → List Poly → Type 0
ArePolynomials p v fs = All (IsNormal (residue_ops p) (λ c. nat_lt c p) v) fs

-- so many such polynomials, which are the coordinates of a point
pub record IsPoint (p v count : ℕ) (point : List Poly) : Type 0 where
  pub many : length point ≡ count
  pub normal : ArePolynomials p v point

-- g is f as it is stored
abbrev pub IsStoredIn : ℕ → ℕ → Poly → Poly → Type 0
IsStoredIn p v f g = IsStored (residue_ops p) (λ c. nat_lt c p) v f g

-- gs are the polynomials fs as they are stored, place by place
abbrev pub AreStored : ℕ → ℕ → List Poly → List Poly → Type 0
AreStored p v fs gs = AllZip (IsStoredIn p v) fs gs

-- Polynomials vanish at a point; they have the same values at two points; they have these values at a point, or at both of two points.
pub data Points : Type 0 where
  vanish : (point : List Poly) → Points
  agree : (first second : List Poly) → Points
  give : (point values : List Poly) → Points
  give_both : (first second values : List Poly) → Points

-- what a law says of points a, b, c of the group, the unit e and a point x of the space
abbrev pub points_at : System → (a b c e x : List Poly) → Law → Points
points_at s a b c e x L1 = vanish e
points_at s a b c e x L2 = vanish (times s a b)
points_at s a b c e x L3 = vanish (inverse_of s a)
points_at s a b c e x L4 = agree (times s a b ++ c) (a ++ times s b c)
points_at s a b c e x L5 = give_both (e ++ a) (a ++ e) a
points_at s a b c e x L6 = give_both (inverse_of s a ++ a) (a ++ inverse_of s a) e
points_at s a b c e x A1 = give (e ++ x) x
points_at s a b c e x A2 = agree (a ++ moved s b x) (times s a b ++ x)

-- what it says of them in copies of the variables
abbrev pub law_points : System → Law → Points
law_points s law = points_at s (group_copy s 0) (group_copy s 1) (group_copy s 2) (unit_point s) (space_behind s (copies law)) law

-- and the polynomials of which it says so
abbrev pub law_polynomials : System → Law → List Poly
law_polynomials s L1 = s.ideal
law_polynomials s L2 = s.ideal
law_polynomials s L3 = s.ideal
law_polynomials s L4 = s.product
law_polynomials s L5 = s.product
law_polynomials s L6 = s.product
law_polynomials s A1 = s.action
law_polynomials s A2 = s.action

-- the points as they are stored
abbrev pub ArePoints : ℕ → ℕ → Points → LawPoints → Type 0
ArePoints p v (vanish x) (Vanish a) = AreStored p v x a.items
ArePoints p v (agree x y) (Agree a b) = AreStored p v x a.items × AreStored p v y b.items
ArePoints p v (give x z) (Give a c) = AreStored p v x a.items × AreStored p v z c.items
ArePoints p v (give_both x y z) (GiveBoth a b c) = AreStored p v x a.items × AreStored p v y b.items × AreStored p v z c.items
ArePoints p v points stored = ⊥

-- n polynomials in m variables can be taken at the points, and compared with the values
abbrev pub AreCoordinates : ℕ → ℕ → (m n : ℕ) → LawPoints → Type 0
AreCoordinates p v m n (Vanish a) = IsPoint p v m a.items
AreCoordinates p v m n (Agree a b) = IsPoint p v m a.items × IsPoint p v m b.items
AreCoordinates p v m n (Give a c) = IsPoint p v m a.items × IsPoint p v n c.items
AreCoordinates p v m n (GiveBoth a b c) = IsPoint p v m a.items × IsPoint p v m b.items × IsPoint p v n c.items

-- how many parts n polynomials make
abbrev pub part_number : ℕ → LawPoints → ℕ
part_number n (Vanish a) = n
part_number n (Agree a b) = n
part_number n (Give a c) = n
part_number n (GiveBoth a b c) = n + n
