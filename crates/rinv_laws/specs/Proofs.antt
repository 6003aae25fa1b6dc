-- How the laws are proved: cofactors of each part over the copies of the group's ideal.
use Rattle.std.specs.Prelude.{◌≡◌, ◌⊎◌, ℕ, ◌+◌, ◌*◌, ◌<◌, List, [], ◌∷◌, length, get_or, take, drop, map, nat_lt, All}
use Rattle.rinv_algebra.specs.Ring.{IsSame}
use Rattle.rinv_algebra.specs.Residue.{residue_ops}
use Rattle.rinv_algebra.specs.Order.{grevlex}
use Rattle.rinv_algebra.specs.Polynomial.{poly_ops, past}
use Rattle.rinv_algebra.specs.Ideal.{combination}
use Rattle.rinv_algebra.specs.Leading.{leading_monomial}
use Rattle.rinv_groebner.specs.Division.{AreSame}
use Rattle.rinv_groebner.specs.Reduced.{kept as kept_of}
use Rattle.rinv_poly.specs.Faults.{MonomialsMeet}
use Rattle.rinv_buch.specs.Kinds.{Found}
use Rattle.rinv_buch.specs.Reducing.{kept_places}
use Rattle.rinv_cofactors.specs.Combining.{Combines, CombiningMeets, column, cofactor}
use Rattle.rinv_defs.specs.System.{System, Poly, group_count, ideal_copies}
use Rattle.rinv_defs.specs.Laws.{Law, AllLawsHold, copies, parts}
use Rattle.rinv_defs.specs.Laws.Law.{L2, L3, L4, L5, L6, A2}
use Rattle.rinv_parts.specs.LawNames.{variables_of}
use Rattle.rinv_parts.specs.Points.{ArePolynomials}
use Rattle.rinv_parts.specs.Parts.{part_at}
use Rattle.rinv_laws.specs.Copied.{DividesPart}
use Rattle.rinv_sub.specs.Refusal.{never}

-- the laws that speak of points, in their order
abbrev pub proved_laws : List Law
proved_laws = L2 ∷ L3 ∷ L4 ∷ L5 ∷ L6 ∷ A2 ∷ []

-- the kept elements of the group's basis
abbrev pub kept_elements : System → Found ℕ → List Poly
kept_elements s found = kept_of (residue_ops s.p) grevlex found.polys

-- the lists at the places
abbrev pub chosen : List (List Poly) → List ℕ → List (List Poly)
chosen lists places = map (λ k. get_or lists k []) places

-- of the lists of a basis's elements those of the kept ones
abbrev pub kept_lists : System → Found ℕ → List (List Poly) → List (List Poly)
kept_lists s found lists = chosen lists (kept_places (map (leading_monomial (residue_ops s.p) grevlex) found.polys))

-- the lists are the cofactors of the kept elements, as the journal makes them
pub record AreKeptCofactors (s : System) (found : Found ℕ) (lists : List (List Poly)) : Type 0 where
  pub all : List (List Poly)
  pub combines : Combines (residue_ops s.p) grevlex s.ideal found.journal found.polys all
  pub kept : lists ≡ kept_lists s found all

-- the lists of the kept elements' cofactors, of polynomials in the group's variables, and as long as the ideal; they make the elements
pub record KeepCofactors (s : System) (found : Found ℕ) (lists : List (List Poly)) : Type 0 where
  pub kept : AreKeptCofactors s found lists
  pub lengths : All (λ us. length us ≡ length s.ideal) lists
  pub normal : All (ArePolynomials s.p (group_count s)) lists
  pub sums_up : AreSame (residue_ops s.p) (kept_elements s found) (map (λ us. combination (residue_ops s.p) us s.ideal) lists)

-- the lists in the variables past the first k
abbrev pub past_lists : ℕ → List (List Poly) → List (List Poly)
past_lists k lists = map (λ us. map (past k) us) lists

-- the lists in a copy of the group's variables
abbrev pub in_copy : System → ℕ → List (List Poly) → List (List Poly)
in_copy s j lists = past_lists (j * group_count s) lists

-- of the quotients by the kept elements in all copies those in one copy; so many elements are kept
abbrev pub quotients_in : ℕ → List Poly → ℕ → List Poly
quotients_in count qs j = take count (drop (j * count) qs)

-- us are polynomials over the residues modulo p in v variables, n of them for each of c copies: each is the sum of the quotients in its
-- copy, of which there are so many, times the cofactors at its place of the lists in this copy
pub record AreInCopies (p v c n count : ℕ) (lists_at : ℕ → List (List Poly)) (qs us : List Poly) : Type 0 where
  pub number : length us ≡ c * n
  pub normal : ArePolynomials p v us
  pub rule : (j m : ℕ) → j < c → m < n → IsSame (poly_ops (residue_ops p)) (get_or us (j * n + m) []) (combination (residue_ops p) (quotients_in count qs j) (column (lists_at j) m))

-- a quotient times a cofactor of its list meets these degrees
pub record ProductsMeet (p : ℕ) (qs : List Poly) (lists : List (List Poly)) (x y : ℕ) : Type 0 where
  pub element : ℕ
  pub given : ℕ
  pub meets : MonomialsMeet (residue_ops p) (get_or qs element []) (cofactor lists element given) x y

-- so it does in one of the first c copies
pub record CopiesMeet (p c count : ℕ) (lists_at : ℕ → List (List Poly)) (qs : List Poly) (x y : ℕ) : Type 0 where
  pub copy : ℕ
  pub inside : copy < c
  pub products : ProductsMeet p (quotients_in count qs copy) (lists_at copy) x y

-- in each copy the cofactor over each polynomial of the ideal is the sum of the quotients times the kept elements' cofactors
abbrev pub FollowRule : System → ℕ → List (List Poly) → List Poly → List Poly → Type 0
FollowRule s c lists qs us = (j m : ℕ) → j < c → m < length s.ideal → IsSame (poly_ops (residue_ops s.p))
    (get_or us (j * length s.ideal + m) []) (combination (residue_ops s.p) (quotients_in (length lists) qs j) (column (in_copy s j lists) m))

-- us are the cofactors of the part at place k over the copies of the ideal, made so
pub record ProvesPart (s : System) (found : Found ℕ) (law : Law) (k : ℕ) (us : List Poly) : Type 0 where
  pub number : length us ≡ length (ideal_copies s (copies law))
  pub normal : ArePolynomials s.p (variables_of s law) us
  pub sums_up : IsSame (poly_ops (residue_ops s.p)) (part_at s law k) (combination (residue_ops s.p) us (ideal_copies s (copies law)))
  pub lists : List (List Poly)
  pub kept : AreKeptCofactors s found lists
  pub quotients : List Poly
  pub rest : Poly
  pub divides : DividesPart s found law k quotients rest
  pub rule : FollowRule s (copies law) lists quotients us

-- each part of the law is proved so
pub record ProvesLaw (s : System) (found : Found ℕ) (law : Law) (arrays : List (List Poly)) : Type 0 where
  pub number : length arrays ≡ length (parts s law)
  pub each : (k : ℕ) → k < length arrays → ProvesPart s found law k (get_or arrays k [])

-- the making of the cofactors of the basis meets these degrees
abbrev pub BasisMeets : System → Found ℕ → ℕ → ℕ → Type 0
BasisMeets s found x y = CombiningMeets (residue_ops s.p) (λ c. nat_lt c s.p) never (group_count s) grevlex s.ideal found.journal found.polys x y

-- a quotient of a part times a cofactor of its element, in its copy, meets these degrees
pub record CofactorMeets (s : System) (found : Found ℕ) (x y : ℕ) : Type 0 where
  pub law : Law
  pub k : ℕ
  pub inside : k < length (parts s law)
  pub quotients : List Poly
  pub rest : Poly
  pub divides : DividesPart s found law k quotients rest
  pub lists : List (List Poly)
  pub kept : AreKeptCofactors s found lists
  pub copy : ℕ
  pub inside_copies : copy < copies law
  pub element : ℕ
  pub inside_lists : element < length lists
  pub given : ℕ
  pub f : Poly
  pub is_cofactor : IsSame (poly_ops (residue_ops s.p)) f (past (copy * group_count s) (cofactor lists element given))
  pub meets : MonomialsMeet (residue_ops s.p) (get_or quotients (copy * length lists + element) []) f x y

-- once all laws hold, the making of the cofactors of the basis meets these degrees, or that of a part's
abbrev pub ProofsMeet : System → Found ℕ → ℕ → ℕ → Type 0
ProofsMeet s found x y = AllLawsHold s × (BasisMeets s found x y ⊎ CofactorMeets s found x y)

-- the arrays are the cofactors in a law's copies, made of quotients for each part
pub record AreMadeOf (s : System) (law : Law) (lists quotients arrays : List (List Poly)) : Type 0 where
  pub number : length arrays ≡ length quotients
  pub each : (k : ℕ) → k < length arrays → AreInCopies s.p (variables_of s law) (copies law) (length s.ideal) (length lists) (λ j. in_copy s j lists) (get_or quotients k []) (get_or arrays k [])

-- the making of those of some part meets these degrees
pub record MakingMeets (s : System) (law : Law) (lists quotients : List (List Poly)) (x y : ℕ) : Type 0 where
  pub k : ℕ
  pub inside : k < length quotients
  pub copy : ℕ
  pub inside_copies : copy < copies law
  pub element : ℕ
  pub inside_lists : element < length lists
  pub given : ℕ
  pub f : Poly
  pub is_cofactor : IsSame (poly_ops (residue_ops s.p)) f (past (copy * group_count s) (cofactor lists element given))
  pub meets : MonomialsMeet (residue_ops s.p) (get_or (get_or quotients k []) (copy * length lists + element) []) f x y
