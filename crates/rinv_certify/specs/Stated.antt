-- What the parts of a certificate are made of.
--   IsElementItem, AreBasisItems, ElementMeets      the elements of the basis
--   IsMovedValue, MovedMeets, AreInChange, IsIdealStored, ChangeFits    the changes of fractions
--   is_zero_input, nonzeros_before, row_of_input, rows_of_inputs        the rows of the inputs
--   AreCopiesStored, ArraysFit                      the laws
use Rattle.std.specs.Prelude.{◌≡◌, ℕ, Bool, true, List, [], ◌++◌, length, get_or, take}
use Rattle.std.specs.List.{AllZip, list_all}
use Rattle.rinv_algebra.specs.Residue.{residue_ops}
use Rattle.rinv_algebra.specs.Polynomial.{is_zero}
use Rattle.rinv_algebra.specs.Fits.{combination_fits}
use Rattle.rinv_groebner.specs.Journal.{nonzeros}
use Rattle.rinv_defs.specs.System.{System, Poly, ideal_copies}
use Rattle.rinv_defs.specs.Laws.{Law, copies}
use Rattle.rinv_defs.specs.Extended.{graph}
use Rattle.rinv_cert.specs.Seen.{basis_item_by}
use Rattle.rinv_parts.specs.LawNames.{variables_of}
use Rattle.rinv_parts.specs.Points.{ArePolynomials, AreStored}
use Rattle.rinv_parts.specs.Substitutions.{IsValue, TakenMeets}
use Rattle.rinv_change.specs.Changes.{change_count}
use Rattle.rinv_at_graph.specs.AtGraph.{AtGraphMeets}
use Rattle.rinv_acceptance.specs.Fits.{change_multiplies}
use Rattle.rinv_acceptance.specs.Inputs.{input_row, input_rows}
use Rattle.rinv_generators.specs.Generated.{Generated}
use Rattle.rinv_certification.specs.Made.{IsBasisItemOf}
use Rattle.rinv_certify.specs.Parts.{basis_seen}

-- ---- the basis

-- b is the item of the element at place k
abbrev pub IsElementItem : Generated → ℕ → Poly × List Poly → Type 0
IsElementItem g k b = IsBasisItemOf g.told.system g.group (get_or g.action.polys k []) (basis_item_by (λ f. f) b)

-- these are the items of all elements
abbrev pub AreBasisItems : Generated → List (Poly × List Poly) → Type 0
AreBasisItems g bs = AllZip (IsBasisItemOf g.told.system g.group) g.action.polys (basis_seen bs)

-- the cofactors of the element at place k meet these degrees
abbrev pub ElementMeets : Generated → ℕ → ℕ → ℕ → Type 0
ElementMeets g k x y = AtGraphMeets g.told.system g.group (get_or g.action.polys k []) x y

-- ---- the changes

-- r is the value of f at the moved point
abbrev pub IsMovedValue : System → (f r : Poly) → Type 0
IsMovedValue s f r = IsValue s.p (change_count s) s.action f r

-- the degrees that are met as it is taken
abbrev pub MovedMeets : System → Poly → ℕ → ℕ → Type 0
MovedMeets s f x y = TakenMeets s.p (change_count s) s.action f x y

-- polynomials in the variables of a change
abbrev pub AreInChange : System → List Poly → Type 0
AreInChange s fs = ArePolynomials s.p (change_count s) fs

-- the group's ideal in these variables
abbrev pub IsIdealStored : System → List Poly → Type 0
IsIdealStored s gs = AreStored s.p (change_count s) s.ideal gs

-- the products of the change of the fraction at place k fit
abbrev pub ChangeFits : Generated → ℕ → Type 0
ChangeFits g k = change_multiplies g.told.system (get_or g.fractions k ([], []), get_or g.proofs k []) ≡ true

-- ---- the inputs: the group's ideal, and then the graph of the action

-- whether the input at place k is zero
abbrev pub is_zero_input : System → ℕ → Bool
is_zero_input s k = is_zero (residue_ops s.p) (get_or (s.ideal ++ graph s) k [])

-- how many of the first k inputs are not zero
abbrev pub nonzeros_before : System → ℕ → ℕ
nonzeros_before s k = length (nonzeros (residue_ops s.p) (take k (s.ideal ++ graph s)))

-- the row of the input at place k, of so many entries
abbrev pub row_of_input : System → ℕ → ℕ → List Poly
row_of_input s count k = input_row s count (s.ideal ++ graph s) k

-- the rows of all inputs
abbrev pub rows_of_inputs : System → ℕ → List (List Poly)
rows_of_inputs s count = input_rows s count (s.ideal ++ graph s)

-- ---- the laws

-- the copies of the group's ideal that a law speaks of
abbrev pub AreCopiesStored : System → Law → List Poly → Type 0
AreCopiesStored s law gs = AreStored s.p (variables_of s law) (ideal_copies s (copies law)) gs

-- the products of these lists of cofactors with them fit
abbrev pub ArraysFit : System → Law → List (List Poly) → Type 0
ArraysFit s law uss = list_all (λ us. combination_fits (residue_ops s.p) us (ideal_copies s (copies law))) uss ≡ true
