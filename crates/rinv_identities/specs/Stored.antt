-- The lists of polynomials over which identities are multiplied out, as they are stored.
--   graph_places, AreInputsStored        the inputs of the basis
--   AddsPast, AreCopiesStored            copies of an ideal
--   AddsVariables, AreGraphPoint         the point that stands for the variables on the graph
--   AddsIf, SumsUp                       sums of products
use Rattle.std.specs.Prelude.{ℕ, ◌+◌, ◌*◌, ◌++◌, List, map, flat_map, length, Result, OnOk, ◌≡◌, Bool, true}
use Rattle.std.specs.List.{range_with_len}
use Rattle.rinv_algebra.specs.Ring.{IsSame}
use Rattle.rinv_algebra.specs.Residue.{residue_ops}
use Rattle.rinv_algebra.specs.Polynomial.{poly_ops, past, product, variable}
use Rattle.rinv_algebra.specs.Ideal.{combination}
use Rattle.rinv_poly.specs.Sums.{sum_of}
use Rattle.rinv_defs.specs.System.{System, Poly}
use Rattle.rinv_defs.specs.Extended.{graph}
use Rattle.rinv_form.specs.declared.sizes.Sizes.{Sizes}
use Rattle.rinv_parts.specs.Points.{AreStored}

-- the places of the group's variables and of the space's, which Z stands between
abbrev pub graph_places : Sizes → List ℕ
graph_places z = range_with_len 0 z.group ++ range_with_len (z.group + z.space) z.space

-- the group's ideal and the graph of the action
abbrev pub AreInputsStored : System → List Poly → Type 0
AreInputsStored s gs = AreStored s.p (length s.group + 2 * length s.space) (s.ideal ++ graph s) gs

-- whatever the old list stands for, the new one stands for that and a copy of fs behind so many variables
abbrev pub AddsPast : {T E : Type 0} → Result T E → (p v place : ℕ) → (fs old new : List Poly) → Type 0
AddsPast result p v place fs old new = (gs : List Poly) → AreStored p v gs old → OnOk result (AreStored p v (gs ++ map (past place) fs) new)

-- so many copies of fs, each behind the n variables of the one before
abbrev pub AreCopiesStored : (p v n count : ℕ) → (fs gs : List Poly) → Type 0
AreCopiesStored p v n count fs gs = AreStored p v (flat_map (λ j. map (past (j * n)) fs) (range_with_len 0 count)) gs

-- whatever the old list stands for, the new one stands for that and so many variables from a place on
abbrev pub AddsVariables : {T E : Type 0} → Result T E → (p v place count : ℕ) → (old new : List Poly) → Type 0
AddsVariables result p v place count old new =
    (xs : List Poly) → AreStored p v xs old → OnOk result (AreStored p v (xs ++ map (variable (residue_ops p)) (range_with_len place count)) new)

-- the group's variables, the action and the space's variables
abbrev pub AreGraphPoint : (p v : ℕ) → Sizes → (action gs : List Poly) → Type 0
AreGraphPoint p v z action gs =
    AreStored p v (map (variable (residue_ops p)) (range_with_len 0 z.group) ++ action ++ map (variable (residue_ops p)) (range_with_len z.group z.space)) gs

-- their sum is that of the products of cofactors and generators
abbrev pub SumsUp : ℕ → (us gs fs : List Poly) → Type 0
SumsUp p us gs fs = IsSame (poly_ops (residue_ops p)) (sum_of fs) (combination (residue_ops p) us gs)

-- where the test says so, the sum of the new polynomials is that of the old ones and the product
abbrev pub AddsIf : Bool → ℕ → (f g : Poly) → (old new : List Poly) → Type 0
AddsIf b p f g old new = b ≡ true → IsSame (poly_ops (residue_ops p)) (sum_of new) (sum_of old ++ product (residue_ops p) f g)
