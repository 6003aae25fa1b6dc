-- What the invariance of fractions is tested over.
use Rattle.std.specs.Prelude.{ℕ, List, [], Bool, ◌&&◌, replicate, ◌≡◌, false, not, zip, Option}
use Rattle.rinv_algebra.specs.Residue.{residue_ops}
use Rattle.rinv_algebra.specs.Polynomial.{past, poly_ops}
use Rattle.rinv_algebra.specs.Value.{substitute}
use Rattle.rinv_algebra.specs.Fits.{product_fits, substitution_fits}
use Rattle.rinv_defs.specs.System.{System, Poly}
use Rattle.std.specs.List.{position_from}
use Rattle.rinv_algebra.specs.Ring.{IsSame}
use Rattle.rinv_defs.specs.Invariant.{Fraction, change}
use Rattle.rinv_defs.specs.Conditions.{invariance_is_shown}

-- a system of which only the field, the number of the group's variables, the action and the ideal are asked
abbrev pub setting : ℕ → ℕ → List Poly → List Poly → System
setting p l action ideal = record { p = p; group = replicate l []; space = []; ideal = ideal; unit = []; product = []; inverse = []; action = action; section = [] }

-- the products of N(g)*D - N*D(g) fit
abbrev pub change_fits : ℕ → ℕ → List Poly → Poly → Poly → Bool
change_fits p l action n d =
    let o = residue_ops p in
    substitution_fits o action n && product_fits o (substitute o action n) (past l d)
    && substitution_fits o action d && product_fits o (past l n) (substitute o action d)

-- r is the change of n/d under this action
abbrev pub IsChangeIn : ℕ → ℕ → List Poly → (n d r : Poly) → Type 0
IsChangeIn p l action n d r = IsSame (poly_ops (residue_ops p)) r (change (setting p l action []) (n, d))

-- whatever the degrees, its products do not fit
abbrev pub IsUnfit : ℕ → ℕ → List Poly → (n d : Poly) → ℕ → ℕ → Type 0
IsUnfit p l action n d x y = change_fits p l action n d ≡ false

-- whether the cofactors show that the fraction is invariant
abbrev pub is_shown : ℕ → ℕ → (action ideal : List Poly) → Fraction → List Poly → Bool
is_shown p l action ideal fraction cofactors = invariance_is_shown (setting p l action ideal) fraction cofactors

-- the number of the first fraction of which they do not
abbrev pub first_unshown : ℕ → ℕ → (action ideal : List Poly) → List Fraction → List (List Poly) → Option ℕ
first_unshown p l action ideal fractions cofactors = position_from (λ x. not (invariance_is_shown (setting p l action ideal) x.0 x.1)) 1 (zip fractions cofactors)
