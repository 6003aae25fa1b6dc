-- What the test of a fraction is made of: the ring of changes, the change, and the kept elements of the group's basis.
use Rattle.std.specs.Prelude.{◌≡◌, ℕ, nat_lt}
use Rattle.rinv_algebra.specs.Residue.{residue_ops}
use Rattle.rinv_algebra.specs.Order.{grevlex}
use Rattle.rinv_groebner.specs.Division.{AreSame}
use Rattle.rinv_div.specs.Divisors.{AreDivisors}
use Rattle.rinv_buch.specs.Kinds.{Found}
use Rattle.rinv_defs.specs.System.{System}
use Rattle.rinv_defs.specs.SystemForm.{IsSystem}
use Rattle.rinv_defs.specs.Invariant.{Fraction, change}
use Rattle.rinv_parts.specs.Points.{ArePolynomials, IsStoredIn}
use Rattle.rinv_laws.specs.Proofs.{kept_elements}
use Rattle.rinv_change.specs.declared.asked.Asked.{Asked}
use Rattle.rinv_change.specs.declared.kept.KeptBasis.{KeptBasis}
use Rattle.rinv_change.specs.Changes.{change_count}

-- a ring over the field of p elements in v variables is that of changes
pub record IsChangeRing (s : System) (p v : ℕ) : Type 0 where
  pub system : IsSystem s
  pub field : p ≡ s.p
  pub vars : v ≡ change_count s

-- the kept elements of the group's basis, in the variables of a change and ready for division
pub record IsKeptBasis (s : System) (found : Found ℕ) (b : KeptBasis) : Type 0 where
  pub same : AreSame (residue_ops s.p) b.polys.items (kept_elements s found)
  pub normal : ArePolynomials s.p (change_count s) b.polys.items
  pub divisors : AreDivisors (residue_ops s.p) (λ c. nat_lt c s.p) (change_count s) grevlex b.polys.items b.divisors.list.items

-- the ring, the change of f, and the basis
pub record IsAsked (s : System) (found : Found ℕ) (f : Fraction) (a : Asked) : Type 0 where
  pub ring : IsChangeRing s a.ring.coeffs a.ring.vars
  pub change : IsStoredIn s.p (change_count s) (change s f) a.change
  pub basis : IsKeptBasis s found a.basis
