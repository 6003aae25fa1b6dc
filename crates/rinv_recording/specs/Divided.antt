-- An entry whose pair is divided again, step by step.
--   more_elements, HasRoom, EntryHasRoom    how many elements an entry adds, and that there is room for them
--   AreDividedAgain      quotients as quotients by the whole list
--   AreQuotientsFor      the same, of a system, with products that fit
--   IsItemFor            an entry, with products that fit
use Rattle.std.specs.Prelude.{◌≡◌, ◌+◌, ◌<◌, ◌≤◌, ℕ, true, List, [], length, get_or, nat_lt, Option, Some, None}
use Rattle.std.specs.declared.cmp.Ordering.{Ordering}
use Rattle.rinv_algebra.specs.Residue.{residue_ops}
use Rattle.rinv_algebra.specs.Fits.{combination_fits}
use Rattle.rinv_groebner.specs.Division.{AreSame}
use Rattle.rinv_groebner.specs.Journal.{Kind as EntryKind}
use Rattle.rinv_groebner.specs.Journal.Kind.{reduced, coprime, chain}
use Rattle.rinv_defs.specs.System.{System, Poly}
use Rattle.rinv_defs.specs.Certificate.{PairItem}
use Rattle.rinv_defs.specs.PairConditions.{action_order}
use Rattle.rinv_cofactors.specs.Combining.{AreQuotients}
use Rattle.rinv_parts.specs.Points.{ArePolynomials}
use Rattle.rinv_recording.specs.Recorded.{AreRecorded, IsPairItemOf, PairFits, padded}
use Rattle.rinv_recording.specs.Settings.{MultiplesFit}

-- how many elements a division adds to the list
abbrev pub more_elements : Option ℕ → ℕ
more_elements None = 0
more_elements (Some added) = 1

-- q are the quotients of the S-polynomial of two places of a list, as quotients by b elements; the multiples in it fit
pub record AreDividedAgain (p v : ℕ) (cmp : List ℕ → List ℕ → Ordering) (list : List Poly) (b i j : ℕ) (added : Option ℕ) (q : List Poly) : Type 0 where
  pub quotients : List Poly
  pub are : AreQuotients (residue_ops p) (λ c. nat_lt c p) v cmp list i j quotients
  pub recorded : AreSame (residue_ops p) q (padded p b quotients added)
  pub normal : ArePolynomials p v q
  pub multiples : MultiplesFit p cmp (get_or list i []) (get_or list j [])

-- they are so for a system, and their products with all elements fit too
pub record AreQuotientsFor (s : System) (list polys : List Poly) (i j : ℕ) (added : Option ℕ) (q : List Poly) : Type 0 where
  pub recorded : AreRecorded s list (length polys) i j added q
  pub multiples : MultiplesFit s.p (action_order s) (get_or list i []) (get_or list j [])
  pub sums : combination_fits (residue_ops s.p) q polys ≡ true

-- the item is the entry, and its products fit
pub record IsItemFor (s : System) (list polys : List Poly) (i j : ℕ) (kind : EntryKind) (item : PairItem) : Type 0 where
  pub entry : IsPairItemOf s list (length polys) i j kind item
  pub fits : PairFits s polys item

-- the places are two of the elements made, the first below the second, and there is room for what is added
pub record HasRoom (i j made b : ℕ) (added : Option ℕ) : Type 0 where
  pub ascending : i < j
  pub inside : j < made
  pub room : made + more_elements added ≤ b

-- so it is for an entry of this kind
abbrev pub EntryHasRoom : (i j made b : ℕ) → EntryKind → Type 0
EntryHasRoom i j made b (reduced added) = HasRoom i j made b added
EntryHasRoom i j made b coprime = HasRoom i j made b None
EntryHasRoom i j made b (chain by) = HasRoom i j made b None
