-- What the making of the entries on pairs is given.
--   IsSetting            the ring in all variables, and the order of the action's basis
--   MultiplesFit         both multiples in an S-polynomial are within the limit
use Rattle.std.specs.Prelude.{◌≡◌, ℕ, true, List, [], ◌∷◌}
use Rattle.std.specs.declared.cmp.Ordering.{Ordering}
use Rattle.rinv_algebra.specs.BlockEnds.{sizes_from, last_from}
use Rattle.rinv_algebra.specs.Residue.{residue_ops}
use Rattle.rinv_algebra.specs.Order.{block_order}
use Rattle.rinv_algebra.specs.Leading.{multiplier}
use Rattle.rinv_algebra.specs.Fits.{product_fits}
use Rattle.rinv_defs.specs.System.{System, Poly}
use Rattle.rinv_defs.specs.PairConditions.{action_order}
use Rattle.rinv_reduction.specs.Localised.{all_count}

-- a ring over the field of p elements in v variables, and the order of these blocks, are those of the action's basis
pub record IsSetting (s : System) (p v : ℕ) (ends : List ℕ) : Type 0 where
  pub field : p ≡ s.p
  pub vars : v ≡ all_count s
  pub order : block_order (sizes_from 0 ends) ≡ action_order s
  pub suits : v ≡ last_from 0 ends

-- both multiples in the S-polynomial of f and h fit
pub record MultiplesFit (p : ℕ) (cmp : List ℕ → List ℕ → Ordering) (f h : Poly) : Type 0 where
  pub first : product_fits (residue_ops p) (multiplier (residue_ops p) cmp f h ∷ []) f ≡ true
  pub second : product_fits (residue_ops p) (multiplier (residue_ops p) cmp h f ∷ []) h ≡ true
