-- The list of the group's basis in the ring, and over the polynomials, with which it is computed.
--   basis-over           what is known of it there
--   combining-over       the degrees that the making of its cofactors meets
use Rattle.std.proofs.Common.{◌≡◌, ℕ, false, List, sym, subst, nat_lt, All}
use Rattle.rinv_algebra.specs.Residue.{residue_ops}
use Rattle.rinv_algebra.specs.Order.{grevlex}
use Rattle.rinv_algebra.specs.Polynomial.{is_zero}
use Rattle.rinv_algebra.specs.Normal.{IsNormal}
use Rattle.rinv_algebra.proofs.ResidueField.{residue_field_laws}
use Rattle.rinv_algebra.proofs.ResidueLaws.{residue_laws}
use Rattle.rinv_groebner.specs.Journal.{Journal}
use Rattle.rinv_groebner.proofs.KnownOrders.{grevlex_orders}
use Rattle.rinv_groebner.proofs.ListElements.{all_first}
use Rattle.rinv_ring.specs.Fault.{DegreesMeet}
use Rattle.rinv_ring.specs.declared.fault.RingFault.{RingFault}
use Rattle.rinv_buch.specs.Kinds.{Found}
use Rattle.rinv_cofactors.specs.Combining.{CombiningMeets}
use Rattle.rinv_buch.proofs.InVariables.{all-in_variables}
use Rattle.rinv_cofactors.proofs.JournalSteps.{elements-nonzero}
use Rattle.rinv_defs.specs.System.{System, Poly, group_count}
use Rattle.rinv_laws.specs.Group.{IsGroupBasis}
use Rattle.rinv_laws.specs.Proofs.{BasisMeets}
use Rattle.rinv_sub.specs.Refusal.{never}

-- the list of the group's basis, in the ring and over the polynomials with which it is computed
pub record IsBasisOver (found : Found ℕ) (p v : ℕ) (fs : List Poly) : Type 0 where
  pub given : All (IsNormal (residue_ops p) (λ c. nat_lt c p) v) fs
  pub journal : Journal (residue_ops p) grevlex fs found.journal found.polys
  pub normal : All (IsNormal (residue_ops p) (λ c. nat_lt c p) v) found.polys
  pub nonzero : All (λ h. is_zero (residue_ops p) h ≡ false) found.polys

pub basis-over : (s : System) (found : Found ℕ) (gs : List Poly) → IsGroupBasis s found gs → All (IsNormal (residue_ops s.p) (λ c. nat_lt c s.p) (group_count s)) s.ideal
    → (p v : ℕ) (fs : List Poly) → p ≡ s.p → v ≡ group_count s → fs ≡ s.ideal → IsBasisOver found p v fs
basis-over s found gs h ideal p v fs a b c =
    subst (λ (q : ℕ). IsBasisOver found q v fs) (sym a) (subst (λ (w : ℕ). IsBasisOver found s.p w fs) (sym b) (subst (IsBasisOver found s.p (group_count s)) (sym c) own))
  where
    own : IsBasisOver found s.p (group_count s) s.ideal
    own = record {
      given = ideal;
      journal = h.journal;
      normal = h.normal;
      nonzero = elements-nonzero (residue_ops s.p) grevlex (residue_laws s.p) (residue_field_laws s.p) (group_count s) (grevlex_orders (group_count s)) s.ideal
          (all_first (residue_ops s.p) (residue_laws s.p) (group_count s) s.ideal (all-in_variables (residue_ops s.p) (λ c. nat_lt c s.p) (group_count s) s.ideal ideal)) h.journal;
    }

-- the degrees that the making of its cofactors meets
pub combining-over : (s : System) (found : Found ℕ) (p v : ℕ) (fs : List Poly) → p ≡ s.p → v ≡ group_count s → fs ≡ s.ideal → (fault : RingFault)
    → DegreesMeet (CombiningMeets (residue_ops p) (λ c. nat_lt c p) never v grevlex fs found.journal found.polys) fault → DegreesMeet (BasisMeets s found) fault
combining-over s found p v fs a b c fault meets =
    subst (λ (q : ℕ). DegreesMeet (CombiningMeets (residue_ops q) (λ c. nat_lt c q) never (group_count s) grevlex s.ideal found.journal found.polys) fault) a
    (subst (λ (w : ℕ). DegreesMeet (CombiningMeets (residue_ops p) (λ c. nat_lt c p) never w grevlex s.ideal found.journal found.polys) fault) b
    (subst (λ (hs : List Poly). DegreesMeet (CombiningMeets (residue_ops p) (λ c. nat_lt c p) never v grevlex hs found.journal found.polys) fault) c meets))
