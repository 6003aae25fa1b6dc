-- The basis of a group's ideal, from what Buchberger's algorithm and the making of the reduced basis answer.
--   over-ideal                   the reduced basis, over the generators of the ideal
--   group_basis-of               what is known of the group's ideal
--   stops-over, reducing-halts   where the run halts
use Rattle.std.proofs.Common.{◌≡◌, ℕ, List, IsTrue, refl, sym, subst, inl, inr, nat_lt, All}
use Rattle.std.specs.Prelude.{None}
use Rattle.rinv_algebra.specs.Residue.{residue_ops}
use Rattle.rinv_algebra.specs.Order.{grevlex}
use Rattle.rinv_algebra.specs.Polynomial.{is_zero}
use Rattle.rinv_algebra.specs.Normal.{IsNormal}
use Rattle.rinv_algebra.proofs.ResidueField.{residue_field_laws}
use Rattle.rinv_algebra.proofs.ResidueLaws.{residue_laws}
use Rattle.rinv_groebner.specs.Basis.{IsGroebnerBasis}
use Rattle.rinv_groebner.specs.Journal.{Journal, IsComplete}
use Rattle.rinv_groebner.specs.Reduced.{IsReducedGroebnerBasis, Ascend}
use Rattle.rinv_groebner.proofs.KnownOrders.{grevlex_orders}
use Rattle.rinv_groebner.proofs.ReducedLists.{basis-of}
use Rattle.rinv_defs.specs.System.{System, Poly, group_count}
use Rattle.rinv_sub.specs.Refusal.{never}
use Rattle.rinv_div.specs.declared.budget.Budget.{Budget}
use Rattle.rinv_buch.specs.declared.kinds.Stop.{Stop}
use Rattle.rinv_buch.specs.declared.kinds.Stop.TheVariants.{Incomplete, NoMemory}
use Rattle.rinv_buch.specs.declared.kinds.Why.TheVariants.{Degree}
use Rattle.rinv_buch.specs.Kinds.{Found}
use Rattle.rinv_buch.specs.Causes.{Halts, StopsSo}
use Rattle.rinv_buch.specs.Spent.{SpendsOn}
use Rattle.rinv_buch.specs.Reducing.{ReducingMeets}
use Rattle.rinv_laws.specs.Group.{HaltsInGroup, IsGroupBasis}
use Rattle.rinv_parts.proofs.Stored.{normal-over as over}

over-ideal : (p v : ℕ) (fs hs gs : List Poly) → IsGroebnerBasis (residue_ops p) grevlex v fs hs → IsReducedGroebnerBasis (residue_ops p) grevlex v hs gs → IsReducedGroebnerBasis (residue_ops p) grevlex v fs gs
over-ideal p v fs hs gs b r = record {
  basis = basis-of (residue_ops p) (residue_laws p) (residue_field_laws p) grevlex v (grevlex_orders v) fs hs gs b.ideal r.basis;
  monic = r.monic;
  apart = r.apart;
}

-- what the two calls answer, in their ring and on their list, says this of the group
pub group_basis-of : (s : System) (p v : ℕ) (fs : List Poly) (found : Found ℕ) (gs : List Poly) → p ≡ s.p → v ≡ group_count s → fs ≡ s.ideal
    → Journal (residue_ops p) grevlex fs found.journal found.polys → IsComplete (residue_ops p) grevlex found.journal found.polys
    → All (IsNormal (residue_ops p) (λ c. nat_lt c p) v) found.polys → IsGroebnerBasis (residue_ops p) grevlex v fs found.polys
    → IsReducedGroebnerBasis (residue_ops p) grevlex v found.polys gs → Ascend (residue_ops p) grevlex gs → All (IsNormal (residue_ops p) (λ c. nat_lt c p) v) gs
    → IsGroupBasis s found gs
group_basis-of s p v fs found gs a b c journal complete normal basis reduced ascending reduced_normal = record {
  journal = subst (λ (q : ℕ). Journal (residue_ops q) grevlex s.ideal found.journal found.polys) a (subst (λ (hs : List Poly). Journal (residue_ops p) grevlex hs found.journal found.polys) c journal);
  complete = subst (λ (q : ℕ). IsComplete (residue_ops q) grevlex found.journal found.polys) a complete;
  normal = over s.p p (group_count s) v found.polys found.polys (sym a) (sym b) refl normal;
  reduced_basis =
      subst (λ (q : ℕ). IsReducedGroebnerBasis (residue_ops q) grevlex (group_count s) s.ideal gs) a
      (subst (λ (w : ℕ). IsReducedGroebnerBasis (residue_ops p) grevlex w s.ideal gs) b
      (subst (λ (hs : List Poly). IsReducedGroebnerBasis (residue_ops p) grevlex v hs gs) c (over-ideal p v fs found.polys gs basis reduced)));
  ascending = subst (λ (q : ℕ). Ascend (residue_ops q) grevlex gs) a ascending;
  reduced_normal = over s.p p (group_count s) v gs gs (sym a) (sym b) refl reduced_normal;
}

-- ---- where a run halts

module _ (s : System) (p v : ℕ) (fs : List Poly) (field : p ≡ s.p) (vars : v ≡ group_count s) (is : fs ≡ s.ideal) (before after : Budget) where
  -- in its pairs
  pub stops-over : {R : Type 0} (e : Stop R ℕ) → StopsSo (Halts (residue_ops p) (λ c. nat_lt c p) never v grevlex fs before after) e → StopsSo (HaltsInGroup s before after) e
  stops-over (Incomplete h) m =
      inl (subst (λ (q : ℕ). Halts (residue_ops q) (λ c. nat_lt c q) never (group_count s) grevlex s.ideal before after h) field
      (subst (λ (w : ℕ). Halts (residue_ops p) (λ c. nat_lt c p) never w grevlex s.ideal before after h) vars
      (subst (λ (gs : List Poly). Halts (residue_ops p) (λ c. nat_lt c p) never v grevlex gs before after h) is m)))
  stops-over NoMemory m = tt

  -- in the making of the reduced basis
  pub reducing-halts : (found : Found ℕ) (working : Poly) (left right : ℕ) → Journal (residue_ops p) grevlex fs found.journal found.polys → IsComplete (residue_ops p) grevlex found.journal found.polys → SpendsOn found.journal 0 before after
      → IsTrue (is_zero (residue_ops p) working) → ReducingMeets (residue_ops p) (λ c. nat_lt c p) never v grevlex found.polys left right
      → HaltsInGroup s before after (record { polys = found.polys; journal = found.journal; working = working; origin = None; why = Degree left right })
  reducing-halts found working left right journal complete spent idle meets = inr (record {
    journal = subst (λ (q : ℕ). Journal (residue_ops q) grevlex s.ideal found.journal found.polys) field (subst (λ (gs : List Poly). Journal (residue_ops p) grevlex gs found.journal found.polys) is journal);
    complete = subst (λ (q : ℕ). IsComplete (residue_ops q) grevlex found.journal found.polys) field complete;
    idle = subst (λ (q : ℕ). IsTrue (is_zero (residue_ops q) working)) field idle;
    none = refl;
    spent = spent;
    left = left;
    right = right;
    why = refl;
    meets = subst (λ (q : ℕ). ReducingMeets (residue_ops q) (λ c. nat_lt c q) never (group_count s) grevlex found.polys left right) field
        (subst (λ (w : ℕ). ReducingMeets (residue_ops p) (λ c. nat_lt c p) never w grevlex found.polys left right) vars meets);
  })
