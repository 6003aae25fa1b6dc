-- The part of the reduced basis without the group's variables, from the basis' elements without them.
--   basis-nonzero, basis-groebner    what the journal says of the basis
--   free-normal, free-nonzero, free-groebner    of its elements without the group's variables
--   cut-is               what is reduced of these is the cut
use Rattle.std.proofs.Common.{◌≡◌, ℕ, Bool, false, List, [], ◌∷◌, nat_lt, sym, ◌∙◌, ap, subst, All, IsTrue}
use Rattle.std.specs.List.{list_all}
use Rattle.std.specs.declared.cmp.Ordering.{Ordering}
use Rattle.std.proofs.lemmas.List.Elements.{All-nil, All-cons, All-filter}
use Rattle.rinv_algebra.specs.Ring.{RingLaws, FieldLaws, RingOps}
use Rattle.rinv_algebra.specs.Residue.{residue_ops}
use Rattle.rinv_algebra.specs.Polynomial.{is_zero}
use Rattle.rinv_algebra.specs.Normal.{is_in_variables, IsNormal}
use Rattle.rinv_algebra.proofs.ResidueField.{residue_field_laws}
use Rattle.rinv_algebra.proofs.ResidueLaws.{residue_laws}
use Rattle.rinv_algebra.proofs.Same.{both}
use Rattle.rinv_groebner.specs.Basis.{AreNonzero, IsGroebnerBasis}
use Rattle.rinv_groebner.specs.Elimination.{is_free, free_part}
use Rattle.rinv_groebner.specs.Orders.{AreInVariables}
use Rattle.rinv_groebner.specs.Reduced.{IsReducedGroebnerBasis, Ascend}
use Rattle.rinv_groebner.proofs.JournalBasis.{journal-nonzero, journal-basis}
use Rattle.rinv_groebner.proofs.ListElements.{AllFirst, all_first}
use Rattle.rinv_defs.specs.System.{System, Poly, group_count}
use Rattle.rinv_defs.specs.SystemForm.{IsSystem}
use Rattle.rinv_defs.specs.PairConditions.{action_order, leading}
use Rattle.rinv_defs.specs.Extended.{action_ideal}
use Rattle.rinv_ring.specs.Fault.{DegreesMeet}
use Rattle.rinv_ring.specs.declared.fault.RingFault.{RingFault}
use Rattle.rinv_sub.specs.Refusal.{never}
use Rattle.rinv_buch.specs.Kinds.{Found}
use Rattle.rinv_buch.specs.Reducing.{ReducingMeets}
use Rattle.rinv_buch.proofs.InVariables.{all-in_variables}
use Rattle.rinv_buch.proofs.OwnIdeal.{nonzero-each}
use Rattle.rinv_parts.specs.Points.{ArePolynomials}
use Rattle.rinv_cut.proofs.FreeBasis.{free-basis}
use Rattle.rinv_cut.proofs.Joined.{joined-basis}
use Rattle.rinv_reduction.specs.Localised.{all_count, IsCut}
use Rattle.rinv_elim.specs.Action.{IsActionBasis, EliminationMeets}
use Rattle.rinv_elim.proofs.CutElements.{action_orders, group_eliminated}
use Rattle.rinv_elim.proofs.IdealVariables.{ideal_in}

module _ (s : System) (form : IsSystem s) (found : Found ℕ) (basis : IsActionBasis s found) where
  abbrev o : RingOps ℕ
  o = residue_ops s.p

  abbrev l : RingLaws o
  l = residue_laws s.p

  abbrev field_laws : FieldLaws o
  field_laws = residue_field_laws s.p

  abbrev cmp : List ℕ → List ℕ → Ordering
  cmp = action_order s

  given_first : AllFirst o l (all_count s) (action_ideal s)
  given_first = all_first o l (all_count s) (action_ideal s) (ideal_in s form)

  pub basis-nonzero : AreNonzero (residue_ops s.p) found.polys
  basis-nonzero = journal-nonzero o l field_laws cmp (all_count s) (action_orders s) (action_ideal s) given_first basis.journal

  pub basis-groebner : IsGroebnerBasis (residue_ops s.p) (action_order s) (all_count s) (action_ideal s) found.polys
  basis-groebner = journal-basis o l field_laws cmp (all_count s) (action_orders s) (action_ideal s) given_first basis.journal basis.complete

  pub nonzero-all : All (λ h. is_zero (residue_ops s.p) h ≡ false) found.polys
  nonzero-all = nonzero-each o found.polys basis-nonzero

  polys_in : AreInVariables (all_count s) found.polys
  polys_in = all-in_variables o (λ c. nat_lt c s.p) (all_count s) found.polys basis.normal

  abbrev ps : List Poly
  ps = free_part (residue_ops s.p) (action_order s) (group_count s) found.polys

  abbrev test : Poly → Bool
  test h = is_free (group_count s) (leading s h)

  -- ---- the elements without the group's variables, in a ring and an order that are those of the action

  module _ (p v : ℕ) (order : List ℕ → List ℕ → Ordering) (polys : List Poly) (field : p ≡ s.p) (vars : v ≡ all_count s) (ordered : order ≡ action_order s) (are : polys ≡ free_part (residue_ops p) order (group_count s) found.polys) where
    are_free : polys ≡ ps
    are_free = are ∙ ap (λ (q : ℕ). free_part (residue_ops q) order (group_count s) found.polys) field ∙ ap (λ (c : List ℕ → List ℕ → Ordering). free_part (residue_ops s.p) c (group_count s) found.polys) ordered

    -- what holds of these in the action's ring holds in this one
    moved : (P : ℕ → ℕ → (List ℕ → List ℕ → Ordering) → List Poly → Type 0) → P s.p (all_count s) (action_order s) ps → P p v order polys
    moved P h = subst (λ (q : ℕ). P q v order polys) (sym field) (subst (λ (w : ℕ). P s.p w order polys) (sym vars) (subst (λ (c : List ℕ → List ℕ → Ordering). P s.p (all_count s) c polys) (sym ordered) (subst (P s.p (all_count s) (action_order s)) (sym are_free) h)))

    back : (P : ℕ → ℕ → (List ℕ → List ℕ → Ordering) → List Poly → Type 0) → P p v order polys → P s.p (all_count s) (action_order s) ps
    back P h = subst (P s.p (all_count s) (action_order s)) are_free (subst (λ (c : List ℕ → List ℕ → Ordering). P s.p (all_count s) c polys) ordered (subst (λ (w : ℕ). P s.p w order polys) vars (subst (λ (q : ℕ). P q v order polys) field h)))

    pub free-normal : ArePolynomials p v polys
    free-normal = moved (λ q w c hs. ArePolynomials q w hs) (All-filter test (IsNormal o (λ c. nat_lt c s.p) (all_count s)) found.polys basis.normal)

    pub free-nonzero : All (λ h. is_zero (residue_ops p) h ≡ false) polys
    free-nonzero = moved (λ q w c hs. All (λ h. is_zero (residue_ops q) h ≡ false) hs) (All-filter test (λ h. is_zero o h ≡ false) found.polys nonzero-all)

    pub free-groebner : IsGroebnerBasis (residue_ops p) order v polys polys
    free-groebner = moved (λ q w c hs. IsGroebnerBasis (residue_ops q) c w hs hs) (free-basis o l field_laws cmp (all_count s) (group_count s) (action_orders s) (group_eliminated s) (action_ideal s) found.polys (all_first o l (all_count s) found.polys polys_in) basis-nonzero basis-groebner)

    -- what is reduced of these is the cut
    pub cut-is : (gs : List Poly) → IsReducedGroebnerBasis (residue_ops p) order v polys gs → Ascend (residue_ops p) order gs → ArePolynomials p v gs → IsCut s gs
    cut-is gs reduced up normal = made (joined-basis o l field_laws cmp (all_count s) (group_count s) (action_orders s) (group_eliminated s) (action_ideal s) found.polys gs polys_in basis-nonzero basis-groebner
        (all-in_variables o (λ c. nat_lt c s.p) (all_count s) gs (back (λ q w c hs. ArePolynomials q w gs) normal)) (back (λ q w c hs. IsReducedGroebnerBasis (residue_ops q) c w hs gs) reduced) (back (λ q w c hs. Ascend (residue_ops q) c gs) up))
      where
        each : (hs : List Poly) → AreInVariables (all_count s) hs → All (λ h. IsTrue (is_in_variables (all_count s) h)) hs
        each [] h = All-nil (λ h. IsTrue (is_in_variables (all_count s) h))
        each (x ∷ hs) h = let parts = both (is_in_variables (all_count s) x) (list_all (is_in_variables (all_count s)) hs) h in All-cons (λ h. IsTrue (is_in_variables (all_count s) h)) x hs parts.0 (each hs parts.1)

        made : (bs : List Poly) × IsReducedGroebnerBasis o cmp (all_count s) (action_ideal s) bs × AreInVariables (all_count s) bs × Ascend o cmp bs × (gs ≡ free_part o cmp (group_count s) bs) → IsCut s gs
        made (bs, reduced, inside, up, part) = record { basis = bs; reduced = reduced; in_variables = each bs inside; ascending = up; part = part }

    pub cut-normal : (gs : List Poly) → ArePolynomials p v gs → ArePolynomials s.p (all_count s) gs
    cut-normal gs normal = back (λ q w c hs. ArePolynomials q w gs) normal

    -- degrees are met as these are reduced
    pub elimination-meets : (fault : RingFault) → DegreesMeet (ReducingMeets (residue_ops p) (λ c. nat_lt c p) never v order polys) fault → DegreesMeet (EliminationMeets s found) fault
    elimination-meets fault h = back (λ q w c hs. DegreesMeet (ReducingMeets (residue_ops q) (λ n. nat_lt n q) never w c hs) fault) h
