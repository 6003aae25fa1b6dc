-- The basis of the action's ideal, from what Buchberger's algorithm answers on the generators as they are stored.
--   journal-over             a journal, over a list that is the same place by place
--   sparing-over             a sparing journal, in the same way
--   action_basis-of          what is known of the basis
--   stops-over               where the run halts
use Rattle.std.proofs.Common.{◌≡◌, ℕ, Bool, true, false, cond, not, List, [], ◌∷◌, refl, sym, ◌∙◌, subst, nat_lt}
use Rattle.std.specs.declared.cmp.Ordering.{Ordering}
use Rattle.rinv_algebra.specs.Ring.{RingOps, RingLaws}
use Rattle.rinv_algebra.specs.Residue.{residue_ops}
use Rattle.rinv_algebra.specs.Polynomial.{Polynomial, is_zero}
use Rattle.rinv_algebra.proofs.Degrees.{is_zero-same}
use Rattle.rinv_algebra.proofs.PolynomialLaws.{poly_laws}
use Rattle.rinv_algebra.proofs.ResidueLaws.{residue_laws}
use Rattle.rinv_groebner.specs.Division.{AreSame}
use Rattle.rinv_groebner.specs.Journal.{Entry, Journal, begin, enter, IsComplete, nonzeros}
use Rattle.rinv_groebner.specs.Sparing.{IsSparing}
use Rattle.rinv_sub.specs.Refusal.{never}
use Rattle.rinv_defs.specs.System.{System, Poly}
use Rattle.rinv_defs.specs.PairConditions.{action_order}
use Rattle.rinv_defs.specs.Extended.{action_ideal}
use Rattle.rinv_div.specs.declared.budget.Budget.{Budget}
use Rattle.rinv_buch.specs.declared.kinds.Stop.{Stop}
use Rattle.rinv_buch.specs.declared.kinds.Stop.TheVariants.{Incomplete, NoMemory}
use Rattle.rinv_buch.specs.Kinds.{Found}
use Rattle.rinv_buch.specs.Causes.{Halts, StopsSo}
use Rattle.rinv_parts.specs.Points.{AreStored, ArePolynomials}
use Rattle.rinv_parts.proofs.Stored.{stored-same, normal-over}
use Rattle.rinv_reduction.specs.Localised.{all_count}
use Rattle.rinv_action.specs.Action.{IsActionBasis, HaltsInAction}

module _ {E : Type 0} (o : RingOps E) (l : RingLaws o) where
  -- lists that are the same as a third
  same-lists : (fs gs hs : List (Polynomial E)) → AreSame o fs gs → AreSame o gs hs → AreSame o fs hs
  same-lists [] [] [] a b = tt
  same-lists [] [] (h ∷ hs) a b = absurd b
  same-lists [] (g ∷ gs) hs a b = absurd a
  same-lists (f ∷ fs) [] hs a b = absurd a
  same-lists (f ∷ fs) (g ∷ gs) [] a b = absurd b
  same-lists (f ∷ fs) (g ∷ gs) (h ∷ hs) a b = ((poly_laws o l).same_trans f g h a.0 b.0, same-lists fs gs hs a.1 b.1)

  -- what is not zero of them
  nonzeros-alike : (fs gs : List (Polynomial E)) → AreSame o fs gs → AreSame o (nonzeros o fs) (nonzeros o gs)
  nonzeros-alike [] [] a = tt
  nonzeros-alike [] (g ∷ gs) a = absurd a
  nonzeros-alike (f ∷ fs) [] a = absurd a
  nonzeros-alike (f ∷ fs) (g ∷ gs) a = go (is_zero o f) (is_zero o g) (is_zero-same o l f g a.0) (nonzeros-alike fs gs a.1)
    where
      go : (x y : Bool) → x ≡ y → AreSame o (nonzeros o fs) (nonzeros o gs) → AreSame o (cond (not x) (f ∷ nonzeros o fs) (nonzeros o fs)) (cond (not y) (g ∷ nonzeros o gs) (nonzeros o gs))
      go true y e rest = subst (λ (b : Bool). AreSame o (nonzeros o fs) (cond (not b) (g ∷ nonzeros o gs) (nonzeros o gs))) e rest
      go false y e rest = subst (λ (b : Bool). AreSame o (f ∷ nonzeros o fs) (cond (not b) (g ∷ nonzeros o gs) (nonzeros o gs))) e (a.0, rest)

  -- a journal over the one is one over the other
  pub journal-over : (cmp : List ℕ → List ℕ → Ordering) (fs gs : List (Polynomial E)) (journal : List Entry) (list : List (Polynomial E)) → AreSame o fs gs → Journal o cmp fs journal list → Journal o cmp gs journal list
  journal-over cmp fs gs _ _ same (begin list is) = begin list (same-lists list (nonzeros o fs) (nonzeros o gs) is (nonzeros-alike fs gs same))
  journal-over cmp fs gs _ _ same (enter journal list e made before entry) = enter journal list e made (journal-over cmp fs gs journal list same before) entry

  same-back : (fs gs : List (Polynomial E)) → AreSame o fs gs → AreSame o gs fs
  same-back [] [] a = tt
  same-back [] (g ∷ gs) a = absurd a
  same-back (f ∷ fs) [] a = absurd a
  same-back (f ∷ fs) (g ∷ gs) a = ((poly_laws o l).same_sym f g a.0, same-back fs gs a.1)

  pub sparing-over : (cmp : List ℕ → List ℕ → Ordering) (fs gs : List (Polynomial E)) (journal : List Entry) → AreSame o fs gs → IsSparing o cmp fs journal → IsSparing o cmp gs journal
  sparing-over cmp fs gs journal same sparing before after e list whole made = sparing before after e list whole (journal-over cmp gs fs before list (same-back fs gs same) made)

-- in a ring and an order that are those of the action, on generators that are stored
module _ (s : System) (p v : ℕ) (cmp : List ℕ → List ℕ → Ordering) (fs : List Poly) (field : p ≡ s.p) (vars : v ≡ all_count s) (order : cmp ≡ action_order s) (stored : AreStored s.p (all_count s) (action_ideal s) fs) where
  same : AreSame (residue_ops s.p) fs (action_ideal s)
  same = stored-same s.p (all_count s) (action_ideal s) fs stored

  moved : (journal : List Entry) (list : List Poly) → Journal (residue_ops p) cmp fs journal list → Journal (residue_ops s.p) (action_order s) (action_ideal s) journal list
  moved journal list h = journal-over (residue_ops s.p) (residue_laws s.p) (action_order s) fs (action_ideal s) journal list same
      (subst (λ (c : List ℕ → List ℕ → Ordering). Journal (residue_ops s.p) c fs journal list) order (subst (λ (q : ℕ). Journal (residue_ops q) cmp fs journal list) field h))

  pub action_basis-of : (found : Found ℕ) → Journal (residue_ops p) cmp fs found.journal found.polys → IsComplete (residue_ops p) cmp found.journal found.polys → ArePolynomials p v found.polys → IsActionBasis s found
  action_basis-of found journal complete normal = record {
    journal = moved found.journal found.polys journal;
    complete = subst (λ (c : List ℕ → List ℕ → Ordering). IsComplete (residue_ops s.p) c found.journal found.polys) order (subst (λ (q : ℕ). IsComplete (residue_ops q) cmp found.journal found.polys) field complete);
    normal = normal-over s.p p (all_count s) v found.polys found.polys (sym field) (sym vars) refl normal;
  }

  pub stops-over : {R : Type 0} (before after : Budget) (e : Stop R ℕ) → StopsSo (Halts (residue_ops p) (λ c. nat_lt c p) never v cmp fs before after) e → StopsSo (HaltsInAction s before after) e
  stops-over before after (Incomplete h) m = record {
    journal = journal-over (residue_ops s.p) (residue_laws s.p) (action_order s) fs (action_ideal s) h.journal h.polys same there.journal;
    taken = there.taken;
    at_work = there.at_work;
    sparing = sparing-over (residue_ops s.p) (residue_laws s.p) (action_order s) fs (action_ideal s) h.journal same there.sparing;
    spent = there.spent;
    cause = there.cause;
  }
    where
      there : Halts (residue_ops s.p) (λ c. nat_lt c s.p) never (all_count s) (action_order s) fs before after h
      there = subst (λ (c : List ℕ → List ℕ → Ordering). Halts (residue_ops s.p) (λ c. nat_lt c s.p) never (all_count s) c fs before after h) order
          (subst (λ (q : ℕ). Halts (residue_ops q) (λ c. nat_lt c q) never (all_count s) cmp fs before after h) field
          (subst (λ (w : ℕ). Halts (residue_ops p) (λ c. nat_lt c p) never w cmp fs before after h) vars m))
  stops-over before after NoMemory m = tt
